use Rattle.std.proofs.Common.{◌≡◌, List, [], map, length, sym, ap, ◌∙◌, subst, arith}
use Rattle.std.specs.Str.{chars}
use Rattle.sy_base.specs.Tokens.{PlainToken, start}
use Rattle.std.proofs.ResultArms.{chosen}
use Rattle.std.proofs.lemmas.List.{map_push, nil_from_length}
use Rattle.std.proofs.lemmas.Bool.{true≢false, eqb-true, eqb-false}
use Rattle.proof_lexer.specs.View.{token_view, kind_number}
use Rattle.proof_lexer.specs.Front.{spot_of}
use Rattle.proof_lexer.proofs.LexLemmas.{Scanned, Scanned-start, Scanned-gap, Scanned-token, step_smaller, stands_at, tokens_at_end, stray_at_end, stray_in_comment, comment_without_end, quote_without_text}
use Rattle.proof_lexer.proofs.lexer.lex.Goals as goal

pub loop-first-init : goal.loop-first-init
loop-first-init c =
    let none = ap (map token_view) c.new-tokens.ensures.items in
    let text = c.decoded.result.0.now in
    subst (λ (ts : List PlainToken). Scanned text ts (start (chars text)) (length text)) (sym none) (Scanned-start text)

pub past-at-requires-clause-room : goal.past-at-requires-clause-room
past-at-requires-clause-room c = omega (arith, c.loop-first.invariant.sizes, c.decoded.ensures.size, c.requires)

pub past-at-requires-clause-line : goal.past-at-requires-clause-line
past-at-requires-clause-line c = c.loop-first.invariant.line

pub loop-first-smaller-in-Gap : goal.loop-first-smaller-in-Gap
loop-first-smaller-in-Gap c =
    step_smaller _ _ _ _ _ (stands_at _ _ _ _ (ap chars c.past-at.ensures.rest) c.in-Gap.ensures) c.past-at.ensures.goes

pub loop-first-preserved-in-Gap : goal.loop-first-preserved-in-Gap
loop-first-preserved-in-Gap c =
    Scanned-gap _ _ _ _ _ _ c.loop-first.invariant (stands_at _ _ _ _ (ap chars c.past-at.ensures.rest) c.in-Gap.ensures) c.past-at.ensures.goes

pub past-next-requires-clause-room : goal.past-next-requires-clause-room
past-next-requires-clause-room c = omega (arith, c.loop-first.invariant.sizes, c.decoded.ensures.size, c.requires)

pub past-next-requires-clause-line : goal.past-next-requires-clause-line
past-next-requires-clause-line c = c.loop-first.invariant.line

pub loop-first-smaller : goal.loop-first-smaller
loop-first-smaller c =
    step_smaller _ _ _ _ _ (stands_at _ _ _ _ (ap chars c.past-next.ensures.rest) c.in-Token.ensures.1) c.past-next.ensures.goes

pub loop-first-preserved : goal.loop-first-preserved
loop-first-preserved c =
    let pushed = chosen _ _ _ _ c.push.ensures.items c.if-is_err.ensures.negation in
    let next = c.past-next.result in
    let more = ap (map token_view) pushed ∙ map_push token_view c.loop-first.tokens.items _ in
    subst (λ (ts : List PlainToken). Scanned c.decoded.result.0.now ts (spot_of next) (length next.rest.now)) (sym more)
    (Scanned-token _ _ _ _ _ _ (kind_number c.in-Token.kind) c.in-Token.text.now c.loop-first.invariant c.in-Token.ensures.0
    (stands_at _ _ _ _ (ap chars c.past-next.ensures.rest) c.in-Token.ensures.1) c.past-next.ensures.goes)

pub returns-then-closes_comment-clause-refused : goal.returns-then-closes_comment-clause-refused
returns-then-closes_comment-clause-refused c =
    stray_in_comment _ _ _ c.decoded.ensures.decoded c.decoded.ensures.utf8 _ _ c.loop-first.invariant.stretch c.in-OpenComment.ensures
    (λ no_close. true≢false (sym c.if-closes_comment.true ∙ c.closes_comment.ensures.1 no_close))

pub returns-in-OpenComment-clause-refused : goal.returns-in-OpenComment-clause-refused
returns-in-OpenComment-clause-refused c =
    comment_without_end _ _ _ c.decoded.ensures.decoded c.decoded.ensures.utf8 _ _ c.loop-first.invariant.stretch c.in-OpenComment.ensures
    (c.closes_comment.ensures.0 c.if-closes_comment.false)

pub returns-in-OpenQuote-clause-refused : goal.returns-in-OpenQuote-clause-refused
returns-in-OpenQuote-clause-refused c =
    quote_without_text _ _ _ c.decoded.ensures.decoded c.decoded.ensures.utf8 _ _ c.loop-first.invariant.stretch c.in-OpenQuote.ensures

pub returns-then-is_empty-clause-tokens : goal.returns-then-is_empty-clause-tokens
returns-then-is_empty-clause-tokens c =
    let none = nil_from_length c.decoded.result.1.now (eqb-true _ 0 (sym c.is_empty.ensures ∙ c.if-is_empty.true)) in
    tokens_at_end _ _ _ c.decoded.ensures.decoded c.decoded.ensures.utf8 _ _ c.loop-first.invariant.stretch c.in_default.ensures.0 none

pub returns-clause-refused : goal.returns-clause-refused
returns-clause-refused c =
    let some = λ (none : c.decoded.result.1.now ≡ []). eqb-false _ 0 (sym c.is_empty.ensures ∙ c.if-is_empty.false) (ap length none) in
    stray_at_end _ _ _ c.decoded.ensures.decoded c.decoded.ensures.utf8 _ _ c.loop-first.invariant.stretch c.in_default.ensures.0 some
