use Rattle.std.proofs.Common.{◌≡◌, ◌++◌, ◌+◌, length, List, [], ◌∷◌, map, drop, sym, subst}
use Rattle.proof_lexer.specs.View.{token_view}
use Rattle.proof_lexer.specs.declared.token.Token.{Token as Lexed}
use Rattle.rule_schemes.specs.View.{theory}
use Rattle.term_reader.specs.View.{token}
use Rattle.derivation_text.specs.Contents.{contents, last_of}
use Rattle.derivation_text.specs.Found.{AllDerive}
use Rattle.derivation_text.specs.Lines.{text_lines}
use Rattle.derivation_text.specs.Valid.{AreValid, nothing_around}
use Rattle.derivation_text.specs.declared.derivs.Named.{Named}
use Rattle.derivation_text.specs.declared.derivs.Derivs.{Derivs}
use Rattle.derivation_text.specs.declared.reader.Seen.TheVariants.{Wrong, Tree, End}
use Rattle.derivation_text.proofs.ReaderLemmas.{Reaches, reaches_wrong, reaches_last, reaches_more, reaches_tree, names_derive, lines_at, next_within, next_at, none_lines, some_lines, seen_as}
use Rattle.derivation_text.proofs.reader.read_lines.Goals as goal
use Rattle.binding_terms.proofs.Lists.{option_case}

pub returns-in-Wrong : goal.returns-in-Wrong
returns-in-Wrong c =
    let th = theory c.args.sys.now in
    let line = map token c.first_line.result.0.now in
    let lines = lines_at c.args.tokens.now c.loop-at.at line c.first_line.result.1.now c.first_line.ensures.lines in
    let seen = seen_as th c.loop-at.named _ line c.in_ok-look_at.field-0 Wrong c.as_slice.ensures c.in_ok-look_at.ensures c.in-Wrong.is in
    reaches_wrong th (text_lines (map token_view c.args.tokens.now)) _ _ lines.0 line c.loop-at.named c.loop-at.invariant.2 lines.1 seen.0 seen.1

pub returns-in-End : goal.returns-in-End
returns-in-End c =
    let th = theory c.args.sys.now in
    let all = text_lines (map token_view c.args.tokens.now) in
    let line = map token c.first_line.result.0.now in
    let more = c.first_line.result.1.now in
    let lines = lines_at c.args.tokens.now c.loop-at.at line more c.first_line.ensures.lines in
    let seen = seen_as th c.loop-at.named _ line c.in_ok-look_at.field-0 (End c.in-End.ending) c.as_slice.ensures c.in_ok-look_at.ensures c.in-End.is in
    option_case c.ended.result
    (λ some. reaches_more th all _ _ lines.0 line c.loop-at.named c.loop-at.invariant.2 lines.1 seen.0 (some_lines more some))
    (λ d h. subst (λ (x : Derivs). AreValid th nothing_around [] all (contents x) × AllDerive th x.named) (sym h.1)
    (reaches_last th all _ _ lines.0 line c.loop-at.named (last_of c.in-End.ending) c.loop-at.invariant.2 lines.1 (none_lines more h.0) seen.1, c.loop-at.invariant.1))
    c.ended.ensures

pub loop-at-preserved : goal.loop-at-preserved
loop-at-preserved c =
    let th = theory c.args.sys.now in
    let all = text_lines (map token_view c.args.tokens.now) in
    let front = c.first_line.result.0.now in
    let line = map token front in
    let more = c.first_line.result.1.now in
    let lines = lines_at c.args.tokens.now c.loop-at.at line more c.first_line.ensures.lines in
    let names = seen_as th c.loop-at.named _ line c.in_ok-look_at.field-0 (Tree c.in-Tree.one) c.as_slice.ensures c.in_ok-look_at.ensures c.in-Tree.is in
    let so_far = c.always_system.ensures in
    let known : c.push.new.self ≡ c.loop-at.named ++ c.in-Tree.one ∷ [] = c.in_ok-push-in-Tree.ensures.ok in
    let next = next_at c.args.tokens.now front more c.loop-at.at c.loop-at.invariant.0 c.first_line.ensures.parts in (
      next_within c.args.tokens.now front more c.loop-at.at c.loop-at.invariant.0 c.first_line.ensures.parts,
      subst (AllDerive th) (sym known) (names_derive th c.requires so_far c.loop-at.named line c.in-Tree.one c.loop-at.invariant.1 names),
      subst (λ (ks : List Named). Reaches th all ks (text_lines (map token_view (drop (c.loop-at.at + length front) c.args.tokens.now)))) (sym known)
          (subst (λ (ts : List Lexed). Reaches th all (c.loop-at.named ++ c.in-Tree.one ∷ []) (text_lines (map token_view ts))) (sym next)
          (reaches_tree th c.requires so_far all _ _ lines.0 line c.loop-at.named c.in-Tree.one c.loop-at.invariant.2 lines.1 names)),
    )
