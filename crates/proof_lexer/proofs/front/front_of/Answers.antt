use Rattle.std.proofs.Common.{◌≡◌, ◌∙◌, sym, false, ◌&&◌, ◌||◌, ◌==◌}
use Rattle.std.specs.Str.{chars}
use Rattle.std.proofs.lemmas.Bool.{and_left, and_right, ne_eqb}
use Rattle.sy_base.specs.Tokens.{begins}
use Rattle.proof_lexer.proofs.FrontLemmas.{blank_front, other_goes_on}
use Rattle.proof_lexer.proofs.front.front_of.Goals as goal
use Rattle.proof_lexer.proofs.front.front_of.Goals.{else-first-eq47-via-then-first-eq47+else-opens_comment, else-first-eq47-via-else-first-eq47}

pub returns-then-is_blank : goal.returns-then-is_blank
returns-then-is_blank c =
    blank_front _ _ c.args.first c.requires (sym c.is_blank.ensures ∙ c.if-is_blank.true)

pub symbol-requires-clause-goes_on : goal.symbol-requires-clause-goes_on
symbol-requires-clause-goes_on c =
    let no_comment : ((c.args.first == 47) && begins (λ d. (d == 47) || (d == 42)) (chars c.args.after.now)) ≡ false =
    elim c.else-first-eq47.branch [
      | else-first-eq47-via-then-first-eq47+else-opens_comment w ↦ and_right _ _ (sym w.opens_comment.ensures ∙ w.if-opens_comment.false)
      | else-first-eq47-via-else-first-eq47 w ↦ and_left _ _ (ne_eqb c.args.first 47 w.if-first-eq47.false)
    ] in
    other_goes_on c.args.first (chars c.args.after.now) (sym c.is_blank.ensures ∙ c.if-is_blank.false)
    (sym c.is_single.ensures ∙ c.if-is_single.false) (ne_eqb c.args.first 34 c.if-first-eq34.false)
    (sym c.is_xid_continue.ensures.value ∙ c.if-is_xid_continue.false) no_comment
