use Rattle.std.proofs.Common.{◌∷◌, ◌∙◌, sym, ap, subst, ℕ, List}
use Rattle.std.specs.Str.{chars}
use Rattle.proof_lexer.specs.Front.{IsFront}
use Rattle.proof_lexer.proofs.FrontLemmas.{line_front, star_second}
use Rattle.proof_lexer.proofs.front.comment.Goals as goal

pub returns-then-second-eq47 : goal.returns-then-second-eq47
returns-then-second-eq47 c = line_front _ _ _ c.in-Some.second c.in-Some.ensures.0 c.if-second-eq47.true c.after_run.ensures

pub returns-else-second-eq47 : goal.returns-else-second-eq47
returns-else-second-eq47 c =
    let first = c.in-Some.ensures.0 in
    let star = star_second _ _ c.in-Some.second first c.requires c.if-second-eq47.false in
    let same = ap (λ d. d ∷ chars c.in-Some.inside.now) (sym star) ∙ sym first in
    subst (λ (l : List ℕ). IsFront (47 ∷ l) c.block_comment.result) same c.block_comment.ensures
