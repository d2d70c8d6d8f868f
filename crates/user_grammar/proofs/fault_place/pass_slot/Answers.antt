use Rattle.std.proofs.Common.{map, reverse, sym, subst}
use Rattle.proof_lexer.specs.View.{token_view}
use Rattle.user_grammar.specs.Fault.{Follows, before_word, opens}
use Rattle.user_grammar.specs.Finding.{portions_of}
use Rattle.user_grammar.specs.FindingPlaces.{step_view}
use Rattle.user_grammar.proofs.fault_place.pass_slot.Goals as goal

pub returns-then-is_opening : goal.returns-then-is_opening
returns-then-is_opening c =
    let words = reverse (map (λ word. word.now) c.args.walk.now.named.items) in
    subst (λ s. Follows (portions_of c.args.lists.now) (step_view s words) (token_view c.args.token.now) (before_word words)) (sym c.requires.step) (opens (c.is_opening.ensures.0 c.if-is_opening.true))
