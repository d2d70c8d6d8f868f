use Rattle.std.proofs.Common.{map, reverse, sym, subst}
use Rattle.proof_lexer.specs.View.{token_view}
use Rattle.user_grammar.specs.Fault.{Follows, behind_slot, before_word, closes_behind, separator}
use Rattle.user_grammar.specs.Finding.{portions_of}
use Rattle.user_grammar.specs.FindingPlaces.{step_view}
use Rattle.user_grammar.proofs.Tests.{refused}
use Rattle.user_grammar.proofs.fault_place.pass_comma.Goals as goal

pub returns-then-is_closing : goal.returns-then-is_closing
returns-then-is_closing c =
    let words = reverse (map (λ word. word.now) c.args.walk.now.named.items) in
    subst (λ s. Follows (portions_of c.args.lists.now) (step_view s words) (token_view c.args.token.now) (behind_slot words)) (sym c.requires) (closes_behind (c.is_closing.ensures.0 c.if-is_closing.true))

pub returns : goal.returns
returns c =
    let words = reverse (map (λ word. word.now) c.args.walk.now.named.items) in
    subst (λ s. Follows (portions_of c.args.lists.now) (step_view s words) (token_view c.args.token.now) (before_word words)) (sym c.requires) (separator (refused c.is_closing.result c.is_closing.ensures c.if-is_closing.false))
