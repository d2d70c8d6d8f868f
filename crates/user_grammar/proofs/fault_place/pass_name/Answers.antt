use Rattle.std.proofs.Common.{◌∷◌, map, reverse, sym, subst}
use Rattle.proof_lexer.specs.View.{token_view}
use Rattle.user_grammar.specs.Fault.{Follows, behind_slot, behind_word, closes, in_brackets}
use Rattle.user_grammar.specs.Finding.{portions_of}
use Rattle.user_grammar.specs.FindingPlaces.{step_view, walk_view}
use Rattle.user_grammar.proofs.Tests.{refused}
use Rattle.user_grammar.proofs.FaultTokens.{pushed}
use Rattle.user_grammar.proofs.fault_place.pass_name.Goals as goal

pub returns-then-is_closing : goal.returns-then-is_closing
returns-then-is_closing c =
    let words = reverse (map (λ word. word.now) c.args.walk.now.named.items) in
    subst (λ s. Follows (portions_of c.args.lists.now) (step_view s words) (token_view c.args.token.now) (behind_slot words)) (sym c.requires) (closes (c.is_closing.ensures.0 c.if-is_closing.true))

pub returns : goal.returns
returns c =
    let words = reverse (map (λ word. word.now) c.args.walk.now.named.items) in
    let t = token_view c.args.token.now in
    subst (λ ws. Follows (portions_of c.args.lists.now) (walk_view c.args.walk.now) t (behind_word ws))
    (pushed (λ word. word.now) c.args.walk.now.named.items c.push.new.self.items c.as_bytes.result t.text c.in_ok-push.ensures.items c.as_bytes.ensures.value)
    (subst (λ s. Follows (portions_of c.args.lists.now) (step_view s words) t (behind_word (t.text ∷ words))) (sym c.requires)
    (in_brackets (refused c.is_closing.result c.is_closing.ensures c.if-is_closing.false)))
