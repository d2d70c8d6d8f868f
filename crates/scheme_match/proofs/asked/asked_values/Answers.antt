use Rattle.std.proofs.Common.{map, subst}
use Rattle.binding_terms.specs.View.{tree}
use Rattle.scheme_terms.specs.Embedding.{embedded}
use Rattle.scheme_terms.specs.View.{context_value}
use Rattle.scheme_match.specs.Pairs.{matched}
use Rattle.scheme_match.specs.Demands.{PairsDemand, IsAsked}
use Rattle.scheme_match.proofs.Asking.{asked_more}
use Rattle.scheme_match.proofs.asked.asked_values.Goals as goal

pub loop-i-preserved : goal.loop-i-preserved
loop-i-preserved c =
    let found = rw c.in-Some.is at c.in_ok-value.ensures in
    asked_more (IsAsked (context_value c.args.root.now) (map matched c.args.pairs.now)) c.loop-i.all c.push.new.self c.loop-i.i c.in-Some.value
    c.in_ok-push-in-Some.ensures.ok
    (subst (λ n. PairsDemand (context_value c.args.root.now) n (map matched c.args.pairs.now) (embedded (tree c.in-Some.value))) c.in_ok-number.ensures found)
    c.loop-i.invariant
