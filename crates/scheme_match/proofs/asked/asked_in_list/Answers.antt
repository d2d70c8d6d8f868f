use Rattle.std.proofs.Common.{map, arith}
use Rattle.binding_terms.specs.View.{tree}
use Rattle.scheme_terms.specs.Demands.{Demands}
use Rattle.scheme_terms.specs.Embedding.{embedded}
use Rattle.scheme_terms.specs.View.{scheme}
use Rattle.scheme_match.specs.Demands.{ListDemands}
use Rattle.scheme_match.proofs.Asking.{passed, list_over}
use Rattle.scheme_match.proofs.asked.asked_in_list.Goals as goal

pub loop-i-preserved : goal.loop-i-preserved
loop-i-preserved c =
    passed (λ xs ys v. ListDemands c.args.m.0 c.args.locals (map scheme xs) (map tree ys) v)
    (λ v. Demands c.args.m.0 c.args.locals (scheme c.index-patterns-i.result) (embedded (tree c.index-targets-i.result)) v) _ _
    c.args.patterns.now c.args.targets.now c.loop-i.i c.index-patterns-i.result c.index-targets-i.result
    (omega (arith, c.min-count.ensures, c.loop-i-test.true)) (omega (arith, c.min-count.ensures, c.loop-i-test.true)) c.index-patterns-i.is c.index-targets-i.is
    (λ v. (λ k. k, λ k. k)) (rw c.in-None.is at c.in_ok-value.ensures)
    c.loop-i.invariant

pub returns : goal.returns
returns c v asked =
    list_over c.args.m.0 c.args.locals c.loop-i.i c.args.patterns.now c.args.targets.now v (omega (arith, c.min-count.ensures, c.loop-i-test.false))
    ((c.loop-i.invariant v).1 asked)
