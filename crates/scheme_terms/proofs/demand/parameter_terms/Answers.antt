use Rattle.std.proofs.Common.{map, ap}
use Rattle.binding_terms.specs.Tree.{var}
use Rattle.binding_terms.specs.View.{tree}
use Rattle.scheme_terms.specs.SchemeTree.{values}
use Rattle.scheme_terms.specs.Demands.{numbers}
use Rattle.scheme_terms.specs.View.{scheme}
use Rattle.scheme_terms.proofs.Parameters.{parameter_pushed}
use Rattle.scheme_terms.proofs.demand.parameter_terms.Goals as goal

pub loop-left-preserved : goal.loop-left-preserved
loop-left-preserved c =
    parameter_pushed tree var (numbers (values (map scheme c.args.args.now))) c.loop-left.left c.loop-left.all.items c.push.new.self.items _ _
    c.loop-left-test.true (ap var c.parameter_of.ensures) c.in_ok-push.ensures.items c.loop-left.invariant
