use Rattle.std.proofs.Common.{map, ap, ◌∙◌}
use Rattle.scheme_terms.specs.SchemeTree.{local, values}
use Rattle.scheme_terms.specs.Demands.{numbers}
use Rattle.scheme_terms.specs.View.{scheme}
use Rattle.scheme_terms.proofs.Parameters.{parameter_pushed}
use Rattle.scheme_terms.proofs.demand.parameter_schemes.Goals as goal

pub loop-left-preserved : goal.loop-left-preserved
loop-left-preserved c =
    parameter_pushed scheme local (numbers (values (map scheme c.args.args.now))) c.loop-left.left c.loop-left.all.items c.push.new.self.items c.local_at.result _
    c.loop-left-test.true (c.local_at.ensures ∙ ap local c.parameter_of.ensures) c.in_ok-push.ensures.items c.loop-left.invariant
