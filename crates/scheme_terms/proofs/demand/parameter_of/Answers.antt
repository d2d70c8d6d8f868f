use Rattle.std.proofs.Common.{◌∙◌}
use Rattle.scheme_terms.proofs.Parameters.{parameter_here}
use Rattle.scheme_terms.proofs.demand.parameter_of.Goals as goal

pub returns-then-number_of-index : goal.returns-then-number_of-index
returns-then-number_of-index c =
    parameter_here c.args.args.now c.loop-at.at c.number_of.result c.args.index c.index-args-at.result c.loop-at-test.true c.index-args-at.is
    c.number_of.ensures c.if-number_of-index.true
    ∙ c.loop-at.invariant
