use Rattle.cell_reader.proofs.Tests.{none_innermost}
use Rattle.cell_reader.proofs.contexts.innermost_local.Goals as goal

pub returns-then-vars-eq0 : goal.returns-then-vars-eq0
returns-then-vars-eq0 c = λ cat i. none_innermost c.args.vars.now cat c.if-vars-eq0.true i
