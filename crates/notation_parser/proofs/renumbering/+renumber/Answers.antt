use Rattle.std.proofs.Common.{arith}
use Rattle.notation_parser.proofs.Again.{done_values}
use Rattle.notation_parser.proofs.renumbering.+renumber.Goals as goal

pub values_again-returns : goal.values_again-returns
values_again-returns t c = done_values c.args.first_new c.args.marks.now c.loop-arg.all c.args.args.now c.loop-arg.arg-index (omega arith) c.loop-arg.invariant
