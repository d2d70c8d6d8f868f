use Rattle.notation_parser.proofs.Again.{found_before}
use Rattle.notation_parser.proofs.renumbering.marks_before.Goals as goal

pub returns-then-i-at : goal.returns-then-i-at
returns-then-i-at c = found_before c.args.marks.now c.args.at c.loop-i.i c.loop-i.count c.if-i-at.true c.loop-i.invariant.2
