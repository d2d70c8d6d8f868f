use Rattle.notation_parser.proofs.Counts.{is_counted, not_counted}
use Rattle.notation_parser.proofs.judgments.slots_of.Goals as goal

pub returns-then-own-cat-clause-count : goal.returns-then-own-cat-clause-count
returns-then-own-cat-clause-count c = rw c.in-Slot.is (is_counted c.in-Slot.own.0 c.args.cat.0 c.if-own-cat.true)

pub returns-else-own-cat-clause-count : goal.returns-else-own-cat-clause-count
returns-else-own-cat-clause-count c = rw c.in-Slot.is (not_counted c.in-Slot.own.0 c.args.cat.0 c.if-own-cat.false)
