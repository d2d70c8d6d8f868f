use Rattle.std.proofs.Common.{◌≢◌, map, subst}
use Rattle.std.proofs.lemmas.List.{take_all}
use Rattle.std.specs.List.{AllByRecursion}
use Rattle.term_reader.specs.Splitting.{SlotRange, slot_range}
use Rattle.notation_parser.proofs.Slices.{none_more, place_here}
use Rattle.notation_parser.proofs.in_context.context_place.Goals as goal

pub loop-k-preserved : goal.loop-k-preserved
loop-k-preserved c = none_more c.args.cat.0 c.args.slots.now c.loop-k.k c.loop-k-test.true c.loop-k.invariant c.if-slots-k.false

pub returns-then-slots-k : goal.returns-then-slots-k
returns-then-slots-k c =
    (c.loop-k-test.true, place_here c.args.cat.0 c.args.slots.now c.loop-k.k c.loop-k-test.true c.loop-k.invariant c.if-slots-k.true)

pub returns : goal.returns
returns c =
    subst (λ xs. AllByRecursion (λ (p : SlotRange). p.cat.0 ≢ c.args.cat.0) (map slot_range xs)) (take_all c.loop-k.k c.args.slots.now c.loop-k-test.false) c.loop-k.invariant
