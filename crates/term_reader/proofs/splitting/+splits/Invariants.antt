use Rattle.std.proofs.Common.{◌+◌, ◌-◌, ◌*◌, ◌≤◌, map, drop, length}
use Rattle.term_reader.specs.Splitting.{tokens_of, Stands, IsHead, IsSplit, AreSplits, split}
use Rattle.term_reader.proofs.splitting.+splits.Given as goal

abbrev pub decreases-splits : goal.decreases-splits
decreases-splits l = 2 * (length l.items.now - l.at)

abbrev pub decreases-slot_splits : goal.decreases-slot_splits
decreases-slot_splits l = 2 * (length l.items.now - l.at) + 1

abbrev pub decreases-binder_splits : goal.decreases-binder_splits
decreases-binder_splits l = 2 * (length l.items.now - l.at) + 1

abbrev pub invariant-slot_splits-loop-end : goal.invariant-slot_splits-loop-end
invariant-slot_splits-loop-end l =
    (l.end ≤ l.to + 1)
    × AreSplits (Stands l.sheet)
    (IsHead l.cat l.binds l.from (l.from + 1) l.end (IsSplit l.sheet.sig.now (tokens_of l.sheet) l.to (drop l.at l.items))) (map split l.all)
