use Rattle.std.proofs.Common.{◌+◌, ◌-◌, ◌*◌, ◌≤◌, [], map, drop, length}
use Rattle.term_reader.specs.Splitting.{tokens_of, Stands, IsHead, GoesOn, AreSplits, split}
use Rattle.term_reader.proofs.brackets.+brackets.Given as goal

abbrev pub decreases-argument_splits : goal.decreases-argument_splits
decreases-argument_splits l = 2 * (length l.params.now - l.at)

abbrev pub decreases-after_argument : goal.decreases-after_argument
decreases-after_argument l = 2 * (length l.params.now - l.at) + 1

abbrev pub invariant-argument_splits-loop-end : goal.invariant-argument_splits-loop-end
invariant-argument_splits-loop-end l =
    (l.end ≤ l.to)
    × AreSplits (Stands l.sheet)
    (IsHead l.cat [] l.from l.from l.end (GoesOn (tokens_of l.sheet) l.to (drop (l.at + 1) l.params))) (map split l.all)
