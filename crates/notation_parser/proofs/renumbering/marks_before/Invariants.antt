use Rattle.std.proofs.Common.{◌≡◌, ◌+◌, ◌-◌, ◌≤◌, drop}
use Rattle.notation_parser.specs.Used.{marks_before}
use Rattle.notation_parser.proofs.renumbering.marks_before.Given as goal

abbrev pub invariant-loop-i : goal.invariant-loop-i
invariant-loop-i l = (l.count ≤ l.i) × (l.i ≤ l.at) × (marks_before l.marks l.at ≡ l.count + marks_before (drop l.i l.marks) (l.at - l.i))
