use Rattle.std.proofs.Common.{◌≡◌, map, drop}
use Rattle.scheme_terms.specs.View.{ground_entry}
use Rattle.derivation_text.specs.Text.{are_first}
use Rattle.derivation_text.proofs.same.are_first.Given as goal

abbrev pub invariant-loop-i : goal.invariant-loop-i
invariant-loop-i l =
    are_first (map ground_entry (drop l.i l.first)) (map ground_entry (drop l.i l.entries))
    ≡ are_first (map ground_entry l.first) (map ground_entry l.entries)
