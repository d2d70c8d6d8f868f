use Rattle.std.proofs.Common.{◌↔◌, map, drop}
use Rattle.scheme_terms.specs.View.{scheme_entry, ground_entry}
use Rattle.derivation_check.specs.Fitting.{EntriesAlike}
use Rattle.derivation_check.proofs.pieces.entries_alike.Given as goal

abbrev pub invariant-loop-i : goal.invariant-loop-i
invariant-loop-i l =
    EntriesAlike (map scheme_entry l.patterns) (map ground_entry l.targets) ↔ EntriesAlike (map scheme_entry (drop l.i l.patterns)) (map ground_entry (drop l.i l.targets))
