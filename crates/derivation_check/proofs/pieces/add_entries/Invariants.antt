use Rattle.std.proofs.Common.{◌≡◌, ◌++◌, map, drop}
use Rattle.scheme_terms.specs.View.{scheme_entry, ground_entry}
use Rattle.derivation_check.specs.Fitting.{entry_pieces}
use Rattle.derivation_check.specs.Pieces.{piece}
use Rattle.derivation_check.proofs.pieces.add_entries.Given as goal

abbrev pub invariant-loop-i : goal.invariant-loop-i
invariant-loop-i l =
    map piece l.pieces.items ++ entry_pieces l.i (map scheme_entry (drop l.i l.patterns)) (map ground_entry (drop l.i l.targets))
    ≡ map piece l.initial.pieces.items ++ entry_pieces 0 (map scheme_entry l.patterns) (map ground_entry l.targets)
