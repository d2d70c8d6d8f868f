use Rattle.std.proofs.Common.{◌≡◌, ◌++◌, map, drop}
use Rattle.scheme_terms.specs.Instance.{entries_instance}
use Rattle.scheme_terms.specs.View.{scheme_entry, ground_entry, instance}
use Rattle.theorem_runner.proofs.grounding.add_entries.Given as goal

abbrev pub invariant-loop-i : goal.invariant-loop-i
invariant-loop-i l =
    map ground_entry l.all ++ entries_instance (instance l.inst) l.i (map scheme_entry (drop l.i l.entries))
    ≡ map ground_entry l.initial.all ++ entries_instance (instance l.inst) 0 (map scheme_entry l.entries)
