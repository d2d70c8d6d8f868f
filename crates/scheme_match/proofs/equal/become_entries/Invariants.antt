use Rattle.std.proofs.Common.{◌≡◌, ◌↔◌, map, drop}
use Rattle.scheme_terms.specs.Instance.{entries_instance}
use Rattle.scheme_terms.specs.View.{scheme_entry, ground_entry, instance}
use Rattle.scheme_match.proofs.equal.become_entries.Given as goal

abbrev pub invariant-loop-i : goal.invariant-loop-i
invariant-loop-i l =
    (entries_instance (instance l.inst) 0 (map scheme_entry l.patterns) ≡ map ground_entry l.targets)
    ↔ (entries_instance (instance l.inst) l.i (map scheme_entry (drop l.i l.patterns)) ≡ map ground_entry (drop l.i l.targets))
