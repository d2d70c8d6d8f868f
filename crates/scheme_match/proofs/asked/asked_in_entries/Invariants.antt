use Rattle.std.proofs.Common.{◌↔◌, map, drop}
use Rattle.scheme_terms.specs.SchemeTree.{SchemeTree}
use Rattle.scheme_terms.specs.View.{scheme_entry, ground_entry}
use Rattle.scheme_match.specs.Demands.{EntriesDemand}
use Rattle.scheme_match.proofs.asked.asked_in_entries.Given as goal

abbrev pub invariant-loop-i : goal.invariant-loop-i
invariant-loop-i l =
    (v : SchemeTree) → EntriesDemand l.m.0 l.i (map scheme_entry (drop l.i l.patterns)) (map ground_entry (drop l.i l.targets)) v
    ↔ EntriesDemand l.m.0 0 (map scheme_entry l.patterns) (map ground_entry l.targets) v
