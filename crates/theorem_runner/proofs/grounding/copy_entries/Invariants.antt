use Rattle.std.proofs.Common.{◌≡◌, map, take}
use Rattle.scheme_terms.specs.View.{ground_entry}
use Rattle.theorem_runner.proofs.grounding.copy_entries.Given as goal

abbrev pub invariant-loop-entry : goal.invariant-loop-entry
invariant-loop-entry l = map ground_entry l.all ≡ map ground_entry (take l.entry-index l.entries)
