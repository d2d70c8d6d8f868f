use Rattle.std.proofs.Common.{◌≡◌, map, take}
use Rattle.scheme_terms.specs.View.{scheme_entry}
use Rattle.form_raising.proofs.placing.copied_entries.Given as goal

abbrev pub invariant-loop-entry : goal.invariant-loop-entry
invariant-loop-entry l = map scheme_entry l.all ≡ map scheme_entry (take l.entry-index l.entries)
