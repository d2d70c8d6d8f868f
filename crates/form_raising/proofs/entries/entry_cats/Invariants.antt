use Rattle.std.proofs.Common.{◌≡◌, [], map, drop, reverse}
use Rattle.scheme_terms.specs.SchemeScope.{entry_variables}
use Rattle.scheme_terms.specs.View.{scheme_entry}
use Rattle.form_raising.proofs.entries.entry_cats.Given as goal

abbrev pub invariant-loop-entry : goal.invariant-loop-entry
invariant-loop-entry l =
    entry_variables l.sig [] (map scheme_entry l.entries)
    ≡ entry_variables l.sig (reverse (map (λ c. c.0) l.cats.items)) (map scheme_entry (drop l.entry-index l.entries))
