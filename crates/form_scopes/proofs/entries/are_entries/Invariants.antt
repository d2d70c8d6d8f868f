use Rattle.std.proofs.Common.{◌≡◌, ◌↔◌, map, drop, reverse}
use Rattle.scheme_terms.specs.SchemeScope.{AreSchemeEntries, entry_variables}
use Rattle.scheme_terms.specs.View.{names, scheme_entry}
use Rattle.form_scopes.proofs.entries.are_entries.Given as goal

abbrev pub invariant-loop-entry : goal.invariant-loop-entry
invariant-loop-entry l = record {
  are : AreSchemeEntries l.sig (names l.scope) (reverse (map (λ c. c.0) l.fn.locals.items)) l.cat.0 (map scheme_entry l.entries)
      ↔ AreSchemeEntries l.sig (names l.scope) (reverse (map (λ c. c.0) l.locals.items)) l.cat.0 (map scheme_entry (drop l.entry-index l.entries));
  locals : entry_variables l.sig (reverse (map (λ c. c.0) l.fn.locals.items)) (map scheme_entry l.entries)
      ≡ entry_variables l.sig (reverse (map (λ c. c.0) l.locals.items)) (map scheme_entry (drop l.entry-index l.entries));
}
