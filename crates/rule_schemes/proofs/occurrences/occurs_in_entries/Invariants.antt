use Rattle.std.proofs.Common.{◌↔◌, map, drop}
use Rattle.scheme_terms.specs.View.{scheme_entry}
use Rattle.rule_schemes.specs.Said.{OccursInEntries}
use Rattle.rule_schemes.proofs.occurrences.occurs_in_entries.Given as goal

abbrev pub invariant-loop-entry : goal.invariant-loop-entry
invariant-loop-entry l = OccursInEntries l.m.0 (map scheme_entry (drop l.entry-index l.entries)) ↔ OccursInEntries l.m.0 (map scheme_entry l.entries)
