use Rattle.std.proofs.Common.{◌↔◌, [], map, reverse, drop}
use Rattle.scheme_terms.specs.Context.{AreEntries}
use Rattle.scheme_terms.specs.View.{ground_entry}
use Rattle.derivation_check.proofs.judged.are_entries.Given as goal

abbrev pub invariant-loop-entry : goal.invariant-loop-entry
invariant-loop-entry l =
    AreEntries l.sig l.context.0 [] (map ground_entry l.entries)
    ↔ AreEntries l.sig l.context.0 (reverse (map (λ c. c.0) l.scope.items)) (map ground_entry (drop l.entry-index l.entries))
