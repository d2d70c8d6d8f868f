use Rattle.std.proofs.Common.{◌≡◌, ◌++◌, length, map, drop}
use Rattle.scheme_terms.specs.View.{scheme_entry, substitution}
use Rattle.rule_schemes.specs.Placed.{applied_entries}
use Rattle.form_raising.proofs.placing.add_applied.Given as goal

abbrev pub invariant-loop-entry : goal.invariant-loop-entry
invariant-loop-entry l =
    map scheme_entry l.all ++ applied_entries (substitution l.by) (length l.all) (map scheme_entry (drop l.entry-index l.entries))
    ≡ map scheme_entry l.fn.front ++ applied_entries (substitution l.by) (length l.fn.front) (map scheme_entry l.entries)
