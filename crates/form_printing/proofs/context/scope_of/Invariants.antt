use Rattle.std.proofs.Common.{◌≡◌, [], drop, map}
use Rattle.rule_schemes.specs.Printing.{with_entries}
use Rattle.scheme_terms.specs.View.{scheme_entry}
use Rattle.form_printing.specs.View.{variables}
use Rattle.form_printing.proofs.context.scope_of.Given as goal

abbrev pub invariant-loop-entry : goal.invariant-loop-entry
invariant-loop-entry l =
    with_entries l.sig (variables l.scope.items) (map scheme_entry (drop l.entry-index l.entries)) ≡ with_entries l.sig [] (map scheme_entry l.entries)
