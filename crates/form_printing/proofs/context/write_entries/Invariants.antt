use Rattle.std.proofs.Common.{◌≡◌, drop, map}
use Rattle.rule_schemes.specs.Printing.{entries_tokens}
use Rattle.form_printing.specs.Page.{written}
use Rattle.scheme_terms.specs.View.{scheme_entry}
use Rattle.form_printing.specs.View.{shown, variables}
use Rattle.form_printing.proofs.context.write_entries.Given as goal

abbrev pub invariant-loop-entry : goal.invariant-loop-entry
invariant-loop-entry l =
    written l.page (entries_tokens l.sig (shown l.sig l.labels) (variables l.scope.items) (map scheme_entry (drop l.entry-index l.entries)))
    ≡ written l.initial.page (entries_tokens l.sig (shown l.sig l.labels) (variables l.initial.scope.items) (map scheme_entry l.entries))
