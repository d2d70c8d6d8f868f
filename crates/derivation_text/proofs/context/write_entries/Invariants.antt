use Rattle.std.proofs.Common.{◌≡◌, drop}
use Rattle.rule_schemes.specs.Printing.{entries_tokens, no_labels}
use Rattle.derivation_text.specs.Page.{written}
use Rattle.derivation_text.specs.View.{plain_entries, variables}
use Rattle.derivation_text.proofs.context.write_entries.Given as goal

abbrev pub invariant-loop-entry : goal.invariant-loop-entry
invariant-loop-entry l =
    written l.page (entries_tokens l.sig no_labels (variables l.scope.items) (plain_entries (drop l.entry-index l.entries)))
    ≡ written l.initial.page (entries_tokens l.sig no_labels (variables l.initial.scope.items) (plain_entries l.entries))
