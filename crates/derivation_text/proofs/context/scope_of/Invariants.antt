use Rattle.std.proofs.Common.{◌≡◌, [], drop}
use Rattle.rule_schemes.specs.Printing.{with_entries}
use Rattle.derivation_text.specs.View.{plain_entries, variables}
use Rattle.derivation_text.proofs.context.scope_of.Given as goal

abbrev pub invariant-loop-entry : goal.invariant-loop-entry
invariant-loop-entry l =
    with_entries l.sig (variables l.scope.items) (plain_entries (drop l.entry-index l.entries)) ≡ with_entries l.sig [] (plain_entries l.entries)
