use Rattle.std.proofs.Common.{◌⊎◌, ◌↔◌, map, drop}
use Rattle.std.specs.List.{AllByRecursion}
use Rattle.outline_reader.specs.Plain.{plain_form}
use Rattle.user_grammar.specs.Fault.{IsEmptyForm, IsEntryForm}
use Rattle.user_grammar.specs.Finding.{portions_of, written_view}
use Rattle.user_grammar.proofs.fault_context.are_entries.Given as goal

abbrev pub invariant-loop-form : goal.invariant-loop-form
invariant-loop-form l =
    AllByRecursion (λ form. IsEmptyForm (portions_of l.names.lists) form ⊎ IsEntryForm (portions_of l.names.lists) (written_view l.written) form)
    (map plain_form (map (λ form. form.now) (drop l.form-index l.written.forms.now)))
    ↔ AllByRecursion (λ form. IsEmptyForm (portions_of l.names.lists) form ⊎ IsEntryForm (portions_of l.names.lists) (written_view l.written) form) (written_view l.written).forms
