use Rattle.std.proofs.Common.{◌↔◌, map, drop}
use Rattle.std.specs.List.{AllByRecursion}
use Rattle.outline_reader.specs.Plain.{plain_form}
use Rattle.user_grammar.specs.Fault.{IsEmptyForm}
use Rattle.user_grammar.specs.Finding.{portions_of}
use Rattle.user_grammar.proofs.fault_context.none_empty.Given as goal

abbrev pub invariant-loop-form : goal.invariant-loop-form
invariant-loop-form l =
    AllByRecursion (λ form. IsEmptyForm (portions_of l.names.lists) form → ⊥) (map plain_form (map (λ form. form.now) (drop l.form-index l.forms)))
    ↔ AllByRecursion (λ form. IsEmptyForm (portions_of l.names.lists) form → ⊥) (map plain_form (map (λ form. form.now) l.forms))
