use Rattle.std.proofs.Common.{◌≡◌, ◌↔◌, [], map, drop}
use Rattle.binding_terms.specs.Numbered.{AnyByRecursion}
use Rattle.outline_reader.specs.Plain.{plain_form}
use Rattle.user_grammar.proofs.fault_form.has_empty.Given as goal

abbrev pub invariant-loop-form : goal.invariant-loop-form
invariant-loop-form l =
    AnyByRecursion (λ form. form ≡ []) (map plain_form (map (λ form. form.now) (drop l.form-index l.forms)))
    ↔ AnyByRecursion (λ form. form ≡ []) (map plain_form (map (λ form. form.now) l.forms))
