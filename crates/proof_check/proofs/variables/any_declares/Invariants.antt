use Rattle.std.proofs.Common.{◌↔◌, map, drop}
use Rattle.binding_terms.specs.Numbered.{AnyByRecursion}
use Rattle.outline_reader.specs.Plain.{plain_form}
use Rattle.user_grammar.specs.Fault.{DeclaresVariable}
use Rattle.proof_check.specs.View.{plain_portions}
use Rattle.proof_check.proofs.variables.any_declares.Given as goal

abbrev pub invariant-loop-form : goal.invariant-loop-form
invariant-loop-form l =
    AnyByRecursion (DeclaresVariable (plain_portions l.portions)) (map plain_form (map (λ form. form.now) (drop l.form-index l.forms)))
    ↔ AnyByRecursion (DeclaresVariable (plain_portions l.portions)) (map plain_form (map (λ form. form.now) l.forms))
