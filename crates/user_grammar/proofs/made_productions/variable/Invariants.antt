use Rattle.std.proofs.Common.{map, take}
use Rattle.std.specs.List.{AllByRecursion}
use Rattle.outline_reader.specs.Plain.{plain_form}
use Rattle.user_grammar.specs.Production.{IsVariable}
use Rattle.user_grammar.specs.Indexed.{names_in}
use Rattle.user_grammar.proofs.made_productions.variable.Given as goal

abbrev pub invariant-loop-form : goal.invariant-loop-form
invariant-loop-form l =
    AllByRecursion (λ form. IsVariable (map (λ name. name.now) l.names) (names_in l.listed) form → ⊥)
    (map plain_form (map (λ form. form.now) (take l.form-index l.forms)))
