use Rattle.std.proofs.Common.{◌≡◌, ◌++◌, ℕ, List, Option, map, drop}
use Rattle.binding_terms.specs.declared.grammar.Prod.{Prod}
use Rattle.outline_reader.specs.Plain.{plain_form}
use Rattle.user_grammar.specs.Grammar.{AreForms}
use Rattle.user_grammar.specs.Indexed.{names_in}
use Rattle.user_grammar.proofs.made_productions.add_forms.Given as goal

-- the forms that are left stand for the productions that are left
abbrev pub invariant-loop-form : goal.invariant-loop-form
invariant-loop-form l =
    (var : Option (List ℕ)) (own : List Prod)
    → AreForms l.cats (names_in l.listed) l.number.0 var (map plain_form (map (λ form. form.now) l.forms)) own
    → (left_var : Option (List ℕ)) × (left : List Prod)
    × AreForms l.cats (names_in l.listed) l.number.0 left_var (map plain_form (map (λ form. form.now) (drop l.form-index l.forms))) left
    × (l.prods.items ++ left ≡ l.initial.prods.items ++ own)
