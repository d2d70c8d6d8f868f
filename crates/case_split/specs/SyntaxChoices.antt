-- The choices for a term, in order. To be held against docs/notation.md, 'Choices' (of a term).
use Rattle.std.specs.Prelude.{ℕ, suc, ◌-◌, Bool, false, ◌==◌, if◌then◌else◌, None, Some, List, [], ◌∷◌, ◌++◌, length, map, drop, filter, slice_index}
use Rattle.binding_terms.specs.Signature.{Signature, Place, slots, binders}
use Rattle.binding_terms.specs.declared.grammar.Prod.{Prod}
use Rattle.binding_terms.specs.declared.grammar.CatId.{CatId}
use Rattle.scheme_terms.specs.SchemeTree.{SchemeTree, meta, known, local, con, no_values, values, Parts, no_parts, part}
use Rattle.scheme_terms.specs.Forms.{Names, SchemeEntry, SchemeContext}
use Rattle.scheme_terms.specs.Substituting.{parameters}
use Rattle.scheme_terms.specs.Context.{variables}
use Rattle.scheme_terms.specs.declared.scheme.MetaDecl.{MetaDecl}
use Rattle.scheme_terms.specs.declared.scheme.Root.{Root}
use Rattle.scheme_terms.specs.declared.scheme.Root.TheVariants.{Whole}
use Rattle.rule_schemes.specs.Raising.{with_entries}
use Rattle.rule_schemes.specs.Placed.{locals_of, entry_cats}
use Rattle.pattern_unify.specs.Equations.{SchemeEquation}
use Rattle.case_split.specs.declared.choice.Place.TheVariants.{Plain, Known, Explicit}
use Rattle.case_split.specs.Choice.{SyntaxChoice}
use Rattle.case_split.specs.Choices.{with_names, variable_name}

abbrev pub category : ℕ → CatId
category c = record { 0 = c }

-- the categories of the variables that a slot is under, the last one innermost
abbrev pub slot_cats : (binders : List ℕ) → Place → List ℕ
slot_cats bs s = map (slice_index bs) s.binds

-- The new name for a slot: its parameters are the variables of the explicit entries that its category reaches, and then those that the slot is under.
-- It has no spelling of its own.
abbrev pub slot_name : (ℕ → ℕ → Bool) → (entry_cats binders : List ℕ) → Place → MetaDecl
slot_name reaches cats bs s =
    record { name = []; cat = category s.cat; params = map category (filter (reaches s.cat) cats ++ slot_cats bs s) }

abbrev pub slot_names : (ℕ → ℕ → Bool) → (entry_cats binders : List ℕ) → List Place → List MetaDecl
slot_names reaches cats bs ss = map (slot_name reaches cats bs) ss

-- the parts of a production, each a new name on its variables, where the first has this number
abbrev pub new_parts : (ℕ → ℕ → Bool) → (entry_cats : List ℕ) → (number : ℕ) → List Place → Parts
new_parts reaches cats m [] = no_parts
new_parts reaches cats m (s ∷ ss) =
    part (length s.binds) (meta m (with_entries reaches s.cat cats (length s.binds) (values (parameters (length s.binds)))))
    (new_parts reaches cats (suc m) ss)

-- the system of a choice: the subject, on the left, with the choice's term
abbrev pub syntax_equation : Signature → SchemeContext → (subject term : SchemeTree) → List SchemeEquation
syntax_equation sig ctx s t = record { locals = locals_of sig ctx.entries; left = s; right = t } ∷ []

-- the choice of a production, with a new name for each slot
abbrev pub production_choice : (ℕ → ℕ → Bool) → Signature → Names → SchemeContext → (subject : SchemeTree) → (number : ℕ) → Prod → SyntaxChoice
production_choice reaches sig scope ctx s p prod =
    let cats = entry_cats sig ctx.entries in
    let term = con p (new_parts reaches cats (length scope.metas) (slots prod.items)) in
    record {
      prod = Some p;
      place = Plain;
      names = with_names scope (slot_names reaches cats (binders prod.items) (slots prod.items)) [];
      equations = syntax_equation sig ctx s term;
      term = term;
    }

abbrev pub production_choices : (ℕ → ℕ → Bool) → Signature → Names → SchemeContext → (subject : SchemeTree) → (cat : ℕ) → (number : ℕ) →
    List Prod → List SyntaxChoice
production_choices reaches sig scope ctx s c n [] = []
production_choices reaches sig scope ctx s c n (prod ∷ prods) =
    (if prod.cat.0 == c then production_choice reaches sig scope ctx s n prod ∷ [] else [])
    ++ production_choices reaches sig scope ctx s c (suc n) prods

-- metavariables without parameters, each for a slot, where the first has this number
abbrev pub bare_names : (number : ℕ) → List Place → List SchemeTree
bare_names m [] = []
bare_names m (s ∷ ss) = meta m no_values ∷ bare_names (suc m) ss

-- the choice of a known variable with an entry of the production, whose arguments are new names
abbrev pub known_term_choice : Signature → Names → SchemeContext → (subject : SchemeTree) → (number : ℕ) → Prod → SyntaxChoice
known_term_choice sig scope ctx s p prod =
    let args = drop 1 (slots prod.items) in
    let metas = map (λ slot. record { name = []; cat = category slot.cat; params = [] }) args in
    let term = known (length scope.knowns) in
    record {
      prod = Some p;
      place = Known;
      names =
          with_names scope metas
          (record { name = variable_name sig p; entry = record { prod = p; args = bare_names (length scope.metas) args } } ∷ []);
      equations = syntax_equation sig ctx s term;
      term = term;
    }

-- whether the categories are this one alone
abbrev pub is_only : ℕ → List ℕ → Bool
is_only c (d ∷ []) = d == c
is_only c _ = false

abbrev pub known_term_choices : Signature → Names → SchemeContext → (subject : SchemeTree) → (context cat : ℕ) → (number : ℕ) → List Prod →
    List SyntaxChoice
known_term_choices sig scope ctx s gamma c n [] = []
known_term_choices sig scope ctx s gamma c n (prod ∷ prods) =
    (if prod.cat.0 == gamma
    then (if is_only c (binders prod.items) then known_term_choice sig scope ctx s n prod ∷ [] else [])
    else [])
    ++ known_term_choices sig scope ctx s gamma c (suc n) prods

-- a known variable is among the choices where the scope's root is the whole context
abbrev pub rooted_choices : Signature → Names → SchemeContext → (subject : SchemeTree) → (cat : ℕ) → Root → List SyntaxChoice
rooted_choices sig scope ctx s c (Whole gamma) = known_term_choices sig scope ctx s gamma.0 c 0 sig.prods
rooted_choices sig scope ctx s c _ = []

-- the choice of the variable of the explicit entry at a place
abbrev pub variable_choice : Signature → Names → SchemeContext → (subject : SchemeTree) → (place : ℕ) → SyntaxChoice
variable_choice sig scope ctx s place =
    let term = local (length ctx.entries - suc place) in
    record {
      prod = None;
      place = Explicit place;
      names = scope;
      equations = syntax_equation sig ctx s term;
      term = term;
    }

abbrev pub variable_choices : Signature → Names → SchemeContext → (subject : SchemeTree) → (cat : ℕ) → (place : ℕ) → List SchemeEntry →
    List SyntaxChoice
variable_choices sig scope ctx s c place [] = []
variable_choices sig scope ctx s c place (e ∷ es) =
    (if is_only c (variables sig e.prod) then variable_choice sig scope ctx s place ∷ [] else [])
    ++ variable_choices sig scope ctx s c (suc place) es

-- all choices for the term: the productions of its category, a known variable for each production of the root that binds it, and the explicit entries
-- that bind it
abbrev pub syntax_choices : (ℕ → ℕ → Bool) → Signature → Names → SchemeContext → (subject : SchemeTree) → (cat : ℕ) → List SyntaxChoice
syntax_choices reaches sig scope ctx s c =
    production_choices reaches sig scope ctx s c 0 sig.prods
    ++ (rooted_choices sig scope ctx s c scope.root ++ variable_choices sig scope ctx s c 0 ctx.entries)
