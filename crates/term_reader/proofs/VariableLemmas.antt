-- The reading of a word as a variable, and of other single tokens.
use Rattle.std.proofs.Common.{◌≡◌, ◌≢◌, ◌⊎◌, ◌↔◌, ℕ, ◌+◌, ◌-◌, ◌<◌, ◌≤◌, List, [], ◌∷◌, ◌++◌, length, map, take, reverse, inl, inr, refl, ap, ◌∙◌, sym, subst, arith, Some, None, slice_get, slice_range, get_or}
use Rattle.std.proofs.lemmas.List.{map-append, reverse-append, append_assoc, take_more}
use Rattle.scheme_terms.specs.SchemeTree.{SchemeTree}
use Rattle.rule_schemes.specs.Reading.{Token, word, Variable, Means, slot_variables, variable_at}
use Rattle.rule_schemes.specs.Said.{Way, way, no_ways, IsBefore}
use Rattle.term_reader.specs.Cases.{IsVariable}
use Rattle.term_reader.specs.Firsts.{AreFirst}
use Rattle.term_reader.specs.View.{variable, in_scope}
use Rattle.term_reader.specs.declared.variables.Var.{Var}
use Rattle.std.proofs.lemmas.Option.{slice_get-map}
use Rattle.std.specs.Option.{option_map}
use Rattle.term_reader.proofs.Ranges.{range_length, range_cons, range_none}

module _ (vars : List Variable) (c : ℕ) (ts : List Token) (n to : ℕ) (some : n ≤ to) (within : to ≤ length ts) where
  pub not_alone : to - n ≢ 1 → AreFirst IsBefore (IsVariable vars c (slice_range ts n to)) []
  not_alone other = λ w s h. (let l = ap length h.2 in absurd (other (omega (arith, l, range_length ts n to some within))))

  alone : to - n ≡ 1 → (t : Token) → slice_get ts n ≡ Some t → slice_range ts n to ≡ t ∷ []
  alone one t e =
      let lt : n < to = omega arith in
      let end : n + 1 ≡ to = omega arith in
      range_cons ts n to t lt within e ∙ ap (λ us. t ∷ us) (ap (λ m. slice_range ts m to) end ∙ range_none ts to within)

  pub no_word : to - n ≡ 1 → (t : Token) → slice_get ts n ≡ Some t → t.0 ≢ 0 → AreFirst IsBefore (IsVariable vars c (slice_range ts n to)) []
  no_word one t e other = λ w s h.
      (let two : t ∷ [] ≡ word h.1 ∷ [] = sym (alone one t e) ∙ h.2 in
      let same : t ≡ word h.1 = cc in
      absurd (other (ap (λ (u : Token). u.0) same)))

  named : to - n ≡ 1 → (name : List ℕ) → slice_get ts n ≡ Some (word name) → (w : Way) (s : SchemeTree) → IsVariable vars c (slice_range ts n to) w s → Means 0 vars name c s
  named one name e w s h =
      let two : word name ∷ [] ≡ word h.1 ∷ [] = sym (alone one (word name) e) ∙ h.2 in
      let first : word name ≡ word h.1 = cc in
      let same : name ≡ h.1 = ap (λ (u : Token). u.1) first in
      subst (λ u. Means 0 vars u c s) (sym same) h.3

  pub variable_found : to - n ≡ 1 → (name : List ℕ) → slice_get ts n ≡ Some (word name) → (x : SchemeTree) → ((s : SchemeTree) → Means 0 vars name c s ↔ (s ≡ x))
      → AreFirst IsBefore (IsVariable vars c (slice_range ts n to)) (x ∷ [])
  variable_found one name e x h = (
    (way 2 [] no_ways, ((refl, name, alone one (word name) e, (h x).1 refl), λ l s k. inr (sym k.0, (h s).0 (named one name e l s k)))),
    λ l s k. (h s).0 (named one name e l s k),
  )

  pub variable_lost : to - n ≡ 1 → (name : List ℕ) → slice_get ts n ≡ Some (word name) → ((s : SchemeTree) → Means 0 vars name c s → ⊥)
      → AreFirst IsBefore (IsVariable vars c (slice_range ts n to)) []
  variable_lost one name e h = λ w s k. h s (named one name e w s k)

-- one more of the variables that a slot is under
pub slot_variables_last : (own : List Variable) (ns : List ℕ) (n : ℕ) → slot_variables own (ns ++ n ∷ []) ≡ variable_at (slice_get own n) ++ slot_variables own ns
slot_variables_last own [] n = sym (Rattle.std.proofs.Common.append-nil (variable_at (slice_get own n)))
slot_variables_last own (m ∷ ns) n =
    ap (λ vs. vs ++ variable_at (slice_get own m)) (slot_variables_last own ns n)
    ∙ append_assoc (variable_at (slice_get own n)) (slot_variables own ns) (variable_at (slice_get own m))

scope_more : (all : List Var) (v : Var) → in_scope (all ++ v ∷ []) ≡ variable v ∷ in_scope all
scope_more all v = ap reverse (map-append variable all (v ∷ [])) ∙ reverse-append (map variable all) (variable v ∷ [])

bound_next : (own : List Var) (binds : List ℕ) (i : ℕ) → i < length binds
    → slot_variables (map variable own) (take (i + 1) binds) ≡ variable_at (slice_get (map variable own) (get_or binds i 0)) ++ slot_variables (map variable own) (take i binds)
bound_next own binds i h =
    ap (slot_variables (map variable own)) (take_more binds i 0 h) ∙ slot_variables_last (map variable own) (take i binds) (get_or binds i 0)

-- the scope of a slot with one variable more, or with none where the number is none of the split's own
pub bound_more : (own : List Var) (binds : List ℕ) (i : ℕ) (all : List Var) (vars : List Variable) (v : Var) → i < length binds → slice_get own (get_or binds i 0) ≡ Some v
    → in_scope all ≡ slot_variables (map variable own) (take i binds) ++ vars → in_scope (all ++ v ∷ []) ≡ slot_variables (map variable own) (take (i + 1) binds) ++ vars
bound_more own binds i all vars v h e is =
    let at : slice_get (map variable own) (get_or binds i 0) ≡ Some (variable v) = slice_get-map variable own (get_or binds i 0) ∙ ap (option_map variable) e in
    scope_more all v ∙ ap (λ vs. variable v ∷ vs) is
    ∙ sym (ap (λ vs. vs ++ vars) (bound_next own binds i h ∙ ap (λ o. variable_at o ++ slot_variables (map variable own) (take i binds)) at))

pub bound_none : (own : List Var) (binds : List ℕ) (i : ℕ) (all : List Var) (vars : List Variable) → i < length binds → slice_get own (get_or binds i 0) ≡ None
    → in_scope all ≡ slot_variables (map variable own) (take i binds) ++ vars → in_scope all ≡ slot_variables (map variable own) (take (i + 1) binds) ++ vars
bound_none own binds i all vars h e is =
    let at : slice_get (map variable own) (get_or binds i 0) ≡ None = slice_get-map variable own (get_or binds i 0) ∙ ap (option_map variable) e in
    is ∙ sym (ap (λ vs. vs ++ vars) (bound_next own binds i h ∙ ap (λ o. variable_at o ++ slot_variables (map variable own) (take i binds)) at))
