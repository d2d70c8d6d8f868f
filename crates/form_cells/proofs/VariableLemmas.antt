-- The reading of a word as a variable, and of other single tokens.
use Rattle.std.proofs.Common.{◌≡◌, ◌≢◌, ◌⊎◌, ◌↔◌, ℕ, ◌+◌, ◌-◌, ◌<◌, ◌≤◌, List, [], ◌∷◌, ◌++◌, length, map, take, reverse, inl, inr, refl, ap, ◌∙◌, sym, subst, arith, Some, None, slice_get, slice_range, get_or}
use Rattle.std.proofs.lemmas.List.{map-append, reverse-append, append_assoc, take_more}
use Rattle.binding_terms.specs.Signature.{Signature}
use Rattle.scheme_terms.specs.SchemeTree.{SchemeTree}
use Rattle.scheme_terms.specs.declared.scheme.MetaDecl.{MetaDecl}
use Rattle.ordered_readings.specs.FirstTwo.{AreFirst}
use Rattle.ordered_readings.proofs.FirstTwo.{first_none, first_one}
use Rattle.ordered_readings.proofs.Transitive.{before_transitive}
use Rattle.form_cells.specs.Cells.{IsVariable}
use Rattle.form_cells.proofs.Ranges.{range_length, range_cons, range_none}
use Rattle.rule_schemes.specs.Reading.{Token, word, Variable, Means, meant, counted, slot_variables, variable_at}
use Rattle.form_cells.specs.declared.variables.Meaning.{Meaning}
use Rattle.form_cells.specs.declared.variables.Meaning.TheVariants.{Bound, Entry}
use Rattle.rule_schemes.specs.Said.{Way, way, no_ways, IsBefore}
use Rattle.form_cells.specs.View.{meaning, variable, in_scope}
use Rattle.form_cells.specs.declared.variables.Var.{Var}
use Rattle.std.proofs.lemmas.Option.{slice_get-map}
use Rattle.std.specs.Option.{option_map}

-- one more of the variables that a slot is under
pub slot_variables_last : (own : List Variable) (ns : List ℕ) (n : ℕ) → slot_variables own (ns ++ n ∷ []) ≡ variable_at (slice_get own n) ++ slot_variables own ns
slot_variables_last own [] n = sym (Rattle.std.proofs.Common.append-nil (variable_at (slice_get own n)))
slot_variables_last own (m ∷ ns) n =
    ap (λ vs. vs ++ variable_at (slice_get own m)) (slot_variables_last own ns n)
    ∙ append_assoc (variable_at (slice_get own n)) (slot_variables own ns) (variable_at (slice_get own m))

scope_more : (all : List Var) (v : Var) → in_scope (all ++ v ∷ []) ≡ variable v ∷ in_scope all
scope_more all v = ap reverse (map-append variable all (v ∷ [])) ∙ reverse-append (map variable all) (variable v ∷ [])

bound_next : (own : List Var) (binds : List ℕ) (i : ℕ) → i < length binds
    → slot_variables (map variable own) (take (i + 1) binds) ≡ variable_at (slice_get (map variable own) (get_or binds i 0)) ++ slot_variables (map variable own) (take i binds)
bound_next own binds i h =
    ap (slot_variables (map variable own)) (take_more binds i 0 h) ∙ slot_variables_last (map variable own) (take i binds) (get_or binds i 0)

-- the scope of a slot with one variable more, or with none where the number is none of the split's own
pub bound_more : (own : List Var) (binds : List ℕ) (i : ℕ) (all : List Var) (vars : List Variable) (v : Var) → i < length binds → slice_get own (get_or binds i 0) ≡ Some v
    → in_scope all ≡ slot_variables (map variable own) (take i binds) ++ vars → in_scope (all ++ v ∷ []) ≡ slot_variables (map variable own) (take (i + 1) binds) ++ vars
bound_more own binds i all vars v h e is =
    let at : slice_get (map variable own) (get_or binds i 0) ≡ Some (variable v) = slice_get-map variable own (get_or binds i 0) ∙ ap (option_map variable) e in
    scope_more all v ∙ ap (λ vs. variable v ∷ vs) is
    ∙ sym (ap (λ vs. vs ++ vars) (bound_next own binds i h ∙ ap (λ o. variable_at o ++ slot_variables (map variable own) (take i binds)) at))

pub bound_none : (own : List Var) (binds : List ℕ) (i : ℕ) (all : List Var) (vars : List Variable) → i < length binds → slice_get own (get_or binds i 0) ≡ None
    → in_scope all ≡ slot_variables (map variable own) (take i binds) ++ vars → in_scope all ≡ slot_variables (map variable own) (take (i + 1) binds) ++ vars
bound_none own binds i all vars h e is =
    let at : slice_get (map variable own) (get_or binds i 0) ≡ None = slice_get-map variable own (get_or binds i 0) ∙ ap (option_map variable) e in
    is ∙ sym (ap (λ vs. vs ++ vars) (bound_next own binds i h ∙ ap (λ o. variable_at o ++ slot_variables (map variable own) (take i binds)) at))

-- the innermost of those up to a place
pub scope_last : (vars : List Var) (left : ℕ) (d : Var) → 0 < left → left ≤ length vars
    → in_scope (take left vars) ≡ variable (get_or vars (left - 1) d) ∷ in_scope (take (left - 1) vars)
scope_last vars left d some within =
    let lt : left - 1 < length vars = omega arith in
    let next : left - 1 + 1 ≡ left = omega arith in
    ap (λ n. in_scope (take n vars)) (sym next) ∙ ap in_scope (take_more vars (left - 1) d lt) ∙ scope_more (take (left - 1) vars) (get_or vars (left - 1) d)

-- the innermost variable has the word, or another one
pub innermost_is : (n : ℕ) (v : Variable) (vs : List Variable) (w : List ℕ) (c : ℕ) (s : SchemeTree) → v.word ≡ w → v.cat ≡ c → Means n (v ∷ vs) w c s ↔ (s ≡ meant v.means n)
innermost_is n v vs w c s same cat = (λ h. elim h [ inl k ↦ k.2 | inr k ↦ absurd (k.0 same) ], λ e. inl (same, cat, e))

pub innermost_not : (n : ℕ) (v : Variable) (vs : List Variable) (w : List ℕ) (c : ℕ) (s : SchemeTree) → (v.word ≡ w → ⊥)
    → Means n (v ∷ vs) w c s ↔ Means (n + counted v.means) vs w c s
innermost_not n v vs w c s other = (λ h. elim h [ inl k ↦ absurd (other k.0) | inr k ↦ k.1 ], λ m. inr (other, m))

pub counts_one : (m : Meaning) → m ≡ Bound → counted (meaning m) ≡ 1
counts_one m e = ap (λ x. counted (meaning x)) e

pub counts_none : (m : Meaning) → (m ≡ Bound → ⊥) → counted (meaning m) ≡ 0
counts_none Bound other = absurd (other refl)
counts_none (Entry k) other = refl

abbrev pub no_variable : Var
no_variable = record { word = record { ref_ptr = (0, 0); now = [] }; cat = record { 0 = 0 }; means = Bound }

module _ (sig : Signature) (metas : List MetaDecl) (vars : List Variable) (c : ℕ) (ts : List Token) (n to : ℕ) (some : n ≤ to) (within : to ≤ length ts) where
  abbrev Bounds : Way → SchemeTree → Type 0
  Bounds = IsVariable sig metas vars c (slice_range ts n to)

  pub not_alone : to - n ≢ 1 → AreFirst IsBefore Bounds []
  not_alone other =
      first_none IsBefore before_transitive Bounds
      (λ w s h. (let l = ap length h.2 in absurd (other (omega (arith, l, range_length ts n to some within)))))

  alone : to - n ≡ 1 → (t : Token) → slice_get ts n ≡ Some t → slice_range ts n to ≡ t ∷ []
  alone one t e =
      let lt : n < to = omega arith in
      let end : n + 1 ≡ to = omega arith in
      range_cons ts n to t lt within e ∙ ap (λ us. t ∷ us) (ap (λ m. slice_range ts m to) end ∙ range_none ts to within)

  pub no_word : to - n ≡ 1 → (t : Token) → slice_get ts n ≡ Some t → t.0 ≢ 0 → AreFirst IsBefore Bounds []
  no_word one t e other =
      first_none IsBefore before_transitive Bounds
      (λ w s h. (let two : t ∷ [] ≡ word h.1 ∷ [] = sym (alone one t e) ∙ h.2 in
      let same : t ≡ word h.1 = cc in
      absurd (other (ap (λ (u : Token). u.0) same))))

  named : to - n ≡ 1 → (name : List ℕ) → slice_get ts n ≡ Some (word name) → (w : Way) (s : SchemeTree) → Bounds w s → Means 0 vars name c s
  named one name e w s h =
      let two : word name ∷ [] ≡ word h.1 ∷ [] = sym (alone one (word name) e) ∙ h.2 in
      let first : word name ≡ word h.1 = cc in
      let same : name ≡ h.1 = ap (λ (u : Token). u.1) first in
      subst (λ u. Means 0 vars u c s) (sym same) h.3

  pub variable_found : to - n ≡ 1 → (name : List ℕ) → slice_get ts n ≡ Some (word name) → (x : SchemeTree) → ((s : SchemeTree) → Means 0 vars name c s ↔ (s ≡ x))
      → AreFirst IsBefore Bounds ((way 2 [] no_ways, x) ∷ [])
  variable_found one name e x h =
      first_one IsBefore before_transitive Bounds (way 2 [] no_ways) x (refl, name, alone one (word name) e, (h x).1 refl)
      (λ l s k. (sym k.0, sym ((h s).0 (named one name e l s k))))

  pub variable_lost : to - n ≡ 1 → (name : List ℕ) → slice_get ts n ≡ Some (word name) → ((s : SchemeTree) → Means 0 vars name c s → ⊥)
      → AreFirst IsBefore Bounds []
  variable_lost one name e h = first_none IsBefore before_transitive Bounds (λ w s k. h s (named one name e w s k))
