-- The value of a metavariable which a move replaces, where the sides of the move's equation become the same.
use Rattle.std.proofs.Common.{◌≡◌, ◌⊎◌, ℕ, zero, suc, ◌+◌, ◌-◌, ◌<◌, ◌≤◌, Bool, true, false, ◌==◌, nat_lt, if◌then◌else◌, List, [], ◌∷◌, length, Some, slice_get, get_or, inl, inr, refl, ap, sym, ◌∙◌, subst, arith}
use Rattle.std.specs.List.{AllByRecursion}
use Rattle.std.proofs.lemmas.Bool.{cases_lt}
use Rattle.binding_terms.specs.Numbered.{AnyByRecursion}
use Rattle.binding_terms.proofs.Lists.{match_at}
use Rattle.scheme_terms.specs.SchemeTree.{SchemeTree, meta, known, local, con, Values, no_values, value, Parts, no_parts, part, listed, under, filled, AreDistinctLocals}
use Rattle.scheme_terms.specs.Substituting.{params, LocalsBelow, ValuesBelow, PartsBelow, IsSaturated, PartsAreSaturated}
use Rattle.scheme_terms.specs.Demands.{numbers, parameter_of, variable_of, lowered}
use Rattle.scheme_terms.specs.declared.scheme.MetaDecl.{MetaDecl}
use Rattle.scheme_terms.proofs.Lowering.{renaming, renaming_at, renaming_past, arguments_rename, numbers_below}
use Rattle.scheme_terms.proofs.Makings.{Making, demand_is_value}
use Rattle.scheme_terms.proofs.SchemeFilling.{under_none}
use Rattle.pattern_unify.specs.Patterns.{IsAmong, over_parameters, parameter_at, common_arguments, kept_arguments}
use Rattle.pattern_unify.specs.Pruning.{FirstPrunable, FirstPrunableInParts}
use Rattle.pattern_unify.proofs.EachLocals.{EachLocal, EachLocalOfParts, each_so, renamings_told, each_renamed, goes_there}
use Rattle.pattern_unify.proofs.KeptParameters.{kept_numbers, marked_among, common_told, kept_told}

-- each parameter that stands in the value is one of these
abbrev pub HasParametersAmong : List ℕ → (count : ℕ) → SchemeTree → Type 0
HasParametersAmong is p v = EachLocal (λ i. i < p → AnyByRecursion (λ j. j ≡ i) is) 0 v

pub numbers_long : (vs : Values) → length (numbers vs) ≡ length (listed vs)
numbers_long no_values = refl
numbers_long (value (local i) vs) = ap suc (numbers_long vs)
numbers_long (value (meta m ws) vs) = ap suc (numbers_long vs)
numbers_long (value (known l) vs) = ap suc (numbers_long vs)
numbers_long (value (con p xs) vs) = ap suc (numbers_long vs)

number_among : (vs : Values) → AreDistinctLocals vs → (k : ℕ) → k < length (numbers vs) → IsAmong (get_or (numbers vs) k 0) vs
number_among no_values h k below = absurd (let no : ⊥ = omega (arith, below) in no)
number_among (value (local i) vs) h zero below = inl refl
number_among (value (local i) vs) h (suc k) below = inr (number_among vs h.1 k (omega (arith, below)))
number_among (value (meta m ws) vs) h k below = absurd h
number_among (value (known l) vs) h k below = absurd h
number_among (value (con p xs) vs) h k below = absurd h

-- the argument of a parameter, where there are so many
argument_of : (d p : ℕ) (is : List ℕ) (i : ℕ) → length is ≡ p → i < p → renaming d is i ≡ get_or is (p - 1 - i) 0
argument_of d p is i long below = renaming_at d is i (omega (arith, long, below)) ∙ ap (λ n. get_or is (n - 1 - i) 0) long

below_at : (d : ℕ) (is : List ℕ) (k : ℕ) → AllByRecursion (λ j. j < d) is → k < length is → get_or is k 0 < d
below_at d [] k h below = absurd (let no : ⊥ = omega (arith, below) in no)
below_at d (x ∷ is) zero h below = h.0
below_at d (x ∷ is) (suc k) h below = below_at d is k h.1 (omega (arith, below))

-- the local is among the arguments, or lies beyond so many
abbrev IsAmongOrBeyond : Values → (locals : ℕ) → ℕ → Type 0
IsAmongOrBeyond vs d j = IsAmong j vs ⊎ (d ≤ j)

argument_is_among : (d : ℕ) (vs : Values) → AreDistinctLocals vs → (i : ℕ) → IsAmongOrBeyond vs d (renaming d (numbers vs) i)
argument_is_among d vs h i = at (cases_lt i (length (numbers vs)))
  where
    at : (i < length (numbers vs)) ⊎ (length (numbers vs) ≤ i) → IsAmongOrBeyond vs d (renaming d (numbers vs) i)
    at (inl near) =
        inl (subst (λ j. IsAmong j vs) (sym (renaming_at d (numbers vs) i near)) (number_among vs h (length (numbers vs) - 1 - i) (omega (arith, near))))
    at (inr far) = inr (subst (λ j. d ≤ j) (sym (renaming_past d (numbers vs) i far)) (omega arith))

-- for which parameter a local is the argument
pub parameter_same : (vs : Values) → AreDistinctLocals vs → (i : ℕ) → parameter_at vs i ≡ parameter_of (numbers vs) i
parameter_same no_values h i = refl
parameter_same (value (local a) vs) h i =
    ap (λ n. if a == i then n else parameter_at vs i) (sym (numbers_long vs)) ∙ ap (λ n. if a == i then length (numbers vs) else n) (parameter_same vs h.1 i)
parameter_same (value (meta m ws) vs) h i = absurd h
parameter_same (value (known l) vs) h i = absurd h
parameter_same (value (con p xs) vs) h i = absurd h

-- what becomes of a local under so many that are renamed, and of one beyond them
abbrev pub renamed_to : (r : ℕ → ℕ) (d p : ℕ) → ℕ → SchemeTree
renamed_to r d p i = if nat_lt i d then local (r i) else local (i - d + p)

module _ (made : Making) where
  shape : (d m : ℕ) (vs : Values) → AreDistinctLocals vs → made.make d (meta m vs) ≡ filled (λ i. local (renaming d (numbers vs) i)) (made.stands_for m)
  shape d m vs h = made.of_meta d m vs h ∙ ap (λ f. filled f (made.stands_for m)) (λ k i. arguments_rename d (numbers vs) i k)

  -- two patterns that become the same: the value has only parameters at which both have the same local
  pub met_value : (d m p : ℕ) (vs ws : Values) → AreDistinctLocals vs → AreDistinctLocals ws → length (numbers vs) ≡ p → length (numbers ws) ≡ p →
      made.make d (meta m vs) ≡ made.make d (meta m ws) → HasParametersAmong (kept_numbers (common_arguments vs ws) p) p (made.stands_for m)
  met_value d m p vs ws h g long wide e =
      each_so (λ i. renaming d (numbers vs) i ≡ renaming d (numbers ws) i) (λ i. i < p → AnyByRecursion (λ j. j ≡ i) (kept_numbers (common_arguments vs ws) p)) so 0
      (made.stands_for m) (renamings_told (renaming d (numbers vs)) (renaming d (numbers ws)) 0 (made.stands_for m) same)
    where
      same : filled (under 0 (λ i. local (renaming d (numbers vs) i))) (made.stands_for m) ≡ filled (under 0 (λ i. local (renaming d (numbers ws) i))) (made.stands_for m)
      same =
          ap (λ f. filled f (made.stands_for m)) (under_none (λ i. local (renaming d (numbers vs) i))) ∙ sym (shape d m vs h) ∙ e ∙ shape d m ws g
          ∙ ap (λ f. filled f (made.stands_for m)) (sym (under_none (λ i. local (renaming d (numbers ws) i))))

      so : (i : ℕ) → renaming d (numbers vs) i ≡ renaming d (numbers ws) i → i < p → AnyByRecursion (λ j. j ≡ i) (kept_numbers (common_arguments vs ws) p)
      so i agree below =
          marked_among (common_arguments vs ws) p i (p - 1 - i) (omega (arith, below))
          (common_told vs ws h g (p - 1 - i) (omega (arith, below, long)) (long ∙ sym wide)
          (sym (argument_of d p (numbers vs) i long below) ∙ agree ∙ argument_of d p (numbers ws) i wide below))

  -- a pattern and a scheme that become the same: the value of the first name to prune has only parameters that are kept
  module _ (vs : Values) (d m n : ℕ) (keeps : List Bool) (metas : List MetaDecl) (decl : MetaDecl) (declared : slice_get metas n ≡ Some decl) where
    abbrev Among : SchemeTree → Type 0
    Among v = HasParametersAmong (kept_numbers keeps (params decl)) (params decl) v

    kept_there : (b : ℕ) (ws : Values) → AreDistinctLocals ws → ValuesBelow (d + b) ws → length (numbers ws) ≡ params decl → kept_arguments vs b ws ≡ keeps →
        (i : ℕ) → (renaming (d + b) (numbers ws) i < b) ⊎ IsAmongOrBeyond vs d (renaming (d + b) (numbers ws) i - b) → i < params decl →
        AnyByRecursion (λ j. j ≡ i) (kept_numbers keeps (params decl))
    kept_there b ws distinct low long same i g below =
        marked_among keeps (params decl) i (params decl - 1 - i) (omega (arith, below))
        (subst (λ ks. slice_get ks (params decl - 1 - i) ≡ Some true) same
        (kept_told vs b ws distinct (params decl - 1 - i) (omega (arith, below, long))
        (at (subst (λ j. (j < b) ⊎ IsAmongOrBeyond vs d (j - b)) (argument_of (d + b) (params decl) (numbers ws) i long below) g))))
      where
        inside : get_or (numbers ws) (params decl - 1 - i) 0 < d + b
        inside = below_at (d + b) (numbers ws) (params decl - 1 - i) (numbers_below (d + b) ws distinct low) (omega (arith, below, long))

        at : (get_or (numbers ws) (params decl - 1 - i) 0 < b) ⊎ IsAmongOrBeyond vs d (get_or (numbers ws) (params decl - 1 - i) 0 - b) →
            (get_or (numbers ws) (params decl - 1 - i) 0 < b) ⊎ IsAmong (get_or (numbers ws) (params decl - 1 - i) 0 - b) vs
        at (inl near) = inl near
        at (inr (inl among)) = inr among
        at (inr (inr beyond)) = inl (omega (arith, inside, beyond))

    mutual
      pruned_below : (b : ℕ) (t : SchemeTree) → LocalsBelow (d + b) t → IsSaturated metas t → EachLocal (IsAmongOrBeyond vs d) b (made.make (d + b) t) →
          FirstPrunable m vs b t n keeps → Among (made.stands_for n)
      pruned_below b (meta k ws) low sat h found =
          let distinct : AreDistinctLocals ws = found.0.1 in
          let here : slice_get metas k ≡ Some decl = ap (slice_get metas) found.1 ∙ declared in
          let long : length (numbers ws) ≡ params decl =
          numbers_long ws ∙ match_at (slice_get metas k) (λ decl. length (listed ws) ≡ params decl) decl here sat.0 in
          subst (λ j. Among (made.stands_for j)) found.1
          (each_so (λ i. (renaming (d + b) (numbers ws) i < b) ⊎ IsAmongOrBeyond vs d (renaming (d + b) (numbers ws) i - b))
          (λ i. i < params decl → AnyByRecursion (λ j. j ≡ i) (kept_numbers keeps (params decl))) (kept_there b ws distinct low long found.2) 0 (made.stands_for k)
          (each_renamed (IsAmongOrBeyond vs d) (renaming (d + b) (numbers ws)) b (made.stands_for k)
          (subst (EachLocal (IsAmongOrBeyond vs d) b) (shape (d + b) k ws distinct) h)))
      pruned_below b (known k) low sat h found = absurd found
      pruned_below b (local i) low sat h found = absurd found
      pruned_below b (con p xs) low sat h found =
          pruned_below_parts b xs low sat (subst (EachLocal (IsAmongOrBeyond vs d) b) (made.of_con (d + b) p xs) h) found

      pruned_below_parts : (b : ℕ) (xs : Parts) → PartsBelow (d + b) xs → PartsAreSaturated metas xs → EachLocalOfParts (IsAmongOrBeyond vs d) b (made.make_parts (d + b) xs) →
          FirstPrunableInParts m vs b xs n keeps → Among (made.stands_for n)
      pruned_below_parts b no_parts low sat h found = absurd found
      pruned_below_parts b (part c s xs) low sat h (inl found) =
          let deep : d + b + c ≡ d + (b + c) = omega arith in
          let there : EachLocalOfParts (IsAmongOrBeyond vs d) b (part c (made.make (d + b + c) s) (made.make_parts (d + b) xs)) =
          subst (EachLocalOfParts (IsAmongOrBeyond vs d) b) (made.of_part (d + b) c s xs) h in
          pruned_below (b + c) s (subst (λ k. LocalsBelow k s) deep low.0) sat.0 (subst (λ k. EachLocal (IsAmongOrBeyond vs d) (b + c) (made.make k s)) deep there.0) found
      pruned_below_parts b (part c s xs) low sat h (inr found) =
          let there : EachLocalOfParts (IsAmongOrBeyond vs d) b (part c (made.make (d + b + c) s) (made.make_parts (d + b) xs)) =
          subst (EachLocalOfParts (IsAmongOrBeyond vs d) b) (made.of_part (d + b) c s xs) h in
          pruned_below_parts b xs low.1 sat.1 there.1 found.1

    pub pruned_value : (t : SchemeTree) → AreDistinctLocals vs → LocalsBelow d t → IsSaturated metas t → made.make d (meta m vs) ≡ made.make d t →
        FirstPrunable m vs 0 t n keeps → HasParametersAmong (kept_numbers keeps (params decl)) (params decl) (made.stands_for n)
    pruned_value t distinct low sat e found =
        let none : d ≡ d + 0 = omega arith in
        pruned_below 0 t (subst (λ k. LocalsBelow k t) none low) sat
        (subst (λ k. EachLocal (IsAmongOrBeyond vs d) 0 (made.make k t)) none
        (subst (EachLocal (IsAmongOrBeyond vs d) 0) (sym (shape d m vs distinct) ∙ e)
        (goes_there (IsAmongOrBeyond vs d) (renaming d (numbers vs)) (argument_is_among d vs distinct) (made.stands_for m)))) found

  -- a pattern and a scheme that become the same: the value is what becomes of the scheme over the parameters
  pub bound_value : (d m p : ℕ) (vs : Values) (t : SchemeTree) → AreDistinctLocals vs → ValuesBelow d vs → length (numbers vs) ≡ p →
      made.make p (over_parameters vs t) ≡ filled (renamed_to (parameter_at vs) d p) (made.make d t) → made.make d (meta m vs) ≡ made.make d t →
      made.make p (over_parameters vs t) ≡ made.stands_for m
  bound_value d m p vs t distinct low long renamed e =
      renamed ∙ ap (λ f. filled f (made.make d t)) each
      ∙ sym (demand_is_value made m d (meta m vs) (made.make d t) (lowered (numbers vs) d (made.make d t)) low e (refl, distinct, refl))
    where
      each : ◌≡◌ {A = ℕ → SchemeTree} (renamed_to (parameter_at vs) d p) (λ i. local (variable_of (numbers vs) d i))
      each = λ k i. (ap (λ j. if nat_lt i d then local j else local (i - d + p)) (parameter_same vs distinct i)
          ∙ ap (λ j. if nat_lt i d then local (parameter_of (numbers vs) i) else local (i - d + j)) (sym long) ∙ together (nat_lt i d) i) k
        where
          together : (b : Bool) (i : ℕ) → (if b then local (parameter_of (numbers vs) i) else local (i - d + length (numbers vs)))
              ≡ local (if b then parameter_of (numbers vs) i else i - d + length (numbers vs))
          together true i = refl
          together false i = refl
