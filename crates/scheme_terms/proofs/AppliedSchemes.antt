-- Schemes put in for names, one after another.
use Rattle.std.proofs.Common.{◌≡◌, ◌⊎◌, ℕ, zero, suc, ◌+◌, ◌-◌, ◌<◌, ◌≤◌, nat_lt, List, [], ◌∷◌, length, map, reverse, subst, Some, slice_get, unwrap_or, option_map, MatchOption, inl, inr, refl, ap, ◌∙◌, sym, if◌then◌else◌, arith}
use Rattle.std.specs.List.{AllByRecursion}
use Rattle.std.proofs.lemmas.Bool.{cases_lt}
use Rattle.std.proofs.lemmas.Bool.Decides.{nat_tests}
use Rattle.std.proofs.lemmas.List.{length-map}
use Rattle.std.proofs.lemmas.Option.{slice_get-map, slice_get-get_or}
use Rattle.std.proofs.Common.{get_or}
use Rattle.binding_terms.specs.Tree.{raised}
use Rattle.scheme_terms.specs.SchemeTree.{SchemeTree, meta, known, local, con, Values, no_values, value, Parts, no_parts, part, shifted, shifted_values, shifted_parts, under, filled, filled_values, filled_parts, listed}
use Rattle.scheme_terms.specs.Forms.{Substitution}
use Rattle.scheme_terms.specs.Substituting.{scheme_for, known_for, argument_or_local, applied, applied_values, applied_parts, composed, LocalsBelow, ValuesBelow, PartsBelow, Suits, SuitsValues, SuitsParts}
use Rattle.scheme_terms.specs.Laws.{AppliedAnywhere, AppliedTwice, AppliedRaised}
use Rattle.scheme_terms.proofs.Arguments.{argument_at, argument_past, argument_mapped}
use Rattle.scheme_terms.proofs.AppliedInstances.{length_applied, value_below}
use Rattle.scheme_terms.proofs.SchemeFilling.{under_at, under_past}
use Rattle.scheme_terms.proofs.SchemeSubstitutions.{shifted_filled, filled_filled, filled_agree}
use Rattle.binding_terms.proofs.Lists.{match_some}

module _ (ss : List SchemeTree) (ks : List ℕ) where
  -- the locals around a scheme do not count
  mutual
    pub applied_anywhere : (d e : ℕ) (s : SchemeTree) → Suits ss ks s → applied ss ks d s ≡ applied ss ks e s
    applied_anywhere d e (meta m vs) h =
        let within : (i : ℕ) → i < length (listed vs) → argument_or_local d (applied_values ss ks d vs) i ≡ argument_or_local e (applied_values ss ks e vs) i =
        λ i low.
        argument_at (local 0) (λ j. local (j + d)) (applied_values ss ks d vs) i (omega (arith, low, length_applied ss ks d vs))
        ∙ ap (λ ts. unwrap_or (slice_get (reverse ts) i) (local 0)) (values_anywhere d e vs h.1)
        ∙ sym (argument_at (local 0) (λ j. local (j + e)) (applied_values ss ks e vs) i (omega (arith, low, length_applied ss ks e vs))) in
        filled_agree (length (listed vs)) (argument_or_local d (applied_values ss ks d vs)) (argument_or_local e (applied_values ss ks e vs)) within
        (scheme_for ss m) (value_below (length (listed vs)) (slice_get ss m) h.0)
    applied_anywhere d e (known k) h = refl
    applied_anywhere d e (local i) h = refl
    applied_anywhere d e (con p xs) h = ap (con p) (parts_anywhere d e xs h)

    values_anywhere : (d e : ℕ) (vs : Values) → SuitsValues ss ks vs → applied_values ss ks d vs ≡ applied_values ss ks e vs
    values_anywhere d e no_values h = refl
    values_anywhere d e (value s vs) h =
        ap (λ t. t ∷ applied_values ss ks d vs) (applied_anywhere d e s h.0) ∙ ap (λ ts. applied ss ks e s ∷ ts) (values_anywhere d e vs h.1)

    parts_anywhere : (d e : ℕ) (xs : Parts) → SuitsParts ss ks xs → applied_parts ss ks d xs ≡ applied_parts ss ks e xs
    parts_anywhere d e no_parts h = refl
    parts_anywhere d e (part n s xs) h =
        ap (λ t. part n t (applied_parts ss ks d xs)) (applied_anywhere (d + n) (e + n) s h.0) ∙ ap (part n (applied ss ks (e + n) s)) (parts_anywhere d e xs h.1)

  raised_outside : (c d n i : ℕ) → c ≤ d → raised c n (i + d) ≡ i + (d + n)
  raised_outside c d n i h = grind (arith, nat_tests)

  arguments_raised : (c d n : ℕ) → c ≤ d → (args : List SchemeTree) →
      ◌≡◌ {A = ℕ → SchemeTree} (λ i. shifted c n (argument_or_local d args i)) (argument_or_local (d + n) (map (shifted c n) args))
  arguments_raised c d n h args = λ k i.
      argument_mapped (shifted c n) (local 0) (local 0) (λ j. local (j + d)) (λ j. local (j + (d + n))) args (λ j. ap local (raised_outside c d n j h)) i k

  -- a raised scheme
  mutual
    pub applied_shifted : (c d n : ℕ) → c ≤ d → (s : SchemeTree) → applied ss ks (d + n) (shifted c n s) ≡ shifted c n (applied ss ks d s)
    applied_shifted c d n h (meta m vs) =
        ap (λ ts. filled (argument_or_local (d + n) ts) (scheme_for ss m)) (values_shifted c d n h vs)
        ∙ ap (λ f. filled f (scheme_for ss m)) (sym (arguments_raised c d n h (applied_values ss ks d vs)))
        ∙ sym (shifted_filled (argument_or_local d (applied_values ss ks d vs)) c n (scheme_for ss m))
    applied_shifted c d n h (known k) = refl
    applied_shifted c d n h (local i) = refl
    applied_shifted c d n h (con p xs) = ap (con p) (parts_shifted c d n h xs)

    values_shifted : (c d n : ℕ) → c ≤ d → (vs : Values) → applied_values ss ks (d + n) (shifted_values c n vs) ≡ map (shifted c n) (applied_values ss ks d vs)
    values_shifted c d n h no_values = refl
    values_shifted c d n h (value s vs) =
        ap (λ t. t ∷ applied_values ss ks (d + n) (shifted_values c n vs)) (applied_shifted c d n h s)
        ∙ ap (λ ts. shifted c n (applied ss ks d s) ∷ ts) (values_shifted c d n h vs)

    parts_shifted : (c d n : ℕ) → c ≤ d → (xs : Parts) → applied_parts ss ks (d + n) (shifted_parts c n xs) ≡ shifted_parts c n (applied_parts ss ks d xs)
    parts_shifted c d n h no_parts = refl
    parts_shifted c d n h (part m s xs) =
        let swap : d + n + m ≡ d + m + n = omega arith in
        ap (λ e. part m (applied ss ks e (shifted (c + m) n s)) (applied_parts ss ks (d + n) (shifted_parts c n xs))) swap
        ∙ ap (λ t. part m t (applied_parts ss ks (d + n) (shifted_parts c n xs))) (applied_shifted (c + m) (d + m) n (omega arith) s)
        ∙ ap (part m (shifted (c + m) n (applied ss ks (d + m) s))) (parts_shifted c d n h xs)

  -- what stands for the k locals of a scheme that are filled, and beyond them the locals around it
  abbrev outer : (d k : ℕ) → (ℕ → SchemeTree) → ℕ → SchemeTree
  outer d k f i = if nat_lt i k then applied ss ks d (f i) else local (i - k + d)

  outer_at : (d k : ℕ) (f : ℕ → SchemeTree) (i : ℕ) → i < k → outer d k f i ≡ applied ss ks d (f i)
  outer_at d k f i h = grind (arith, nat_tests)

  outer_past : (d k : ℕ) (f : ℕ → SchemeTree) (i : ℕ) → k ≤ i → outer d k f i ≡ local (i - k + d)
  outer_past d k f i h = grind (arith, nat_tests)

  outer_under_at : (d k n : ℕ) (f : ℕ → SchemeTree) (i : ℕ) → (i < n) ⊎ (n ≤ i) → (i < k + n) ⊎ (k + n ≤ i) → outer (d + n) (k + n) (under n f) i ≡ under n (outer d k f) i
  outer_under_at d k n f i (inl h) c =
      outer_at (d + n) (k + n) (under n f) i (omega arith) ∙ ap (applied ss ks (d + n)) (under_at n f i h) ∙ sym (under_at n (outer d k f) i h)
  outer_under_at d k n f i (inr h) (inl c) =
      outer_at (d + n) (k + n) (under n f) i c ∙ ap (applied ss ks (d + n)) (under_past n f i h) ∙ applied_shifted 0 d n (omega arith) (f (i - n))
      ∙ ap (shifted 0 n) (sym (outer_at d k f (i - n) (omega arith))) ∙ sym (under_past n (outer d k f) i h)
  outer_under_at d k n f i (inr h) (inr c) =
      let e : i - (k + n) + (d + n) ≡ raised 0 n (i - n - k + d) = grind (arith, nat_tests) in
      outer_past (d + n) (k + n) (under n f) i c ∙ ap local e
      ∙ ap (shifted 0 n) (sym (outer_past d k f (i - n) (omega arith))) ∙ sym (under_past n (outer d k f) i h)

  outer_under : (d k n : ℕ) (f : ℕ → SchemeTree) → outer (d + n) (k + n) (under n f) ≡ under n (outer d k f)
  outer_under d k n f = λ z i. outer_under_at d k n f i (cases_lt i n) (cases_lt i (k + n)) z

  beyond : (d k : ℕ) (f : ℕ → SchemeTree) (i : ℕ) → outer d k f (i + k) ≡ local (i + d)
  beyond d k f i = outer_past d k f (i + k) (omega arith) ∙ ap local (let e : i + k - k + d ≡ i + d = omega arith in e)

  arguments_filled : (d k : ℕ) (f : ℕ → SchemeTree) (args : List SchemeTree) →
      ◌≡◌ {A = ℕ → SchemeTree} (λ i. filled (outer d k f) (argument_or_local k args i)) (argument_or_local d (map (filled (outer d k f)) args))
  arguments_filled d k f args =
      λ z i. argument_mapped (filled (outer d k f)) (local 0) (local 0) (λ j. local (j + k)) (λ j. local (j + d)) args (beyond d k f) i z

  -- a scheme whose locals were filled
  mutual
    pub applied_filled : (d k : ℕ) (f : ℕ → SchemeTree) (s : SchemeTree) → LocalsBelow k s → applied ss ks d (filled f s) ≡ filled (outer d k f) (applied ss ks k s)
    applied_filled d k f (meta m vs) h =
        ap (λ ts. filled (argument_or_local d ts) (scheme_for ss m)) (values_filled d k f vs h)
        ∙ ap (λ g. filled g (scheme_for ss m)) (sym (arguments_filled d k f (applied_values ss ks k vs)))
        ∙ sym (filled_filled (argument_or_local k (applied_values ss ks k vs)) (outer d k f) (scheme_for ss m))
    applied_filled d k f (known l) h = refl
    applied_filled d k f (local i) h = sym (outer_at d k f i h)
    applied_filled d k f (con p xs) h = ap (con p) (parts_filled d k f xs h)

    values_filled : (d k : ℕ) (f : ℕ → SchemeTree) (vs : Values) → ValuesBelow k vs → applied_values ss ks d (filled_values f vs) ≡ map (filled (outer d k f)) (applied_values ss ks k vs)
    values_filled d k f no_values h = refl
    values_filled d k f (value s vs) h =
        ap (λ t. t ∷ applied_values ss ks d (filled_values f vs)) (applied_filled d k f s h.0)
        ∙ ap (λ ts. filled (outer d k f) (applied ss ks k s) ∷ ts) (values_filled d k f vs h.1)

    parts_filled : (d k : ℕ) (f : ℕ → SchemeTree) (xs : Parts) → PartsBelow k xs → applied_parts ss ks d (filled_parts f xs) ≡ filled_parts (outer d k f) (applied_parts ss ks k xs)
    parts_filled d k f no_parts h = refl
    parts_filled d k f (part n s xs) h =
        ap (λ t. part n t (applied_parts ss ks d (filled_parts f xs)))
        (applied_filled (d + n) (k + n) (under n f) s h.0 ∙ ap (λ g. filled g (applied ss ks (k + n) s)) (outer_under d k n f))
        ∙ ap (part n (filled (under n (outer d k f)) (applied ss ks (k + n) s))) (parts_filled d k f xs h.1)

  -- the arguments of a metavariable, seen from the scheme that is put in for it
  arguments_applied_at : (d n : ℕ) (args : List SchemeTree) → length args ≡ n → (i : ℕ) → (i < n) ⊎ (n ≤ i) →
      outer d n (argument_or_local d args) i ≡ argument_or_local d (map (applied ss ks d) args) i
  arguments_applied_at d n args same i (inl h) =
      outer_at d n (argument_or_local d args) i h
      ∙ argument_mapped (applied ss ks d) (local 0) (local 0) (λ j. local (j + d)) (λ j. local (j + d)) args (λ j. refl) i
  arguments_applied_at d n args same i (inr h) =
      let e : i - n + d ≡ i - length (map (applied ss ks d) args) + d = rw length-map (let k : i - n + d ≡ i - length args + d = omega arith in k) in
      outer_past d n (argument_or_local d args) i h ∙ ap local e
      ∙ sym (argument_past (local 0) (λ j. local (j + d)) (map (applied ss ks d) args) i (rw length-map (let k : length args ≤ i = omega arith in k)))

  pub arguments_applied : (d n : ℕ) (args : List SchemeTree) → length args ≡ n → outer d n (argument_or_local d args) ≡ argument_or_local d (map (applied ss ks d) args)
  arguments_applied d n args same = λ z i. arguments_applied_at d n args same i (cases_lt i n) z

-- one substitution after another
module _ (first after : Substitution) (suits : AllByRecursion (Suits after.metas after.knowns) first.metas) where
  value_suits : (values : List SchemeTree) → AllByRecursion (Suits after.metas after.knowns) values → (m : ℕ) (s : SchemeTree) → slice_get values m ≡ Some s → Suits after.metas after.knowns s
  value_suits [] h m s e = absurd (let no : ⊥ = cc in no)
  value_suits (x ∷ xs) h zero s e = subst (Suits after.metas after.knowns) (let same : x ≡ s = cc in same) h.0
  value_suits (x ∷ xs) h (suc m) s e = value_suits xs h.1 m s e

  composed_value : (m n : ℕ) → MatchOption (slice_get first.metas m) ⊥ (LocalsBelow n) →
      applied after.metas after.knowns n (scheme_for first.metas m) ≡ scheme_for (composed first after).metas m
  composed_value m n h =
      let found = match_some (slice_get first.metas m) (LocalsBelow n) h in
      ap (λ o. applied after.metas after.knowns n (unwrap_or o (local 0))) found.1
      ∙ applied_anywhere after.metas after.knowns n 0 found.0 (value_suits first.metas suits m found.0 found.1)
      ∙ sym (ap (λ o. unwrap_or o (local 0)) (slice_get-map (applied after.metas after.knowns 0) first.metas m ∙ ap (option_map (applied after.metas after.knowns 0)) found.1))

  composed_known : (k : ℕ) → k < length first.knowns → known_for after.knowns (known_for first.knowns k) ≡ known_for (map (known_for after.knowns) first.knowns) k
  composed_known k h =
      let l : ℕ = get_or first.knowns k 0 in
      let found : slice_get first.knowns k ≡ Some l = slice_get-get_or first.knowns k 0 h in
      ap (λ o. known_for after.knowns (unwrap_or o k)) found
      ∙ sym (ap (λ o. unwrap_or o k) (slice_get-map (known_for after.knowns) first.knowns k ∙ ap (option_map (known_for after.knowns)) found))

  mutual
    pub applied_twice : (d : ℕ) (s : SchemeTree) → Suits first.metas first.knowns s →
        applied after.metas after.knowns d (applied first.metas first.knowns d s) ≡ applied (composed first after).metas (composed first after).knowns d s
    applied_twice d (meta m vs) h =
        applied_filled after.metas after.knowns d (length (listed vs)) (argument_or_local d (applied_values first.metas first.knowns d vs)) (scheme_for first.metas m)
        (value_below (length (listed vs)) (slice_get first.metas m) h.0)
        ∙ ap (λ f. filled f (applied after.metas after.knowns (length (listed vs)) (scheme_for first.metas m)))
        (arguments_applied after.metas after.knowns d (length (listed vs)) (applied_values first.metas first.knowns d vs) (length_applied first.metas first.knowns d vs))
        ∙ ap (λ ts. filled (argument_or_local d ts) (applied after.metas after.knowns (length (listed vs)) (scheme_for first.metas m))) (values_twice d vs h.1)
        ∙ ap (filled (argument_or_local d (applied_values (composed first after).metas (composed first after).knowns d vs))) (composed_value m (length (listed vs)) h.0)
    applied_twice d (known k) h = ap known (composed_known k h)
    applied_twice d (local i) h = refl
    applied_twice d (con p xs) h = ap (con p) (parts_twice d xs h)

    values_twice : (d : ℕ) (vs : Values) → SuitsValues first.metas first.knowns vs →
        map (applied after.metas after.knowns d) (applied_values first.metas first.knowns d vs) ≡ applied_values (composed first after).metas (composed first after).knowns d vs
    values_twice d no_values h = refl
    values_twice d (value s vs) h =
        ap (λ t. t ∷ map (applied after.metas after.knowns d) (applied_values first.metas first.knowns d vs)) (applied_twice d s h.0)
        ∙ ap (λ ts. applied (composed first after).metas (composed first after).knowns d s ∷ ts) (values_twice d vs h.1)

    parts_twice : (d : ℕ) (xs : Parts) → SuitsParts first.metas first.knowns xs →
        applied_parts after.metas after.knowns d (applied_parts first.metas first.knowns d xs) ≡ applied_parts (composed first after).metas (composed first after).knowns d xs
    parts_twice d no_parts h = refl
    parts_twice d (part n s xs) h =
        ap (λ t. part n t (applied_parts after.metas after.knowns d (applied_parts first.metas first.knowns d xs))) (applied_twice (d + n) s h.0)
        ∙ ap (part n (applied (composed first after).metas (composed first after).knowns (d + n) s)) (parts_twice d xs h.1)

pub applied_anywhere_law : AppliedAnywhere
applied_anywhere_law by d e s h = applied_anywhere by.metas by.knowns d e s h

pub applied_raised_law : AppliedRaised
applied_raised_law by c d n s h = applied_shifted by.metas by.knowns c d n h s

pub applied_twice_law : AppliedTwice
applied_twice_law first after d s h suits = applied_twice first after suits d s h
