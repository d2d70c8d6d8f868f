-- A scheme is a part renamed exactly where it has its shape and all pairs of locals agree.
use Rattle.std.proofs.Common.{◌≡◌, ◌↔◌, ◌<◌, ◌≤◌, ◌+◌, ◌-◌, ◌⊎◌, ℕ, true, false, nat_eq, nat_lt, if◌then◌else◌, Option, Some, None, MatchOption, unwrap_or, inl, inr, refl, ap, ◌∙◌, sym, subst, arith}
use Rattle.std.proofs.lemmas.Bool.{cases_eq, cases_lt}
use Rattle.std.proofs.lemmas.Bool.Decides.{nat_tests}
use Rattle.scheme_terms.specs.SchemeTree.{SchemeTree, meta, known, local, con, Values, no_values, value, Parts, no_parts, part, filled, filled_values, filled_parts, under, shifted, IsFreeOf, AreFreeOf, PartsFreeOf}
use Rattle.scheme_terms.proofs.SchemeFilling.{under_at, under_past, under_under, under_none}
use Rattle.induction_order.specs.Renaming.{IsRenamed, IsPairOfLocals, IsLike, AreLike, PartsLike, Agrees, IsConsistent}

-- what stands for a bound variable of the part: the first local at one of its places

abbrev sooner : Option ℕ → Option ℕ → Option ℕ
sooner (Some x) o = Some x
sooner None o = o

abbrev mutual
  standing : (b k : ℕ) → (arg s : SchemeTree) → Option ℕ
  standing b k (meta m vs) (meta n ws) = standing_values b k vs ws
  standing b k (local a) (local i) = if nat_eq k i then Some (a - b) else None
  standing b k (con p xs) (con q ys) = standing_parts b k xs ys
  standing b k _ _ = None

  standing_values : (b k : ℕ) → Values → Values → Option ℕ
  standing_values b k (value s vs) (value t ws) = sooner (standing b k s t) (standing_values b k vs ws)
  standing_values b k _ _ = None

  standing_parts : (b k : ℕ) → Parts → Parts → Option ℕ
  standing_parts b k (part m s xs) (part n t ys) = sooner (standing (b + n) (k + n) s t) (standing_parts b k xs ys)
  standing_parts b k _ _ = None

match_sooner : (o l : Option ℕ) (A B : Type 0) (Q : ℕ → Type 0) → MatchOption o A Q → MatchOption l B Q → MatchOption (sooner o l) (A × B) Q
match_sooner (Some x) l A B Q h g = h
match_sooner None (Some x) A B Q h g = g
match_sooner None None A B Q h g = (h, g)

module _ (P : ℕ → ℕ → Type 0) (d y : ℕ) (bound : y < d) where
  local_standing : (b k a i : ℕ) → k ≡ y + b → IsPairOfLocals P d b a i →
      MatchOption (if nat_eq k i then Some (a - b) else None) (IsFreeOf k (local i)) (λ x. P x y)
  local_standing b k a i is (inl inside) =
      let no : nat_eq k i ≡ false = grind (arith, nat_tests, inside.0, is) in
      rw no (λ e. omega (arith, e, inside.0, is))
  local_standing b k a i is (inr (inl free)) =
      let no : nat_eq k i ≡ false = grind (arith, nat_tests, free.0, is, bound) in
      rw no (λ e. omega (arith, e, free.0, is, bound))
  local_standing b k a i is (inr (inr pair)) = at (cases_eq k i)
    where
      at : (k ≡ i) ⊎ (k ≡ i → ⊥) → MatchOption (if nat_eq k i then Some (a - b) else None) (IsFreeOf k (local i)) (λ x. P x y)
      at (inl e) =
          let yes : nat_eq k i ≡ true = grind (arith, nat_tests) in
          let same : pair.1 ≡ y = omega (arith, e, is, pair.4) in
          let first : pair.0 ≡ a - b = omega (arith, pair.3) in
          rw yes (subst (P (a - b)) same (subst (λ x. P x pair.1) first pair.5))
      at (inr e) =
          let no : nat_eq k i ≡ false = grind (arith, nat_tests) in
          rw no (λ f. e (sym f))

  mutual
    stands : (b k : ℕ) (arg s : SchemeTree) → k ≡ y + b → IsLike P d b arg s → MatchOption (standing b k arg s) (IsFreeOf k s) (λ x. P x y)
    stands b k (meta m vs) (meta n ws) is h = values_stand b k vs ws is h.1
    stands b k (known l) (known n) is h = tt
    stands b k (local a) (local i) is h = local_standing b k a i is h
    stands b k (con p xs) (con q ys) is h = parts_stand b k xs ys is h.1
    stands b k _ _ is h = absurd h

    values_stand : (b k : ℕ) (vs ws : Values) → k ≡ y + b → AreLike P d b vs ws → MatchOption (standing_values b k vs ws) (AreFreeOf k ws) (λ x. P x y)
    values_stand b k no_values no_values is h = tt
    values_stand b k (value s vs) (value t ws) is h =
        match_sooner (standing b k s t) (standing_values b k vs ws) (IsFreeOf k t) (AreFreeOf k ws) (λ x. P x y)
        (stands b k s t is h.0) (values_stand b k vs ws is h.1)
    values_stand b k _ _ is h = absurd h

    parts_stand : (b k : ℕ) (xs ys : Parts) → k ≡ y + b → PartsLike P d b xs ys → MatchOption (standing_parts b k xs ys) (PartsFreeOf k ys) (λ x. P x y)
    parts_stand b k no_parts no_parts is h = tt
    parts_stand b k (part m s xs) (part n t ys) is h =
        match_sooner (standing (b + n) (k + n) s t) (standing_parts b k xs ys) (IsFreeOf (k + n) t) (PartsFreeOf k ys) (λ x. P x y)
        (stands (b + n) (k + n) s t (omega (arith, is)) h.0.1) (parts_stand b k xs ys is h.1)
    parts_stand b k _ _ is h = absurd h

-- what a renaming puts for the locals of a part

abbrev put : (d : ℕ) → (ℕ → ℕ) → ℕ → SchemeTree
put d to i = if nat_lt i d then local (to i) else local (i - d)

raised_local : (b j : ℕ) → shifted 0 b (local j) ≡ local (j + b)
raised_local b j = ap local (let e : (if nat_lt j 0 then j else j + b) ≡ j + b = grind (arith, nat_tests) in e)

put_inside : (d : ℕ) (to : ℕ → ℕ) (b i : ℕ) → i < b → under b (put d to) i ≡ local i
put_inside d to b i h = under_at b (put d to) i h

put_free : (d : ℕ) (to : ℕ → ℕ) (b a i : ℕ) → b + d ≤ i → a + d ≡ i → under b (put d to) i ≡ local a
put_free d to b a i h e =
    let past : nat_lt (i - b) d ≡ false = grind (arith, nat_tests) in
    let here : put d to (i - b) ≡ local (i - b - d) = rw past refl in
    under_past b (put d to) i (omega arith) ∙ ap (shifted 0 b) here ∙ raised_local b (i - b - d)
    ∙ ap local (let same : i - b - d + b ≡ a = omega arith in same)

put_bound : (d : ℕ) (to : ℕ → ℕ) (b i y : ℕ) → y < d → i ≡ y + b → under b (put d to) i ≡ local (to y + b)
put_bound d to b i y h e =
    let less : nat_lt y d ≡ true = grind (arith, nat_tests) in
    let here : put d to y ≡ local (to y) = rw less refl in
    let back : i - b ≡ y = omega arith in
    under_past b (put d to) i (omega arith) ∙ ap (λ j. shifted 0 b (put d to j)) back ∙ ap (shifted 0 b) here ∙ raised_local b (to y)

-- the shape, with what stands for each bound variable that stands in it, is the renaming

module _ (P : ℕ → ℕ → Type 0) (d : ℕ) (to : ℕ → ℕ) where
  -- what stands for a bound variable that stands in the part is what it is renamed to
  abbrev Names : ℕ → Type 0 → Type 0
  Names y Free = (Free → ⊥) → (x : ℕ) → P x y → to y ≡ x

  mutual
    restored : (b : ℕ) (arg s : SchemeTree) → ((y : ℕ) → y < d → Names y (IsFreeOf (y + b) s)) → IsLike P d b arg s → arg ≡ filled (under b (put d to)) s
    restored b (meta m vs) (meta n ws) names h = λ i. meta (h.0 i) (values_restored b vs ws names h.1 i)
    restored b (known k) (known l) names h = ap known h
    restored b (local a) (local i) names (inl inside) = ap local inside.1 ∙ sym (put_inside d to b i inside.0)
    restored b (local a) (local i) names (inr (inl free)) = sym (put_free d to b a i free.0 free.1)
    restored b (local a) (local i) names (inr (inr pair)) =
        let same : to pair.1 ≡ pair.0 = names pair.1 pair.2 (λ no. no pair.4) pair.0 pair.5 in
        ap local (pair.3 ∙ ap (λ x. x + b) (sym same)) ∙ sym (put_bound d to b i pair.1 pair.2 pair.4)
    restored b (con p xs) (con q ys) names h = λ i. con (h.0 i) (parts_restored b xs ys names h.1 i)
    restored b _ _ names h = absurd h

    values_restored : (b : ℕ) (vs ws : Values) → ((y : ℕ) → y < d → Names y (AreFreeOf (y + b) ws)) → AreLike P d b vs ws → vs ≡ filled_values (under b (put d to)) ws
    values_restored b no_values no_values names h = refl
    values_restored b (value s vs) (value t ws) names h =
        let first = restored b s t (λ y less there. names y less (λ no. there no.0)) h.0 in
        let rest = values_restored b vs ws (λ y less there. names y less (λ no. there no.1)) h.1 in
        λ i. value (first i) (rest i)
    values_restored b _ _ names h = absurd h

    parts_restored : (b : ℕ) (xs ys : Parts) → ((y : ℕ) → y < d → Names y (PartsFreeOf (y + b) ys)) → PartsLike P d b xs ys → xs ≡ filled_parts (under b (put d to)) ys
    parts_restored b no_parts no_parts names h = refl
    parts_restored b (part m s xs) (part n t ys) names h =
        let deep : (y : ℕ) → y < d → Names y (IsFreeOf (y + (b + n)) t) =
        λ y less there. names y less (λ no. there (subst (λ k. IsFreeOf k t) (let e : y + b + n ≡ y + (b + n) = omega arith in e) no.0)) in
        let first = restored (b + n) s t deep h.0.1 ∙ ap (λ f. filled f t) (sym (under_under b n (put d to))) in
        let rest = parts_restored b xs ys (λ y less there. names y less (λ no. there no.1)) h.1 in
        λ i. part (h.0.0 i) (first i) (rest i)
    parts_restored b _ _ names h = absurd h

  -- the renaming has the shape

  local_like : (b : ℕ) (t : SchemeTree) (a i : ℕ) → t ≡ local a → IsPairOfLocals P d b a i → IsLike P d b t (local i)
  local_like b t a i e h = subst (λ x. IsLike P d b x (local i)) (sym e) h

  abbrev Keeps : ℕ → Type 0 → Type 0
  Keeps y Free = (Free → ⊥) → P (to y) y

  renamed_local : (b i : ℕ) → ((y : ℕ) → y < d → Keeps y (IsFreeOf (y + b) (local i))) → IsLike P d b (under b (put d to) i) (local i)
  renamed_local b i keeps = at (cases_lt i b) (cases_lt i (b + d))
    where
      at : (i < b) ⊎ (b ≤ i) → (i < b + d) ⊎ (b + d ≤ i) → IsLike P d b (under b (put d to) i) (local i)
      at (inl inside) past = local_like b _ i i (put_inside d to b i inside) (inl (inside, refl))
      at (inr outside) (inr free) =
          let back : i - d + d ≡ i = omega arith in
          local_like b _ (i - d) i (put_free d to b (i - d) i free back) (inr (inl (free, back)))
      at (inr outside) (inl around) =
          let less : i - b < d = omega arith in
          let back : i ≡ i - b + b = omega arith in
          local_like b _ (to (i - b) + b) i (put_bound d to b i (i - b) less back)
          (inr (inr (to (i - b), i - b, less, refl, back, keeps (i - b) less (λ no. no back))))

  mutual
    renamed_like : (b : ℕ) (s : SchemeTree) → ((y : ℕ) → y < d → Keeps y (IsFreeOf (y + b) s)) → IsLike P d b (filled (under b (put d to)) s) s
    renamed_like b (meta m vs) keeps = (refl, renamed_values_like b vs keeps)
    renamed_like b (known k) keeps = refl
    renamed_like b (local i) keeps = renamed_local b i keeps
    renamed_like b (con p xs) keeps = (refl, renamed_parts_like b xs keeps)

    renamed_values_like : (b : ℕ) (vs : Values) → ((y : ℕ) → y < d → Keeps y (AreFreeOf (y + b) vs)) → AreLike P d b (filled_values (under b (put d to)) vs) vs
    renamed_values_like b no_values keeps = tt
    renamed_values_like b (value s vs) keeps =
        (renamed_like b s (λ y less there. keeps y less (λ no. there no.0)), renamed_values_like b vs (λ y less there. keeps y less (λ no. there no.1)))

    renamed_parts_like : (b : ℕ) (xs : Parts) → ((y : ℕ) → y < d → Keeps y (PartsFreeOf (y + b) xs)) → PartsLike P d b (filled_parts (under b (put d to)) xs) xs
    renamed_parts_like b no_parts keeps = tt
    renamed_parts_like b (part n s xs) keeps =
        let deep : (y : ℕ) → y < d → Keeps y (IsFreeOf (y + (b + n)) s) =
        λ y less there. keeps y less (λ no. there (subst (λ k. IsFreeOf k s) (let e : y + b + n ≡ y + (b + n) = omega arith in e) no.0)) in (
          (refl, subst (λ f. IsLike P d (b + n) (filled f s) s) (sym (under_under b n (put d to))) (renamed_like (b + n) s deep)),
          renamed_parts_like b xs (λ y less there. keeps y less (λ no. there no.1)),
        )

-- both ways

module _ (d : ℕ) (arg s : SchemeTree) where
  abbrev chosen : ℕ → ℕ
  chosen y = unwrap_or (standing 0 y arg s) 0

  no_more : (y : ℕ) → y ≡ y + 0
  no_more y = omega arith

  -- what stands for a bound variable that stands in the part is the one that was chosen
  chosen_is : (x y u v : ℕ) → v < d → (IsFreeOf v s → ⊥) → IsConsistent d arg s x y → Agrees x y (chosen v) v
  chosen_is x y u v less there h = at (standing 0 v arg s) (stands (Agrees x y) d v less 0 v arg s (no_more v) h)
    where
      at : (o : Option ℕ) → MatchOption o (IsFreeOf v s) (λ u. Agrees x y u v) → Agrees x y (unwrap_or o 0) v
      at None free = absurd (there free)
      at (Some u) agrees = agrees

  chosen_consistent : (y : ℕ) → y < d → (IsFreeOf y s → ⊥) → IsLike (IsConsistent d arg s) d 0 arg s → IsConsistent d arg s (chosen y) y
  chosen_consistent y less there h = at (standing 0 y arg s) (stands (IsConsistent d arg s) d y less 0 y arg s (no_more y) h)
    where
      at : (o : Option ℕ) → MatchOption o (IsFreeOf y s) (λ u. IsConsistent d arg s u y) → IsConsistent d arg s (unwrap_or o 0) y
      at None free = absurd (there free)
      at (Some u) is = is

  renamed_of : IsLike (IsConsistent d arg s) d 0 arg s → IsRenamed d arg s
  renamed_of h = (
    chosen,
    λ i j less more here there same. (chosen_is (chosen i) i 0 j more there (chosen_consistent i less here h)).0 same,
    restored (IsConsistent d arg s) d chosen 0 arg s names h ∙ ap (λ f. filled f s) (under_none (put d chosen)),
  )
    where
      names : (y : ℕ) → y < d → (IsFreeOf (y + 0) s → ⊥) → (x : ℕ) → IsConsistent d arg s x y → chosen y ≡ x
      names y less there x is =
          sym ((chosen_is x y 0 y less (subst (λ k. IsFreeOf k s → ⊥) (sym (no_more y)) there) is).1 refl)

  of_renamed : IsRenamed d arg s → IsLike (IsConsistent d arg s) d 0 arg s
  of_renamed h = shape (IsConsistent d arg s) (λ y less there. shape (Agrees (h.0 y) y) (λ v more here. agreed y v less more there here))
    where
      same : arg ≡ filled (under 0 (put d h.0)) s
      same = h.2 ∙ ap (λ f. filled f s) (sym (under_none (put d h.0)))

      shape : (P : ℕ → ℕ → Type 0) → ((y : ℕ) → y < d → (IsFreeOf (y + 0) s → ⊥) → P (h.0 y) y) → IsLike P d 0 arg s
      shape P keeps = subst (λ t. IsLike P d 0 t s) (sym same) (renamed_like P d h.0 0 s keeps)

      free : (y : ℕ) → (IsFreeOf (y + 0) s → ⊥) → IsFreeOf y s → ⊥
      free y there = subst (λ k. IsFreeOf k s → ⊥) (sym (no_more y)) there

      agreed : (y v : ℕ) → y < d → v < d → (IsFreeOf (y + 0) s → ⊥) → (IsFreeOf (v + 0) s → ⊥) → Agrees (h.0 y) y (h.0 v) v
      agreed y v less more there here = (h.1 y v less more (free y there) (free v here), ap h.0)

  pub consistent_renamed : IsLike (IsConsistent d arg s) d 0 arg s ↔ IsRenamed d arg s
  consistent_renamed = (renamed_of, of_renamed)
