-- The laws of putting in for all variables at once.
use Rattle.std.proofs.Common.{◌≡◌, ◌⊎◌, ℕ, ◌+◌, ◌-◌, ◌<◌, ◌≤◌, inl, inr, refl, ap, ◌∙◌, sym, arith}
use Rattle.std.proofs.lemmas.Bool.{cases_lt, cases_order}
use Rattle.std.proofs.lemmas.Bool.Decides.{nat_tests}
use Rattle.binding_terms.specs.Tree.{Tree, var, con, Args, no_args, arg, raised, shifted, shifted_args, put_var, put_in, put_in_args}
use Rattle.binding_terms.specs.Substitution.{under, filled, filled_args}
use Rattle.binding_terms.proofs.Filling.{under_at, under_past}
use Rattle.binding_terms.proofs.Puts.{shifted_shifted, put_below, put_here, put_above}

raised_past : (c m n i : ℕ) → m ≤ i → raised (c + m) n i ≡ raised c n (i - m) + m
raised_past c m n i h = grind (arith, nat_tests)

raised_near : (c m n i : ℕ) → i < m → raised (c + m) n i ≡ i
raised_near c m n i h = grind (arith, nat_tests)

-- what is raised, as what is put in
raising : (c m n : ℕ) → under m (λ i. var (raised c n i)) ≡ (λ i. var (raised (c + m) n i))
raising c m n = λ k i. at i (cases_lt i m) k
  where
    at : (i : ℕ) → (i < m) ⊎ (m ≤ i) → under m (λ i. var (raised c n i)) i ≡ var (raised (c + m) n i)
    at i (inl h) = under_at m (λ j. var (raised c n j)) i h ∙ ap var (sym (raised_near c m n i h))
    at i (inr h) =
        let e : raised 0 m (raised c n (i - m)) ≡ raised (c + m) n i = grind (arith, nat_tests, raised_past c m n i h) in
        under_past m (λ j. var (raised c n j)) i h ∙ ap var e

mutual
  pub shifted_is_filled : (c n : ℕ) (t : Tree) → shifted c n t ≡ filled (λ i. var (raised c n i)) t
  shifted_is_filled c n (var i) = refl
  shifted_is_filled c n (con p xs) = ap (con p) (shifted_are_filled c n xs)

  pub shifted_are_filled : (c n : ℕ) (xs : Args) → shifted_args c n xs ≡ filled_args (λ i. var (raised c n i)) xs
  shifted_are_filled c n no_args = refl
  shifted_are_filled c n (arg m t xs) =
      ap (λ s. arg m s (shifted_args c n xs)) (shifted_is_filled (c + m) n t ∙ ap (λ f. filled f t) (sym (raising c m n)))
      ∙ ap (arg m (filled (under m (λ i. var (raised c n i))) t)) (shifted_are_filled c n xs)

-- raising before putting in
before : (f : ℕ → Tree) (c m n : ℕ) → (λ i. under m f (raised (c + m) n i)) ≡ under m (λ i. f (raised c n i))
before f c m n = λ k i. at i (cases_lt i m) k
  where
    at : (i : ℕ) → (i < m) ⊎ (m ≤ i) → under m f (raised (c + m) n i) ≡ under m (λ i. f (raised c n i)) i
    at i (inl h) = ap (under m f) (raised_near c m n i h) ∙ under_at m f i h ∙ sym (under_at m (λ j. f (raised c n j)) i h)
    at i (inr h) =
        ap (under m f) (raised_past c m n i h) ∙ under_past m f (raised c n (i - m) + m) (omega arith)
        ∙ ap (λ j. shifted 0 m (f j)) (let e : raised c n (i - m) + m - m ≡ raised c n (i - m) = omega arith in e) ∙ sym (under_past m (λ j. f (raised c n j)) i h)

mutual
  pub filled_shifted : (f : ℕ → Tree) (c n : ℕ) (t : Tree) → filled f (shifted c n t) ≡ filled (λ i. f (raised c n i)) t
  filled_shifted f c n (var i) = refl
  filled_shifted f c n (con p xs) = ap (con p) (filled_shifted_args f c n xs)

  pub filled_shifted_args : (f : ℕ → Tree) (c n : ℕ) (xs : Args) → filled_args f (shifted_args c n xs) ≡ filled_args (λ i. f (raised c n i)) xs
  filled_shifted_args f c n no_args = refl
  filled_shifted_args f c n (arg m t xs) =
      ap (λ s. arg m s (filled_args f (shifted_args c n xs))) (filled_shifted (under m f) (c + m) n t ∙ ap (λ g. filled g t) (before f c m n))
      ∙ ap (arg m (filled (under m (λ i. f (raised c n i))) t)) (filled_shifted_args f c n xs)

-- raising after putting in
after : (f : ℕ → Tree) (c m n : ℕ) → (λ i. shifted (c + m) n (under m f i)) ≡ under m (λ i. shifted c n (f i))
after f c m n = λ k i. at i (cases_lt i m) k
  where
    at : (i : ℕ) → (i < m) ⊎ (m ≤ i) → shifted (c + m) n (under m f i) ≡ under m (λ i. shifted c n (f i)) i
    at i (inl h) = ap (shifted (c + m) n) (under_at m f i h) ∙ ap var (raised_near c m n i h) ∙ sym (under_at m (λ j. shifted c n (f j)) i h)
    at i (inr h) =
        ap (shifted (c + m) n) (under_past m f i h) ∙ shifted_shifted 0 c (c + m) m n (omega arith) refl (f (i - m)) ∙ sym (under_past m (λ j. shifted c n (f j)) i h)

mutual
  pub shifted_filled : (f : ℕ → Tree) (c n : ℕ) (t : Tree) → shifted c n (filled f t) ≡ filled (λ i. shifted c n (f i)) t
  shifted_filled f c n (var i) = refl
  shifted_filled f c n (con p xs) = ap (con p) (shifted_filled_args f c n xs)

  pub shifted_filled_args : (f : ℕ → Tree) (c n : ℕ) (xs : Args) → shifted_args c n (filled_args f xs) ≡ filled_args (λ i. shifted c n (f i)) xs
  shifted_filled_args f c n no_args = refl
  shifted_filled_args f c n (arg m t xs) =
      ap (λ s. arg m s (shifted_args c n (filled_args f xs))) (shifted_filled (under m f) (c + m) n t ∙ ap (λ g. filled g t) (after f c m n))
      ∙ ap (arg m (filled (under m (λ i. shifted c n (f i))) t)) (shifted_filled_args f c n xs)

-- putting in twice
both : (f g : ℕ → Tree) (m : ℕ) → (λ i. filled (under m g) (under m f i)) ≡ under m (λ i. filled g (f i))
both f g m = λ k i. at i (cases_lt i m) k
  where
    inner : ◌≡◌ {A = ℕ → Tree} (λ j. under m g (raised 0 m j)) (λ j. shifted 0 m (g j))
    inner = λ k j. (under_past m g (raised 0 m j) (let e : m ≤ raised 0 m j = grind (arith, nat_tests) in e)
        ∙ ap (λ l. shifted 0 m (g l)) (let e : raised 0 m j - m ≡ j = grind (arith, nat_tests) in e)) k

    at : (i : ℕ) → (i < m) ⊎ (m ≤ i) → filled (under m g) (under m f i) ≡ under m (λ i. filled g (f i)) i
    at i (inl h) = ap (filled (under m g)) (under_at m f i h) ∙ under_at m g i h ∙ sym (under_at m (λ j. filled g (f j)) i h)
    at i (inr h) =
        ap (filled (under m g)) (under_past m f i h) ∙ filled_shifted (under m g) 0 m (f (i - m)) ∙ ap (λ e. filled e (f (i - m))) inner
        ∙ sym (shifted_filled g 0 m (f (i - m))) ∙ sym (under_past m (λ j. filled g (f j)) i h)

mutual
  pub filled_filled : (f g : ℕ → Tree) (t : Tree) → filled g (filled f t) ≡ filled (λ i. filled g (f i)) t
  filled_filled f g (var i) = refl
  filled_filled f g (con p xs) = ap (con p) (filled_filled_args f g xs)

  pub filled_filled_args : (f g : ℕ → Tree) (xs : Args) → filled_args g (filled_args f xs) ≡ filled_args (λ i. filled g (f i)) xs
  filled_filled_args f g no_args = refl
  filled_filled_args f g (arg m t xs) =
      ap (λ s. arg m s (filled_args g (filled_args f xs))) (filled_filled (under m f) (under m g) t ∙ ap (λ e. filled e t) (both f g m))
      ∙ ap (arg m (filled (under m (λ i. filled g (f i))) t)) (filled_filled_args f g xs)

-- one term put in, as what is put in for all variables
placing : (a : ℕ) (u : Tree) (m : ℕ) → under m (put_var a u) ≡ put_var (a + m) (shifted 0 m u)
placing a u m = λ k i. at i (cases_lt i m) (cases_order (i - m) a) k
  where
    at : (i : ℕ) → (i < m) ⊎ (m ≤ i) → (i - m ≡ a) ⊎ ((i - m < a) ⊎ (a < i - m)) → under m (put_var a u) i ≡ put_var (a + m) (shifted 0 m u) i
    at i (inl h) c = under_at m (put_var a u) i h ∙ sym (put_below (a + m) (shifted 0 m u) i (omega arith))
    at i (inr h) (inl e) =
        under_past m (put_var a u) i h ∙ ap (shifted 0 m) (put_here a u (i - m) e) ∙ sym (put_here (a + m) (shifted 0 m u) i (omega arith))
    at i (inr h) (inr (inl e)) =
        under_past m (put_var a u) i h ∙ ap (shifted 0 m) (put_below a u (i - m) e)
        ∙ ap var (let k : raised 0 m (i - m) ≡ i = grind (arith, nat_tests) in k) ∙ sym (put_below (a + m) (shifted 0 m u) i (omega arith))
    at i (inr h) (inr (inr e)) =
        under_past m (put_var a u) i h ∙ ap (shifted 0 m) (put_above a u (i - m) e)
        ∙ ap var (let k : raised 0 m (i - m - 1) ≡ i - 1 = grind (arith, nat_tests) in k) ∙ sym (put_above (a + m) (shifted 0 m u) i (omega arith))

mutual
  pub put_is_filled : (a : ℕ) (u t : Tree) → put_in a u t ≡ filled (put_var a u) t
  put_is_filled a u (var i) = refl
  put_is_filled a u (con p xs) = ap (con p) (put_are_filled a u xs)

  pub put_are_filled : (a : ℕ) (u : Tree) (xs : Args) → put_in_args a u xs ≡ filled_args (put_var a u) xs
  put_are_filled a u no_args = refl
  put_are_filled a u (arg m t xs) =
      ap (λ s. arg m s (put_in_args a u xs)) (put_is_filled (a + m) (shifted 0 m u) t ∙ ap (λ f. filled f t) (sym (placing a u m)))
      ∙ ap (arg m (filled (under m (put_var a u)) t)) (put_are_filled a u xs)
