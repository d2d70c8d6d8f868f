-- Raising and putting in, one after the other.
use Rattle.std.proofs.Common.{◌≡◌, ◌⊎◌, ℕ, ◌+◌, ◌-◌, ◌<◌, ◌≤◌, inl, inr, refl, ap, ◌∙◌, sym, arith}
use Rattle.std.proofs.lemmas.Bool.{cases_lt, cases_order}
use Rattle.std.proofs.lemmas.Bool.Decides.{nat_tests}
use Rattle.binding_terms.specs.Tree.{Tree, var, con, Args, no_args, arg, raised, shifted, shifted_args, put_var, put_in, put_in_args}

raised_below : (cut by i : ℕ) → i < cut → raised cut by i ≡ i
raised_below cut by i h = grind (arith, nat_tests)

raised_above : (cut by i : ℕ) → cut ≤ i → raised cut by i ≡ i + by
raised_above cut by i h = grind (arith, nat_tests)

pub put_below : (at : ℕ) (u : Tree) (i : ℕ) → i < at → put_var at u i ≡ var i
put_below at u i h = grind (arith, nat_tests)

pub put_here : (at : ℕ) (u : Tree) (i : ℕ) → i ≡ at → put_var at u i ≡ u
put_here at u i h = grind (arith, nat_tests)

pub put_above : (at : ℕ) (u : Tree) (i : ℕ) → at < i → put_var at u i ≡ var (i - 1)
put_above at u i h = grind (arith, nat_tests)

raised_raised : (b c e m n i : ℕ) → b ≤ c → e ≡ c + m → raised e n (raised b m i) ≡ raised b m (raised c n i)
raised_raised b c e m n i h k = grind (arith, nat_tests)

-- two shifts in either order
mutual
  pub shifted_shifted : (b c e m n : ℕ) → b ≤ c → e ≡ c + m → (t : Tree) → shifted e n (shifted b m t) ≡ shifted b m (shifted c n t)
  shifted_shifted b c e m n h k (var i) = ap var (raised_raised b c e m n i h k)
  shifted_shifted b c e m n h k (con p xs) = ap (con p) (shifted_shifted_args b c e m n h k xs)

  pub shifted_shifted_args : (b c e m n : ℕ) → b ≤ c → e ≡ c + m → (xs : Args) →
      shifted_args e n (shifted_args b m xs) ≡ shifted_args b m (shifted_args c n xs)
  shifted_shifted_args b c e m n h k no_args = refl
  shifted_shifted_args b c e m n h k (arg l t xs) =
      ap (λ s. arg l s (shifted_args e n (shifted_args b m xs))) (shifted_shifted (b + l) (c + l) (e + l) m n (omega arith) (omega arith) t)
      ∙ ap (arg l (shifted (b + l) m (shifted (c + l) n t))) (shifted_shifted_args b c e m n h k xs)

put_var_shifted : (a : ℕ) (u : Tree) (i : ℕ) → (i < a) ⊎ (a ≤ i) → put_in a u (var (raised a 1 i)) ≡ var i
put_var_shifted a u i (inl h) = rw (raised_below a 1 i h) (put_below a u i h)
put_var_shifted a u i (inr h) =
    rw (raised_above a 1 i h) (put_above a u (i + 1) (omega arith) ∙ ap var (let e : i + 1 - 1 ≡ i = omega arith in e))

-- a variable that is raised away from the place does not meet what is put in there
mutual
  pub put_shifted : (a : ℕ) (u t : Tree) → put_in a u (shifted a 1 t) ≡ t
  put_shifted a u (var i) = put_var_shifted a u i (cases_lt i a)
  put_shifted a u (con p xs) = ap (con p) (put_shifted_args a u xs)

  pub put_shifted_args : (a : ℕ) (u : Tree) (xs : Args) → put_in_args a u (shifted_args a 1 xs) ≡ xs
  put_shifted_args a u no_args = refl
  put_shifted_args a u (arg n t xs) =
      ap (λ s. arg n s (put_in_args a u (shifted_args a 1 xs))) (put_shifted (a + n) (shifted 0 n u) t)
      ∙ ap (arg n t) (put_shifted_args a u xs)

-- raising after putting in, at a variable
shifted_put_at : (c a e n : ℕ) → c ≤ a → e ≡ a + n → (v : Tree) (i : ℕ) → (i ≡ a) ⊎ ((i < a) ⊎ (a < i)) →
    shifted c n (put_var a v i) ≡ put_var e (shifted c n v) (raised c n i)
shifted_put_at c a e n h k v i (inr (inl p)) =
    let low : raised c n i < e = grind (arith, nat_tests) in
    rw (put_below a v i p) (sym (put_below e (shifted c n v) (raised c n i) low))
shifted_put_at c a e n h k v i (inl p) =
    let here : raised c n i ≡ e = grind (arith, nat_tests) in
    rw (put_here a v i p) (sym (put_here e (shifted c n v) (raised c n i) here))
shifted_put_at c a e n h k v i (inr (inr p)) =
    let high : e < raised c n i = grind (arith, nat_tests) in
    let index : raised c n (i - 1) ≡ raised c n i - 1 = grind (arith, nat_tests) in
    rw (put_above a v i p) (ap var index ∙ sym (put_above e (shifted c n v) (raised c n i) high))

-- raising after putting in, at or below the place
mutual
  pub shifted_put : (c a e n : ℕ) → c ≤ a → e ≡ a + n → (v u : Tree) → shifted c n (put_in a v u) ≡ put_in e (shifted c n v) (shifted c n u)
  shifted_put c a e n h k v (var i) = shifted_put_at c a e n h k v i (cases_order i a)
  shifted_put c a e n h k v (con p xs) = ap (con p) (shifted_put_args c a e n h k v xs)

  pub shifted_put_args : (c a e n : ℕ) → c ≤ a → e ≡ a + n → (v : Tree) (xs : Args) →
      shifted_args c n (put_in_args a v xs) ≡ put_in_args e (shifted c n v) (shifted_args c n xs)
  shifted_put_args c a e n h k v no_args = refl
  shifted_put_args c a e n h k v (arg m t xs) =
      ap (λ s. arg m s (shifted_args c n (put_in_args a v xs)))
      (shifted_put (c + m) (a + m) (e + m) n (omega arith) (omega arith) (shifted 0 m v) t
      ∙ ap (λ w. put_in (e + m) w (shifted (c + m) n t)) (shifted_shifted 0 c (c + m) m n (omega arith) refl v))
      ∙ ap (arg m (put_in (e + m) (shifted 0 m (shifted c n v)) (shifted (c + m) n t))) (shifted_put_args c a e n h k v xs)

-- one put after another, at a variable
put_put_at : (j a e : ℕ) → j ≤ a → e ≡ a + 1 → (v u : Tree) (i : ℕ) → (i ≡ j) ⊎ ((i < j) ⊎ (j < i)) → (i ≡ e) ⊎ ((i < e) ⊎ (e < i)) →
    put_in a v (put_var j u i) ≡ put_in j (put_in a v u) (put_var e (shifted j 1 v) i)
put_put_at j a e h k v u i (inr (inl p)) q =
    let low : i < a = omega arith in
    let under : i < e = omega arith in
    rw (put_below j u i p, put_below e (shifted j 1 v) i under) (put_below a v i low ∙ sym (put_below j (put_in a v u) i p))
put_put_at j a e h k v u i (inl p) q =
    let under : i < e = omega arith in
    rw (put_here j u i p, put_below e (shifted j 1 v) i under) (sym (put_here j (put_in a v u) i p))
put_put_at j a e h k v u i (inr (inr p)) (inr (inl q)) =
    let low : i - 1 < a = omega arith in
    rw (put_above j u i p, put_below e (shifted j 1 v) i q) (put_below a v (i - 1) low ∙ sym (put_above j (put_in a v u) i p))
put_put_at j a e h k v u i (inr (inr p)) (inl q) =
    let here : i - 1 ≡ a = omega arith in
    rw (put_above j u i p, put_here e (shifted j 1 v) i q) (put_here a v (i - 1) here ∙ sym (put_shifted j (put_in a v u) v))
put_put_at j a e h k v u i (inr (inr p)) (inr (inr q)) =
    let high : a < i - 1 = omega arith in
    let above : j < i - 1 = omega arith in
    rw (put_above j u i p, put_above e (shifted j 1 v) i q)
    (put_above a v (i - 1) high ∙ sym (put_above j (put_in a v u) (i - 1) above))

-- one put after another
mutual
  pub put_put : (j a e : ℕ) → j ≤ a → e ≡ a + 1 → (v u t : Tree) →
      put_in a v (put_in j u t) ≡ put_in j (put_in a v u) (put_in e (shifted j 1 v) t)
  put_put j a e h k v u (var i) = put_put_at j a e h k v u i (cases_order i j) (cases_order i e)
  put_put j a e h k v u (con p xs) = ap (con p) (put_put_args j a e h k v u xs)

  pub put_put_args : (j a e : ℕ) → j ≤ a → e ≡ a + 1 → (v u : Tree) (xs : Args) →
      put_in_args a v (put_in_args j u xs) ≡ put_in_args j (put_in a v u) (put_in_args e (shifted j 1 v) xs)
  put_put_args j a e h k v u no_args = refl
  put_put_args j a e h k v u (arg m t xs) =
      let under = put_put (j + m) (a + m) (e + m) (omega arith) (omega arith) (shifted 0 m v) (shifted 0 m u) t in
      let low : put_in (a + m) (shifted 0 m v) (shifted 0 m u) ≡ shifted 0 m (put_in a v u) = sym (shifted_put 0 a (a + m) m (omega arith) refl v u) in
      let high : shifted (j + m) 1 (shifted 0 m v) ≡ shifted 0 m (shifted j 1 v) = shifted_shifted 0 j (j + m) m 1 (omega arith) refl v in
      ap (λ s. arg m s (put_in_args a v (put_in_args j u xs)))
      (under ∙ ap (λ w. put_in (j + m) w (put_in (e + m) (shifted (j + m) 1 (shifted 0 m v)) t)) low
      ∙ ap (λ w. put_in (j + m) (shifted 0 m (put_in a v u)) (put_in (e + m) w t)) high)
      ∙ ap (arg m (put_in (j + m) (shifted 0 m (put_in a v u)) (put_in (e + m) (shifted 0 m (shifted j 1 v)) t))) (put_put_args j a e h k v u xs)
