-- Terms put in for all variables, under more and more binders.
use Rattle.std.proofs.Common.{◌≡◌, ◌⊎◌, ℕ, ◌+◌, ◌-◌, ◌<◌, ◌≤◌, inl, inr, refl, ap, ◌∙◌, sym, arith}
use Rattle.std.proofs.lemmas.Bool.{cases_lt}
use Rattle.std.proofs.lemmas.Bool.Decides.{nat_tests}
use Rattle.binding_terms.specs.Tree.{Tree, var, con, Args, no_args, arg, raised, shifted, shifted_args}
use Rattle.binding_terms.specs.Substitution.{under}

raised_none : (cut i : ℕ) → raised cut 0 i ≡ i
raised_none cut i = grind (arith, nat_tests)

raised_twice : (cut m n i : ℕ) → raised cut n (raised cut m i) ≡ raised cut (m + n) i
raised_twice cut m n i = grind (arith, nat_tests)

mutual
  pub shifted_none : (cut : ℕ) (t : Tree) → shifted cut 0 t ≡ t
  shifted_none cut (var i) = ap var (raised_none cut i)
  shifted_none cut (con p xs) = ap (con p) (shifted_none_args cut xs)

  pub shifted_none_args : (cut : ℕ) (xs : Args) → shifted_args cut 0 xs ≡ xs
  shifted_none_args cut no_args = refl
  shifted_none_args cut (arg n t xs) =
      ap (λ s. arg n s (shifted_args cut 0 xs)) (shifted_none (cut + n) t) ∙ ap (arg n t) (shifted_none_args cut xs)

mutual
  pub shifted_twice : (cut m n : ℕ) (t : Tree) → shifted cut n (shifted cut m t) ≡ shifted cut (m + n) t
  shifted_twice cut m n (var i) = ap var (raised_twice cut m n i)
  shifted_twice cut m n (con p xs) = ap (con p) (shifted_twice_args cut m n xs)

  pub shifted_twice_args : (cut m n : ℕ) (xs : Args) → shifted_args cut n (shifted_args cut m xs) ≡ shifted_args cut (m + n) xs
  shifted_twice_args cut m n no_args = refl
  shifted_twice_args cut m n (arg l t xs) =
      ap (λ s. arg l s (shifted_args cut n (shifted_args cut m xs))) (shifted_twice (cut + l) m n t)
      ∙ ap (arg l (shifted (cut + l) (m + n) t)) (shifted_twice_args cut m n xs)

pub under_at : (n : ℕ) (f : ℕ → Tree) (i : ℕ) → i < n → under n f i ≡ var i
under_at n f i h = grind (arith, nat_tests)

pub under_past : (n : ℕ) (f : ℕ → Tree) (i : ℕ) → n ≤ i → under n f i ≡ shifted 0 n (f (i - n))
under_past n f i h = grind (arith, nat_tests)

under_under_at : (m n : ℕ) (f : ℕ → Tree) (i : ℕ) → (i < n) ⊎ (n ≤ i) → (i < m + n) ⊎ (m + n ≤ i) → under n (under m f) i ≡ under (m + n) f i
under_under_at m n f i (inl h) b = under_at n (under m f) i h ∙ sym (under_at (m + n) f i (omega arith))
under_under_at m n f i (inr h) (inl k) =
    under_past n (under m f) i h ∙ ap (shifted 0 n) (under_at m f (i - n) (omega arith))
    ∙ ap var (let e : raised 0 n (i - n) ≡ i = grind (arith, nat_tests) in e) ∙ sym (under_at (m + n) f i k)
under_under_at m n f i (inr h) (inr k) =
    under_past n (under m f) i h ∙ ap (shifted 0 n) (under_past m f (i - n) (omega arith)) ∙ shifted_twice 0 m n (f (i - n - m))
    ∙ ap (λ j. shifted 0 (m + n) (f j)) (let e : i - n - m ≡ i - (m + n) = omega arith in e) ∙ sym (under_past (m + n) f i k)

-- binders under binders
pub under_under : (m n : ℕ) (f : ℕ → Tree) → under n (under m f) ≡ under (m + n) f
under_under m n f = λ k i. under_under_at m n f i (cases_lt i n) (cases_lt i (m + n)) k

pub under_none : (f : ℕ → Tree) → under 0 f ≡ f
under_none f = λ k i. (under_past 0 f i (omega arith) ∙ shifted_none 0 (f (i - 0)) ∙ ap f (let e : i - 0 ≡ i = omega arith in e)) k
