-- The laws of putting schemes in for all locals at once.
use Rattle.std.proofs.Common.{◌≡◌, ◌⊎◌, ℕ, ◌+◌, ◌-◌, ◌<◌, ◌≤◌, inl, inr, refl, ap, ◌∙◌, sym, subst, arith}
use Rattle.std.proofs.lemmas.Bool.{cases_lt}
use Rattle.std.proofs.lemmas.Bool.Decides.{nat_tests}
use Rattle.binding_terms.specs.Tree as terms
use Rattle.binding_terms.specs.Tree.{raised}
use Rattle.binding_terms.specs.Substitution as filling
use Rattle.binding_terms.proofs.Substitutions as on_terms
use Rattle.scheme_terms.specs.SchemeTree.{SchemeTree, meta, known, local, con, Values, no_values, value, Parts, no_parts, part, shifted, under, filled, filled_values, filled_parts, IsFreeOf, AreFreeOf, PartsFreeOf}
use Rattle.scheme_terms.specs.Substituting.{LocalsBelow, ValuesBelow, PartsBelow}
use Rattle.scheme_terms.proofs.SchemeFilling.{coded, coded_injective, coded_shifted, coded_filled, under_at, under_past}

-- raising after putting in
pub shifted_filled : (f : ℕ → SchemeTree) (c n : ℕ) (s : SchemeTree) → shifted c n (filled f s) ≡ filled (λ i. shifted c n (f i)) s
shifted_filled f c n s =
    coded_injective (shifted c n (filled f s)) (filled (λ i. shifted c n (f i)) s)
    (coded_shifted c n (filled f s) ∙ ap (terms.shifted c n) (coded_filled f s) ∙ on_terms.shifted_filled (λ i. coded (f i)) c n (coded s)
    ∙ ap (λ g. filling.filled g (coded s)) (λ k i. coded_shifted_back i k) ∙ sym (coded_filled (λ i. shifted c n (f i)) s))
  where
    coded_shifted_back : (i : ℕ) → terms.shifted c n (coded (f i)) ≡ coded (shifted c n (f i))
    coded_shifted_back i = sym (coded_shifted c n (f i))

-- putting in twice
pub filled_filled : (f g : ℕ → SchemeTree) (s : SchemeTree) → filled g (filled f s) ≡ filled (λ i. filled g (f i)) s
filled_filled f g s =
    coded_injective (filled g (filled f s)) (filled (λ i. filled g (f i)) s)
    (coded_filled g (filled f s) ∙ ap (filling.filled (λ i. coded (g i))) (coded_filled f s) ∙ on_terms.filled_filled (λ i. coded (f i)) (λ i. coded (g i)) (coded s)
    ∙ ap (λ h. filling.filled h (coded s)) (λ k i. coded_filled_back i k) ∙ sym (coded_filled (λ i. filled g (f i)) s))
  where
    coded_filled_back : (i : ℕ) → filling.filled (λ j. coded (g j)) (coded (f i)) ≡ coded (filled g (f i))
    coded_filled_back i = sym (coded_filled g (f i))

-- what is put in for the free locals alone counts
agree_under : (n k : ℕ) (f g : ℕ → SchemeTree) → ((i : ℕ) → i < k → f i ≡ g i) → (i : ℕ) → i < k + n → (i < n) ⊎ (n ≤ i) → under n f i ≡ under n g i
agree_under n k f g h i below (inl near) = under_at n f i near ∙ sym (under_at n g i near)
agree_under n k f g h i below (inr far) = under_past n f i far ∙ ap (shifted 0 n) (h (i - n) (omega arith)) ∙ sym (under_past n g i far)

mutual
  pub filled_agree : (k : ℕ) (f g : ℕ → SchemeTree) → ((i : ℕ) → i < k → f i ≡ g i) → (s : SchemeTree) → LocalsBelow k s → filled f s ≡ filled g s
  filled_agree k f g h (meta m vs) below = ap (meta m) (filled_agree_values k f g h vs below)
  filled_agree k f g h (known l) below = refl
  filled_agree k f g h (local i) below = h i below
  filled_agree k f g h (con p xs) below = ap (con p) (filled_agree_parts k f g h xs below)

  filled_agree_values : (k : ℕ) (f g : ℕ → SchemeTree) → ((i : ℕ) → i < k → f i ≡ g i) → (vs : Values) → ValuesBelow k vs → filled_values f vs ≡ filled_values g vs
  filled_agree_values k f g h no_values below = refl
  filled_agree_values k f g h (value s vs) below =
      ap (λ t. value t (filled_values f vs)) (filled_agree k f g h s below.0) ∙ ap (value (filled g s)) (filled_agree_values k f g h vs below.1)

  filled_agree_parts : (k : ℕ) (f g : ℕ → SchemeTree) → ((i : ℕ) → i < k → f i ≡ g i) → (xs : Parts) → PartsBelow k xs → filled_parts f xs ≡ filled_parts g xs
  filled_agree_parts k f g h no_parts below = refl
  filled_agree_parts k f g h (part n s xs) below =
      ap (λ t. part n t (filled_parts f xs)) (filled_agree (k + n) (under n f) (under n g) (λ i low. agree_under n k f g h i low (cases_lt i n)) s below.0)
      ∙ ap (part n (filled (under n g) s)) (filled_agree_parts k f g h xs below.1)

-- what is put in stands for each local that occurs
under_stays : (n : ℕ) (f : ℕ → SchemeTree) (s : SchemeTree) → ((i : ℕ) → (f i ≡ local i) ⊎ IsFreeOf (i + n) s) → (i : ℕ) → (i < n) ⊎ (n ≤ i) → (under n f i ≡ local i) ⊎ IsFreeOf i s
under_stays n f s h i (inl near) = inl (under_at n f i near)
under_stays n f s h i (inr far) = elim (h (i - n)) [
  | inl e ↦ inl (under_past n f i far ∙ ap (shifted 0 n) e ∙ ap local (let same : raised 0 n (i - n) ≡ i = grind (arith, nat_tests) in same))
  | inr free ↦ inr (subst (λ k. IsFreeOf k s) (let same : i - n + n ≡ i = omega arith in same) free)
]

mutual
  pub filled_stays : (f : ℕ → SchemeTree) (s : SchemeTree) → ((i : ℕ) → (f i ≡ local i) ⊎ IsFreeOf i s) → filled f s ≡ s
  filled_stays f (meta m vs) h = ap (meta m) (filled_stays_values f vs h)
  filled_stays f (known k) h = refl
  filled_stays f (local i) h = elim (h i) [ inl e ↦ e | inr free ↦ absurd (free refl) ]
  filled_stays f (con p xs) h = ap (con p) (filled_stays_parts f xs h)

  filled_stays_values : (f : ℕ → SchemeTree) (vs : Values) → ((i : ℕ) → (f i ≡ local i) ⊎ AreFreeOf i vs) → filled_values f vs ≡ vs
  filled_stays_values f no_values h = refl
  filled_stays_values f (value s vs) h =
      ap (λ t. value t (filled_values f vs)) (filled_stays f s (λ i. elim (h i) [ inl e ↦ inl e | inr free ↦ inr free.0 ]))
      ∙ ap (value s) (filled_stays_values f vs (λ i. elim (h i) [ inl e ↦ inl e | inr free ↦ inr free.1 ]))

  filled_stays_parts : (f : ℕ → SchemeTree) (xs : Parts) → ((i : ℕ) → (f i ≡ local i) ⊎ PartsFreeOf i xs) → filled_parts f xs ≡ xs
  filled_stays_parts f no_parts h = refl
  filled_stays_parts f (part n s xs) h =
      ap (λ t. part n t (filled_parts f xs))
      (filled_stays (under n f) s (λ i. under_stays n f s (λ j. elim (h j) [ inl e ↦ inl e | inr free ↦ inr free.0 ]) i (cases_lt i n)))
      ∙ ap (part n s) (filled_stays_parts f xs (λ i. elim (h i) [ inl e ↦ inl e | inr free ↦ inr free.1 ]))

-- the locals put in for themselves
pub filled_local : (s : SchemeTree) → filled local s ≡ s
filled_local s = filled_stays local s (λ i. inl refl)
