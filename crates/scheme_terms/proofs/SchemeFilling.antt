-- A scheme as a term: raising and putting in are the same there, so that the laws on schemes are read off those on terms.
use Rattle.std.proofs.Common.{◌≡◌, ◌⊎◌, ℕ, ◌+◌, ◌-◌, ◌<◌, ◌≤◌, inl, inr, refl, ap, ◌∙◌, sym, arith}
use Rattle.std.proofs.lemmas.Bool.{cases_lt}
use Rattle.std.proofs.lemmas.Bool.Decides.{nat_tests}
use Rattle.binding_terms.specs.Tree as terms
use Rattle.binding_terms.specs.Tree.{Tree, var, con as node, Args, no_args, arg}
use Rattle.binding_terms.specs.Substitution as filling
use Rattle.binding_terms.proofs.Filling as on_terms
use Rattle.scheme_terms.specs.SchemeTree.{SchemeTree, meta, known, local, con, Values, no_values, value, Parts, no_parts, part, shifted, shifted_values, shifted_parts, under, filled, filled_values, filled_parts}

-- a kind of node with its number and its arguments
abbrev noted : (kind number : ℕ) → Args → Tree
noted kind number xs = node kind (arg 0 (node number no_args) xs)

abbrev mutual
  pub coded : SchemeTree → Tree
  coded (meta m vs) = noted 0 m (coded_values vs)
  coded (known k) = noted 1 k no_args
  coded (local i) = var i
  coded (con p xs) = noted 2 p (coded_parts xs)

  pub coded_values : Values → Args
  coded_values no_values = no_args
  coded_values (value s vs) = arg 0 (coded s) (coded_values vs)

  pub coded_parts : Parts → Args
  coded_parts no_parts = no_args
  coded_parts (part n s xs) = arg n (coded s) (coded_parts xs)

mutual
  pub coded_injective : (s t : SchemeTree) → coded s ≡ coded t → s ≡ t
  coded_injective (meta m vs) (meta n ws) e =
      let first : m ≡ n = cc in
      let rest = coded_values_injective vs ws (let same : coded_values vs ≡ coded_values ws = cc in same) in
      λ i. meta (first i) (rest i)
  coded_injective (known k) (known l) e = ap known (let same : k ≡ l = cc in same)
  coded_injective (local i) (local j) e = ap local (let same : i ≡ j = cc in same)
  coded_injective (con p xs) (con q ys) e =
      let first : p ≡ q = cc in
      let rest = coded_parts_injective xs ys (let same : coded_parts xs ≡ coded_parts ys = cc in same) in
      λ i. con (first i) (rest i)
  coded_injective _ _ e = cc

  coded_values_injective : (vs ws : Values) → coded_values vs ≡ coded_values ws → vs ≡ ws
  coded_values_injective no_values no_values e = refl
  coded_values_injective (value s vs) (value t ws) e =
      let first = coded_injective s t (let same : coded s ≡ coded t = cc in same) in
      let rest = coded_values_injective vs ws (let same : coded_values vs ≡ coded_values ws = cc in same) in
      λ i. value (first i) (rest i)
  coded_values_injective _ _ e = cc

  coded_parts_injective : (xs ys : Parts) → coded_parts xs ≡ coded_parts ys → xs ≡ ys
  coded_parts_injective no_parts no_parts e = refl
  coded_parts_injective (part m s xs) (part n t ys) e =
      let binds : m ≡ n = cc in
      let first = coded_injective s t (let same : coded s ≡ coded t = cc in same) in
      let rest = coded_parts_injective xs ys (let same : coded_parts xs ≡ coded_parts ys = cc in same) in
      λ i. part (binds i) (first i) (rest i)
  coded_parts_injective _ _ e = cc

mutual
  pub coded_shifted : (c n : ℕ) (s : SchemeTree) → coded (shifted c n s) ≡ terms.shifted c n (coded s)
  coded_shifted c n (meta m vs) = ap (noted 0 m) (coded_values_shifted c n vs)
  coded_shifted c n (known k) = refl
  coded_shifted c n (local i) = refl
  coded_shifted c n (con p xs) = ap (noted 2 p) (coded_parts_shifted c n xs)

  coded_values_shifted : (c n : ℕ) (vs : Values) → coded_values (shifted_values c n vs) ≡ terms.shifted_args c n (coded_values vs)
  coded_values_shifted c n no_values = refl
  coded_values_shifted c n (value s vs) =
      let here = coded_shifted c n s ∙ ap (λ k. terms.shifted k n (coded s)) (let e : c ≡ c + 0 = omega arith in e) in
      λ i. arg 0 (here i) (coded_values_shifted c n vs i)

  coded_parts_shifted : (c n : ℕ) (xs : Parts) → coded_parts (shifted_parts c n xs) ≡ terms.shifted_args c n (coded_parts xs)
  coded_parts_shifted c n no_parts = refl
  coded_parts_shifted c n (part m s xs) = λ i. arg m (coded_shifted (c + m) n s i) (coded_parts_shifted c n xs i)

pub under_at : (n : ℕ) (f : ℕ → SchemeTree) (i : ℕ) → i < n → under n f i ≡ local i
under_at n f i h = grind (arith, nat_tests)

pub under_past : (n : ℕ) (f : ℕ → SchemeTree) (i : ℕ) → n ≤ i → under n f i ≡ shifted 0 n (f (i - n))
under_past n f i h = grind (arith, nat_tests)

coded_under : (n : ℕ) (f : ℕ → SchemeTree) (i : ℕ) → coded (under n f i) ≡ filling.under n (λ j. coded (f j)) i
coded_under n f i = at (cases_lt i n)
  where
    at : (i < n) ⊎ (n ≤ i) → coded (under n f i) ≡ filling.under n (λ j. coded (f j)) i
    at (inl h) = ap coded (under_at n f i h) ∙ sym (on_terms.under_at n (λ j. coded (f j)) i h)
    at (inr h) = ap coded (under_past n f i h) ∙ coded_shifted 0 n (f (i - n)) ∙ sym (on_terms.under_past n (λ j. coded (f j)) i h)

mutual
  pub coded_filled : (f : ℕ → SchemeTree) (s : SchemeTree) → coded (filled f s) ≡ filling.filled (λ i. coded (f i)) (coded s)
  coded_filled f (meta m vs) = ap (noted 0 m) (coded_values_filled f vs)
  coded_filled f (known k) = refl
  coded_filled f (local i) = refl
  coded_filled f (con p xs) = ap (noted 2 p) (coded_parts_filled f xs)

  coded_values_filled : (f : ℕ → SchemeTree) (vs : Values) → coded_values (filled_values f vs) ≡ filling.filled_args (λ i. coded (f i)) (coded_values vs)
  coded_values_filled f no_values = refl
  coded_values_filled f (value s vs) =
      let here = coded_filled f s ∙ ap (λ g. filling.filled g (coded s)) (sym (on_terms.under_none (λ i. coded (f i)))) in
      λ i. arg 0 (here i) (coded_values_filled f vs i)

  coded_parts_filled : (f : ℕ → SchemeTree) (xs : Parts) → coded_parts (filled_parts f xs) ≡ filling.filled_args (λ i. coded (f i)) (coded_parts xs)
  coded_parts_filled f no_parts = refl
  coded_parts_filled f (part n s xs) =
      let here = coded_filled (under n f) s ∙ ap (λ g. filling.filled g (coded s)) (λ k i. coded_under n f i k) in
      λ i. arg n (here i) (coded_parts_filled f xs i)

-- binders under binders
pub under_under : (m n : ℕ) (f : ℕ → SchemeTree) → under n (under m f) ≡ under (m + n) f
under_under m n f = λ k i. coded_injective (under n (under m f) i) (under (m + n) f i) (at i) k
  where
    at : (i : ℕ) → coded (under n (under m f) i) ≡ coded (under (m + n) f i)
    at i =
        coded_under n (under m f) i ∙ ap (λ g. filling.under n g i) (λ k j. coded_under m f j k)
        ∙ ap (λ g. g i) (on_terms.under_under m n (λ j. coded (f j))) ∙ sym (coded_under (m + n) f i)

pub under_none : (f : ℕ → SchemeTree) → under 0 f ≡ f
under_none f = λ k i. coded_injective (under 0 f i) (f i) (coded_under 0 f i ∙ ap (λ g. g i) (on_terms.under_none (λ j. coded (f j)))) k
