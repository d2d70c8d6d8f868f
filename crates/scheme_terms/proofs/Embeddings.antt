-- A term and the scheme that it is.
use Rattle.std.proofs.Common.{List, [], ◌∷◌, ◌++◌, slice_get, ◌≡◌, ◌⊎◌, ℕ, ◌+◌, ◌-◌, ◌<◌, ◌≤◌, inl, inr, refl, ap, ◌∙◌, sym}
use Rattle.std.proofs.lemmas.Bool.{cases_lt}
use Rattle.binding_terms.specs.Tree as terms
use Rattle.binding_terms.specs.Tree.{Tree, var, con as node, Args, no_args, arg}
use Rattle.binding_terms.specs.Substitution as filling
use Rattle.binding_terms.specs.Signature.{Signature, Place, slots, binders}
use Rattle.binding_terms.specs.Scope.{bound, IsTerm, AreParts}
use Rattle.binding_terms.proofs.Filling as terms_under
use Rattle.scheme_terms.specs.SchemeTree.{SchemeTree, con, part, shifted, shifted_parts, under, filled, filled_parts}
use Rattle.scheme_terms.specs.Forms.{Names}
use Rattle.scheme_terms.specs.SchemeScope.{IsScheme, AreSchemeParts}
use Rattle.binding_terms.proofs.Lists.{match_some, match_from}
use Rattle.scheme_terms.specs.Embedding.{embedded, embedded_args}
use Rattle.scheme_terms.proofs.SchemeFilling.{under_at, under_past}

mutual
  pub embedded_injective : (s t : Tree) → embedded s ≡ embedded t → s ≡ t
  embedded_injective (var i) (var j) e = ap var (let same : i ≡ j = cc in same)
  embedded_injective (var i) (node q ys) e = cc
  embedded_injective (node p xs) (var j) e = cc
  embedded_injective (node p xs) (node q ys) e =
      let prod : p ≡ q = cc in
      let parts : xs ≡ ys = embedded_args_injective xs ys (let same : embedded_args xs ≡ embedded_args ys = cc in same) in
      λ i. node (prod i) (parts i)

  pub embedded_args_injective : (xs ys : Args) → embedded_args xs ≡ embedded_args ys → xs ≡ ys
  embedded_args_injective no_args no_args e = refl
  embedded_args_injective no_args (arg m u ys) e = cc
  embedded_args_injective (arg n t xs) no_args e = cc
  embedded_args_injective (arg n t xs) (arg m u ys) e =
      let binds : n ≡ m = cc in
      let body : t ≡ u = embedded_injective t u (let same : embedded t ≡ embedded u = cc in same) in
      let rest : xs ≡ ys = embedded_args_injective xs ys (let same : embedded_args xs ≡ embedded_args ys = cc in same) in
      λ i. arg (binds i) (body i) (rest i)

mutual
  pub embedded_shifted : (c n : ℕ) (t : Tree) → embedded (terms.shifted c n t) ≡ shifted c n (embedded t)
  embedded_shifted c n (var i) = refl
  embedded_shifted c n (node p xs) = ap (con p) (embedded_shifted_args c n xs)

  embedded_shifted_args : (c n : ℕ) (xs : Args) → embedded_args (terms.shifted_args c n xs) ≡ shifted_parts c n (embedded_args xs)
  embedded_shifted_args c n no_args = refl
  embedded_shifted_args c n (arg m t xs) =
      ap (λ s. part m s (embedded_args (terms.shifted_args c n xs))) (embedded_shifted (c + m) n t)
      ∙ ap (part m (shifted (c + m) n (embedded t))) (embedded_shifted_args c n xs)

embedded_under : (n : ℕ) (f : ℕ → Tree) → ◌≡◌ {A = ℕ → SchemeTree} (λ i. embedded (filling.under n f i)) (under n (λ i. embedded (f i)))
embedded_under n f = λ k i. at i (cases_lt i n) k
  where
    at : (i : ℕ) → (i < n) ⊎ (n ≤ i) → embedded (filling.under n f i) ≡ under n (λ j. embedded (f j)) i
    at i (inl h) = ap embedded (terms_under.under_at n f i h) ∙ sym (under_at n (λ j. embedded (f j)) i h)
    at i (inr h) =
        ap embedded (terms_under.under_past n f i h) ∙ embedded_shifted 0 n (f (i - n)) ∙ sym (under_past n (λ j. embedded (f j)) i h)

mutual
  pub embedded_filled : (f : ℕ → Tree) (t : Tree) → embedded (filling.filled f t) ≡ filled (λ i. embedded (f i)) (embedded t)
  embedded_filled f (var i) = refl
  embedded_filled f (node p xs) = ap (con p) (embedded_filled_args f xs)

  embedded_filled_args : (f : ℕ → Tree) (xs : Args) → embedded_args (filling.filled_args f xs) ≡ filled_parts (λ i. embedded (f i)) (embedded_args xs)
  embedded_filled_args f no_args = refl
  embedded_filled_args f (arg n t xs) =
      ap (λ s. part n s (embedded_args (filling.filled_args f xs)))
      (embedded_filled (filling.under n f) t ∙ ap (λ g. filled g (embedded t)) (embedded_under n f))
      ∙ ap (part n (filled (under n (λ i. embedded (f i))) (embedded t))) (embedded_filled_args f xs)

-- a term of a category is a scheme of it, in every scope of names
module _ (sig : Signature) (names : Names) where
  mutual
    pub embedded_is_scheme : (ls : List ℕ) (c : ℕ) (t : Tree) → IsTerm sig ls c t → IsScheme sig names ls c (embedded t)
    embedded_is_scheme ls c (var i) is = is
    embedded_is_scheme ls c (node p xs) is =
        let found = match_some (slice_get sig.prods p) _ is in
        match_from (slice_get sig.prods p) (λ prod. (prod.cat.0 ≡ c) × AreSchemeParts sig names ls (binders prod.items) (slots prod.items) (embedded_args xs))
        found.0 found.1 (found.2.0, embedded_are_parts ls (binders found.0.items) (slots found.0.items) xs found.2.1)

    embedded_are_parts : (ls bs : List ℕ) (ss : List Place) (xs : Args) → AreParts sig ls bs ss xs → AreSchemeParts sig names ls bs ss (embedded_args xs)
    embedded_are_parts ls bs [] no_args is = tt
    embedded_are_parts ls bs [] (arg n t xs) is = absurd is
    embedded_are_parts ls bs (at ∷ ss) no_args is = absurd is
    embedded_are_parts ls bs (at ∷ ss) (arg n t xs) is =
        (is.0, embedded_is_scheme (bound bs at.binds ++ ls) at.cat t is.1, embedded_are_parts ls bs ss xs is.2)

  mutual
    pub embedded_is_term : (ls : List ℕ) (c : ℕ) (t : Tree) → IsScheme sig names ls c (embedded t) → IsTerm sig ls c t
    embedded_is_term ls c (var i) is = is
    embedded_is_term ls c (node p xs) is =
        let found = match_some (slice_get sig.prods p) _ is in
        match_from (slice_get sig.prods p) (λ prod. (prod.cat.0 ≡ c) × AreParts sig ls (binders prod.items) (slots prod.items) xs)
        found.0 found.1 (found.2.0, embedded_are_args ls (binders found.0.items) (slots found.0.items) xs found.2.1)

    embedded_are_args : (ls bs : List ℕ) (ss : List Place) (xs : Args) → AreSchemeParts sig names ls bs ss (embedded_args xs) → AreParts sig ls bs ss xs
    embedded_are_args ls bs [] no_args is = tt
    embedded_are_args ls bs [] (arg n t xs) is = absurd is
    embedded_are_args ls bs (at ∷ ss) no_args is = absurd is
    embedded_are_args ls bs (at ∷ ss) (arg n t xs) is =
        (is.0, embedded_is_term (bound bs at.binds ++ ls) at.cat t is.1, embedded_are_args ls bs ss xs is.2)
