-- What is asked of lists of arguments is asked of each of them.
use Rattle.std.proofs.Common.{◌≡◌, ◌↔◌, ◌<◌, ◌+◌, ℕ, suc, List, [], ◌∷◌, length, get_or, drop, map, refl, ap}
use Rattle.binding_terms.proofs.Lists.{drop_from}
use Rattle.scheme_terms.specs.SchemeTree.{values}
use Rattle.scheme_terms.specs.View.{scheme, scheme_part, scheme_parts}
use Rattle.scheme_terms.specs.declared.scheme.Scheme.{Scheme}
use Rattle.scheme_terms.specs.declared.scheme.SArg.{SArg}
use Rattle.induction_order.specs.Renaming.{IsLike, AreLike, PartsLike, IsPartLike}

module _ (P : ℕ → ℕ → Type 0) (d b : ℕ) where
  pub like_lengths : (xs ys : List Scheme) → AreLike P d b (values (map scheme xs)) (values (map scheme ys)) → length xs ≡ length ys
  like_lengths [] [] h = refl
  like_lengths [] (y ∷ ys) h = absurd h
  like_lengths (x ∷ xs) [] h = absurd h
  like_lengths (x ∷ xs) (y ∷ ys) h = ap suc (like_lengths xs ys h.1)

  pub parts_lengths : (xs ys : List SArg) → PartsLike P d b (scheme_parts xs) (scheme_parts ys) → length xs ≡ length ys
  parts_lengths [] [] h = refl
  parts_lengths [] (y ∷ ys) h = absurd h
  parts_lengths (x ∷ xs) [] h = absurd h
  parts_lengths (x ∷ xs) (y ∷ ys) h = ap suc (parts_lengths xs ys h.1)

  -- the arguments from a place on are like, where those at the place are and those after it
  pub like_from : (xs ys : List Scheme) (i : ℕ) (x y : Scheme) → i < length xs → i < length ys → x ≡ get_or xs i x → y ≡ get_or ys i y
      → AreLike P d b (values (map scheme (drop i xs))) (values (map scheme (drop i ys)))
      ↔ (IsLike P d b (scheme x) (scheme y) × AreLike P d b (values (map scheme (drop (i + 1) xs))) (values (map scheme (drop (i + 1) ys))))
  like_from xs ys i x y h k p q = rw (drop_from xs i x h p, drop_from ys i y k q) (λ g. g, λ g. g)

  pub parts_from : (xs ys : List SArg) (i : ℕ) (x y : SArg) → i < length xs → i < length ys → x ≡ get_or xs i x → y ≡ get_or ys i y
      → PartsLike P d b (scheme_parts (drop i xs)) (scheme_parts (drop i ys))
      ↔ (IsPartLike P d b (scheme_part x) (scheme_part y) × PartsLike P d b (scheme_parts (drop (i + 1) xs)) (scheme_parts (drop (i + 1) ys)))
  parts_from xs ys i x y h k p q = rw (drop_from xs i x h p, drop_from ys i y k q) (λ g. g, λ g. g)
