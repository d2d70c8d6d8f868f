-- Two lists that are looked through place by place.
use Rattle.std.proofs.Common.{◌≡◌, ℕ, ◌+◌, ◌<◌, List, [], ◌∷◌, ◌++◌, length, map, take, get_or, Some, sym, ap, ◌∙◌, subst, arith}
use Rattle.std.proofs.lemmas.List.{get_or-map, length-map, length-take-le, map_more}
use Rattle.binding_terms.specs.Numbered.{AllNumbered}
use Rattle.binding_terms.proofs.Lists.{numbered_at, numbered_push, get_mapped_or}

-- views that are the same are the same at each place
pub mapped_at : {A B C : Type 0} (f : A → C) (g : B → C) (xs : List A) (ys : List B) (i : ℕ) (x : A) (y : B) → i < length xs → i < length ys →
    map f xs ≡ map g ys → x ≡ get_or xs i x → y ≡ get_or ys i y → f x ≡ g y
mapped_at f g xs ys i x y below within same at_x at_y =
    ap f at_x ∙ sym (get_or-map f xs i x (g y) below) ∙ ap (λ zs. get_or zs i (g y)) same ∙ get_or-map g ys i y (g y) within ∙ ap g (sym at_y)

module _ {X A : Type 0} (f : X → A) (P : ℕ → A → Type 0) (xs : List X) (i : ℕ) (x : X) (below : i < length xs) (at : x ≡ get_or xs i x) where
  -- one more of a list is so with its number
  pub numbered_more : AllNumbered P 0 (map f (take i xs)) → P i (f x) → AllNumbered P 0 (map f (take (i + 1) xs))
  numbered_more all here =
      let long : 0 + length (map f (take i xs)) ≡ i = omega (arith, length-map (take i xs) f, length-take-le i xs (omega (arith, below))) in
      subst (AllNumbered P 0) (sym (map_more f xs i x below ∙ ap (λ y. map f (take i xs) ++ f y ∷ []) (sym at)))
      (numbered_push P 0 (map f (take i xs)) (f x) all (subst (λ k. P k (f x)) (sym long) here))

  -- where all are so with their numbers, that at a place is
  pub numbered_there : AllNumbered P 0 (map f xs) → P i (f x)
  numbered_there all =
      subst (λ k. P k (f x)) (let e : 0 + i ≡ i = omega arith in e)
      (numbered_at P 0 (map f xs) i (f x) all (get_mapped_or f xs i x below ∙ ap (λ y. Some (f y)) (sym at)))
