-- Lists that are compared element by element.
use Rattle.std.proofs.Common.{◌≡◌, ◌↔◌, ◌<◌, ℕ, suc, List, [], ◌∷◌, ◌++◌, length, map, take, get_or, refl, ap, sym, ◌∙◌, arith}
use Rattle.std.specs.List.{AllZip}
use Rattle.std.proofs.lemmas.List.{get_or-map}
use Rattle.binding_terms.proofs.Lists.{cons_head, cons_tail}

-- where two lists of images are one, so are the images at a place
pub agree_at : {X Y Z : Type 0} (f : X → Z) (g : Y → Z) (xs : List X) (ys : List Y) (i : ℕ) (a : X) (b : Y) → i < length xs → i < length ys
    → map f xs ≡ map g ys → a ≡ get_or xs i a → b ≡ get_or ys i b → f a ≡ g b
agree_at f g xs ys i a b h k e at_a at_b =
    ap f at_a ∙ sym (get_or-map f xs i a (f a) h) ∙ ap (λ zs. get_or zs i (f a)) e ∙ get_or-map g ys i b (f a) k ∙ sym (ap g at_b)

-- lists that go together are of one length
pub zip_counts : {A B : Type 0} (R : A → B → Type 0) (xs : List A) (ys : List B) → AllZip R xs ys → length xs ≡ length ys
zip_counts R [] [] h = refl
zip_counts R (x ∷ xs) (y ∷ ys) h = ap suc (zip_counts R xs ys h.1)
zip_counts R [] (y ∷ ys) h = absurd h
zip_counts R (x ∷ xs) [] h = absurd h

-- the front of a list before more
pub front_taken : {A : Type 0} (vs ws : List A) → take (length vs) (vs ++ ws) ≡ vs
front_taken [] [] = refl
front_taken [] (w ∷ ws) = refl
front_taken (v ∷ vs) ws = ap (λ us. v ∷ us) (front_taken vs ws)

-- a list with one element more has a front that is another exactly where it is that one and an element
pub one_more : {A : Type 0} (us vs : List A) → length us ≡ suc (length vs) → (take (length vs) us ≡ vs) ↔ ((x : A) × (us ≡ vs ++ x ∷ []))
one_more us vs counted = (λ e. longer us vs counted e, λ h. ap (take (length vs)) h.1 ∙ front_taken vs (h.0 ∷ []))
  where
    longer : {A : Type 0} (us vs : List A) → length us ≡ suc (length vs) → take (length vs) us ≡ vs → (x : A) × (us ≡ vs ++ x ∷ [])
    longer [] vs counted e = absurd (let no : ⊥ = omega (arith, counted) in no)
    longer (u ∷ []) [] counted e = (u, refl)
    longer (u ∷ w ∷ us) [] counted e = absurd (let no : ⊥ = omega (arith, counted) in no)
    longer (u ∷ us) (v ∷ vs) counted e =
        let fewer : length us ≡ suc (length vs) = omega (arith, counted) in
        let rest = longer us vs fewer (cons_tail e) in
        (rest.0, (λ i. cons_head e i ∷ rest.1 i))
