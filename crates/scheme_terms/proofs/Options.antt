-- Facts about the value of an option.
use Rattle.std.proofs.Common.{◌≡◌, ℕ, zero, suc, List, [], ◌∷◌, Some, slice_get, refl, subst}
use Rattle.std.specs.List.{AllZip}

some_same : {A : Type 0} (a b : A) → Some a ≡ Some b → a ≡ b
some_same a b e = cc

-- what holds place by place holds at a place
pub zip_at : {A B : Type 0} (R : A → B → Type 0) (xs : List A) (ys : List B) → AllZip R xs ys → (k : ℕ) (a : A) → slice_get xs k ≡ Some a →
    (b : B) × (slice_get ys k ≡ Some b) × R a b
zip_at R [] ys h k a e = absurd (let no : ⊥ = cc in no)
zip_at R (x ∷ xs) [] h k a e = absurd h
zip_at R (x ∷ xs) (y ∷ ys) h zero a e = (y, refl, subst (λ z. R z y) (some_same x a e) h.0)
zip_at R (x ∷ xs) (y ∷ ys) h (suc k) a e = zip_at R xs ys h.1 k a e
