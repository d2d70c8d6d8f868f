-- Parts of lists, as they are seen.
use Rattle.std.proofs.Common.{◌≡◌, ◌≤◌, ◌<◌, ℕ, zero, suc, List, [], ◌∷◌, length, take, drop, map, refl, ap, subst, arith}

pub map_drop : {X A : Type 0} (f : X → A) (i : ℕ) (xs : List X) → map f (drop i xs) ≡ drop i (map f xs)
map_drop f zero xs = refl
map_drop f (suc i) [] = refl
map_drop f (suc i) (x ∷ xs) = map_drop f i xs

taken : {A : Type 0} (n : ℕ) (xs : List A) → length (take n xs) ≤ length xs
taken zero xs = omega arith
taken (suc n) [] = omega arith
taken (suc n) (x ∷ xs) = let h = taken n xs in omega (arith, h)

pub too_short : {A : Type 0} (xs ys : List A) → length xs < length ys → take (length ys) xs ≡ ys → length ys ≤ length xs
too_short xs ys h e = subst (λ n. n ≤ length xs) (ap length e) (taken (length ys) xs)
