-- Numbers of variables, and scopes as they grow.
use Rattle.std.proofs.Common.{◌≡◌, ℕ, zero, suc, ◌+◌, ◌-◌, ◌<◌, max, ◌==◌, if◌then◌else◌, Bool, true, false, List, [], ◌∷◌, ◌++◌, map, reverse, length, take, slice_index, slice_get, option_map, refl, ap, ◌∙◌, arith, append_assoc}
use Rattle.std.proofs.lemmas.List.{map-append, reverse-append, take_more, get_or-reverse, length-reverse}
use Rattle.form_printing.specs.declared.words.Variable as words
use Rattle.form_printing.specs.View.{variable, variables}
use Rattle.rule_schemes.specs.Printing.{Variable, greatest, next_variable, numbered, binder_at}

pub greatest_append : (c : ℕ) (xs ys : List Variable) → greatest c (xs ++ ys) ≡ max (greatest c xs) (greatest c ys)
greatest_append c [] ys = omega arith
greatest_append c (x ∷ xs) ys =
    rw (greatest_append c xs ys) (max_step (x.cat == c) x.number (greatest c xs) (greatest c ys))
  where
    max_step : (b : Bool) (n m k : ℕ) → (if b then max n (max m k) else max m k) ≡ max (if b then max n m else m) k
    max_step true n m k = omega arith
    max_step false n m k = refl

pub greatest_reverse : (c : ℕ) (xs : List Variable) → greatest c (reverse xs) ≡ greatest c xs
greatest_reverse c [] = refl
greatest_reverse c (x ∷ xs) =
    ap (greatest c) (reverse-append (x ∷ []) xs)
    ∙ (greatest_append c (reverse xs) (x ∷ []) ∙ (rw (greatest_reverse c xs) (max_last (x.cat == c) x.number (greatest c xs))))
  where
    max_last : (b : Bool) (n m : ℕ) → max m (if b then max n 0 else 0) ≡ (if b then max n m else m)
    max_last true n m = omega arith
    max_last false n m = omega arith

-- the greatest number among binders and the scope outside them
pub greatest_outside : (c : ℕ) (xs vs : List Variable) → greatest c (reverse xs ++ vs) ≡ max (greatest c vs) (greatest c xs)
greatest_outside c xs vs = omega (arith, greatest_append c (reverse xs) vs, greatest_reverse c xs)

-- one binder more
pub numbered_push : (xs vs : List Variable) (c : ℕ) (cs : List ℕ) (v : Variable) → v ≡ next_variable c (reverse xs ++ vs)
    → (xs ++ v ∷ []) ++ numbered (reverse (xs ++ v ∷ []) ++ vs) cs ≡ xs ++ numbered (reverse xs ++ vs) (c ∷ cs)
numbered_push xs vs c cs v e =
    append_assoc xs (v ∷ []) _
    ∙ ap (λ zs. xs ++ (v ∷ numbered (zs ++ vs) cs)) (reverse-append xs (v ∷ []))
    ∙ (λ k. xs ++ (e k ∷ numbered (e k ∷ (reverse xs ++ vs)) cs))

-- one variable more of a slot
pub bound_more : (bs : List Variable) (binds : List ℕ) (i : ℕ) → i < length binds
    → map (binder_at bs) (take (i + 1) (reverse binds))
    ≡ map (binder_at bs) (take i (reverse binds)) ++ binder_at bs (slice_index binds (length binds - 1 - i)) ∷ []
bound_more bs binds i h =
    ap (map (binder_at bs)) (take_more (reverse binds) i 0 (omega (arith, length-reverse binds)))
    ∙ (map-append (binder_at bs) (take i (reverse binds)) _
    ∙ ap (λ n. map (binder_at bs) (take i (reverse binds)) ++ binder_at bs n ∷ []) (get_or-reverse binds i 0 h))

-- a variable by its index
pub get_variables : (vs : List words.Variable) (i : ℕ) → slice_get (variables vs) i ≡ option_map variable (slice_get vs i)
get_variables [] i = refl
get_variables (v ∷ vs) zero = refl
get_variables (v ∷ vs) (suc i) = get_variables vs i
