-- A stack whose top is its last item.
use Rattle.std.proofs.Common.{◌≡◌, ℕ, ◌+◌, Bool, true, false, cond, List, [], ◌∷◌, ◌++◌, reverse, refl, ◌∙◌, ap, arith}
use Rattle.std.proofs.lemmas.List.{reverse-append}
use Rattle.outline_reader.specs.declared.machine.Awaited.{Awaited}
use Rattle.outline_reader.specs.Derives.{level, is_level}

pub reverse_push : {A : Type 0} → (xs : List A) (x : A) → reverse (xs ++ x ∷ []) ≡ x ∷ reverse xs
reverse_push xs x = reverse-append xs (x ∷ [])

add_level : (b : Bool) (m n : ℕ) → cond b (m + n + 1) (m + n) ≡ cond b (m + 1) m + n
add_level true m n = omega arith
add_level false m n = refl

pub level_append : (xs ys : List Awaited) → level (xs ++ ys) ≡ level xs + level ys
level_append [] ys = omega arith
level_append (x ∷ xs) ys = ap (λ n. cond (is_level x.symbol) (n + 1) n) (level_append xs ys) ∙ add_level (is_level x.symbol) (level xs) (level ys)

one_level : (b : Bool) (n : ℕ) → n + cond b (0 + 1) 0 ≡ cond b (n + 1) n
one_level true n = omega arith
one_level false n = omega arith

pub level_reverse : (xs : List Awaited) → level (reverse xs) ≡ level xs
level_reverse [] = refl
level_reverse (x ∷ xs) = ap level (reverse-append (x ∷ []) xs) ∙ level_append (reverse xs) (x ∷ []) ∙ one_level (is_level x.symbol) (level (reverse xs)) ∙ ap (λ n. cond (is_level x.symbol) (n + 1) n) (level_reverse xs)
