-- Marked elements of a list, and their numbers.
use Rattle.std.proofs.Common.{◌≡◌, ◌↔◌, ℕ, zero, suc, ◌+◌, ◌-◌, ◌<◌, Bool, true, false, IsTrue, if◌then◌else◌, List, [], ◌∷◌, ◌++◌, length, refl, ap, ◌∙◌, sym, subst, arith, Some, slice_get, lt-ltb, le-ltb}
use Rattle.std.specs.List.{AllByRecursion}
use Rattle.binding_terms.specs.Numbered.{AllNumbered}
use Rattle.notation_parser.specs.Used.{marked, marks_before, moved}
use Rattle.binding_terms.proofs.Lists.{append_beyond, append_within}

-- the place of the mark with that number
abbrev pub place_of : List Bool → ℕ → ℕ
place_of [] j = 0
place_of (true ∷ bs) zero = 0
place_of (true ∷ bs) (suc j) = suc (place_of bs j)
place_of (false ∷ bs) j = suc (place_of bs j)

not_marked : {X : Type 0} → Some false ≡ Some true → X
not_marked e = absurd (let never : false ≡ true = cc in cc)

pub marked_at : {A : Type 0} (bs : List Bool) (xs : List A) (i : ℕ) → length bs ≡ length xs → slice_get bs i ≡ Some true → slice_get (marked bs xs) (marks_before bs i) ≡ slice_get xs i
marked_at [] xs i l e = absurd (cc)
marked_at (b ∷ bs) [] i l e = absurd (omega (arith, l))
marked_at (true ∷ bs) (x ∷ xs) zero l e = refl
marked_at (true ∷ bs) (x ∷ xs) (suc i) l e = marked_at bs xs i (omega (arith, l)) e
marked_at (false ∷ bs) (x ∷ xs) zero l e = not_marked e
marked_at (false ∷ bs) (x ∷ xs) (suc i) l e = marked_at bs xs i (omega (arith, l)) e

pub place_before : {A : Type 0} (bs : List Bool) (xs : List A) (j : ℕ) → j < length (marked bs xs) → (marks_before bs (place_of bs j) ≡ j) × (slice_get bs (place_of bs j) ≡ Some true)
place_before [] xs j h = absurd (omega (arith, h))
place_before (b ∷ bs) [] j h = absurd (omega (arith, h))
place_before (true ∷ bs) (x ∷ xs) zero h = (refl, refl)
place_before (true ∷ bs) (x ∷ xs) (suc j) h = let k = place_before bs xs j (omega (arith, h)) in (ap suc k.0, k.1)
place_before (false ∷ bs) (x ∷ xs) j h = place_before bs xs j h

pub place_again : (bs : List Bool) (i : ℕ) → slice_get bs i ≡ Some true → place_of bs (marks_before bs i) ≡ i
place_again [] i e = absurd (cc)
place_again (true ∷ bs) zero e = refl
place_again (true ∷ bs) (suc i) e = ap suc (place_again bs i e)
place_again (false ∷ bs) zero e = not_marked e
place_again (false ∷ bs) (suc i) e = ap suc (place_again bs i e)

pub none_marked : {A : Type 0} (bs : List Bool) → marked {A = A} bs [] ≡ []
none_marked [] = refl
none_marked (b ∷ bs) = refl

pub all_marked : {A : Type 0} (P : A → Type 0) (bs : List Bool) (xs : List A) → AllByRecursion P xs → AllByRecursion P (marked bs xs)
all_marked P [] xs h = tt
all_marked P (b ∷ bs) [] h = tt
all_marked P (true ∷ bs) (x ∷ xs) h = (h.0, all_marked P bs xs h.1)
all_marked P (false ∷ bs) (x ∷ xs) h = all_marked P bs xs h.1

-- what is so of each marked number
pub numbers_marked : {A : Type 0} (Q : ℕ → Type 0) (n : ℕ) (bs : List Bool) (xs : List A) → ((i : ℕ) → slice_get bs i ≡ Some true → Q (n + marks_before bs i)) → AllNumbered (λ m (x : A). Q m) n (marked bs xs)
numbers_marked Q n [] xs h = tt
numbers_marked Q n (b ∷ bs) [] h = tt
numbers_marked Q n (true ∷ bs) (x ∷ xs) h =
    (subst Q (omega arith) (h 0 refl), numbers_marked Q (suc n) bs xs (λ i e. subst Q (omega arith) (h (suc i) e)))
numbers_marked Q n (false ∷ bs) (x ∷ xs) h = numbers_marked Q n bs xs (λ i e. h (suc i) e)

-- marks of one thing are the same
pub same_mark : (P : Type 0) (a b : Bool) → (IsTrue a ↔ P) → (IsTrue b ↔ P) → a ≡ b
same_mark P true true h k = refl
same_mark P true false h k = sym (k.1 (h.0 refl))
same_mark P false true h k = h.1 (k.0 refl)
same_mark P false false h k = refl

pub same_marks : (O : ℕ → Type 0) (n : ℕ) (cs bs : List Bool) → length cs ≡ length bs → AllNumbered (λ m b. IsTrue b ↔ O m) n cs → AllNumbered (λ m b. IsTrue b ↔ O m) n bs → cs ≡ bs
same_marks O n [] [] l h k = refl
same_marks O n [] (b ∷ bs) l h k = absurd (omega (arith, l))
same_marks O n (a ∷ cs) [] l h k = absurd (omega (arith, l))
same_marks O n (a ∷ cs) (b ∷ bs) l h k =
    ap (λ x. x ∷ cs) (same_mark (O n) a b h.0 k.0) ∙ ap (λ xs. b ∷ xs) (same_marks O (suc n) cs bs (omega (arith, l)) h.1 k.1)

-- numbers that stay and numbers that are moved
pub moved_low : (n : ℕ) (f : ℕ → ℕ) (m : ℕ) → m < n → moved n f m ≡ m
moved_low n f m h = ap (λ b. if b then m else (n + f (m - n))) (lt-ltb m n h)

pub moved_high : (n : ℕ) (f : ℕ → ℕ) (i : ℕ) → moved n f (n + i) ≡ n + f i
moved_high n f i =
    ap (λ b. if b then (n + i) else (n + f (n + i - n))) (le-ltb (n + i) n (omega arith)) ∙ ap (λ k. n + f k) (omega arith)
