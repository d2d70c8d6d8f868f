-- What is done to lists of schemes that are numbered anew is done to each of them.
use Rattle.std.proofs.Common.{◌≡◌, ℕ, zero, suc, ◌+◌, ◌-◌, ◌<◌, ◌≤◌, Bool, true, false, get_or, List, [], ◌∷◌, ◌++◌, length, take, drop, map, refl, ap, ◌∙◌, sym, subst, arith}
use Rattle.std.proofs.lemmas.List.{take_all}
use Rattle.binding_terms.specs.Numbered.{AllNumbered}
use Rattle.scheme_terms.specs.SchemeTree.{SchemeTree, value, values, part}
use Rattle.scheme_terms.specs.View.{scheme, parts_of, scheme_part, scheme_parts}
use Rattle.scheme_terms.specs.declared.scheme.Scheme.{Scheme}
use Rattle.scheme_terms.specs.declared.scheme.SArg.{SArg}
use Rattle.notation_parser.specs.Renaming.{renamed, renamed_values, renamed_parts}
use Rattle.notation_parser.specs.Used.{marks_before, moved, marked}

all_values : (new : ℕ → ℕ) (ss : List SchemeTree) → renamed_values new (values ss) ≡ values (map (renamed new) ss)
all_values new [] = refl
all_values new (s ∷ ss) = ap (value (renamed new s)) (all_values new ss)

pub done_values : (n : ℕ) (marks : List Bool) (all args : List Scheme) (i : ℕ) → length args ≤ i
    → map scheme all ≡ map (renamed (moved n (marks_before marks))) (map scheme (take i args))
    → values (map scheme all) ≡ renamed_values (moved n (marks_before marks)) (values (map scheme args))
done_values n marks all args i h e =
    ap values (e ∙ ap (λ xs. map (renamed (moved n (marks_before marks))) (map scheme xs)) (take_all i args h)) ∙ sym (all_values (moved n (marks_before marks)) (map scheme args))

abbrev pub renamed_part : ℕ → List Bool → ℕ × SchemeTree → ℕ × SchemeTree
renamed_part n marks a = (a.0, renamed (moved n (marks_before marks)) a.1)

all_parts : (n : ℕ) (marks : List Bool) (xs : List (ℕ × SchemeTree)) → renamed_parts (moved n (marks_before marks)) (parts_of xs) ≡ parts_of (map (renamed_part n marks) xs)
all_parts n marks [] = refl
all_parts n marks (a ∷ xs) = ap (part a.0 (renamed (moved n (marks_before marks)) a.1)) (all_parts n marks xs)

pub done_parts : (n : ℕ) (marks : List Bool) (all parts : List SArg) (i : ℕ) → length parts ≤ i
    → map scheme_part all ≡ map (renamed_part n marks) (map scheme_part (take i parts))
    → scheme_parts all ≡ renamed_parts (moved n (marks_before marks)) (scheme_parts parts)
done_parts n marks all parts i h e =
    ap parts_of (e ∙ ap (λ xs. map (renamed_part n marks) (map scheme_part xs)) (take_all i parts h)) ∙ sym (all_parts n marks (map scheme_part parts))

-- no mark stands before the first place
none_before : (bs : List Bool) → marks_before bs 0 ≡ 0
none_before [] = refl
none_before (b ∷ bs) = refl

pub found_before : (bs : List Bool) (at i count : ℕ) → i ≡ at → marks_before bs at ≡ count + marks_before (drop i bs) (at - i) → count ≡ marks_before bs at
found_before bs at i count is e =
    let zero_is : at - i ≡ 0 = omega (arith, is) in
    let none : marks_before (drop i bs) (at - i) ≡ 0 = ap (marks_before (drop i bs)) zero_is ∙ none_before (drop i bs) in
    omega (arith, e, none)

-- one element more, with a mark or without
pub one_marked : {A : Type 0} (bs : List Bool) (xs : List A) (i : ℕ) (d : Bool) (x : A) → i < length bs → i < length xs → get_or bs i d ≡ true
    → marked (take (suc i) bs) (take (suc i) xs) ≡ marked (take i bs) (take i xs) ++ get_or xs i x ∷ []
one_marked [] xs i d x l k e = absurd (omega (arith, l))
one_marked (b ∷ bs) [] i d x l k e = absurd (omega (arith, k))
one_marked (true ∷ []) (y ∷ xs) zero d x l k e = refl
one_marked (true ∷ (c ∷ bs)) (y ∷ []) zero d x l k e = refl
one_marked (true ∷ (c ∷ bs)) (y ∷ (z ∷ xs)) zero d x l k e = refl
one_marked (false ∷ bs) (y ∷ xs) zero d x l k e = absurd (let never : false ≡ true = e in cc)
one_marked (true ∷ bs) (y ∷ xs) (suc i) d x l k e = ap (λ ys. y ∷ ys) (one_marked bs xs i d x (omega (arith, l)) (omega (arith, k)) e)
one_marked (false ∷ bs) (y ∷ xs) (suc i) d x l k e = one_marked bs xs i d x (omega (arith, l)) (omega (arith, k)) e

pub one_unmarked : {A : Type 0} (bs : List Bool) (xs : List A) (i : ℕ) (d : Bool) → i < length bs → i < length xs → get_or bs i d ≡ false
    → marked (take (suc i) bs) (take (suc i) xs) ≡ marked (take i bs) (take i xs)
one_unmarked [] xs i d l k e = absurd (omega (arith, l))
one_unmarked (b ∷ bs) [] i d l k e = absurd (omega (arith, k))
one_unmarked (false ∷ []) (y ∷ xs) zero d l k e = refl
one_unmarked (false ∷ (c ∷ bs)) (y ∷ []) zero d l k e = refl
one_unmarked (false ∷ (c ∷ bs)) (y ∷ (z ∷ xs)) zero d l k e = refl
one_unmarked (true ∷ bs) (y ∷ xs) zero d l k e = absurd (let never : true ≡ false = e in cc)
one_unmarked (true ∷ bs) (y ∷ xs) (suc i) d l k e = ap (λ ys. y ∷ ys) (one_unmarked bs xs i d (omega (arith, l)) (omega (arith, k)) e)
one_unmarked (false ∷ bs) (y ∷ xs) (suc i) d l k e = one_unmarked bs xs i d (omega (arith, l)) (omega (arith, k)) e
