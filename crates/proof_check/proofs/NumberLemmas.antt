-- The number of the first of several names.
use Rattle.std.proofs.Common.{◌≡◌, ◌≢◌, ◌<◌, ◌≤◌, ℕ, zero, suc, List, [], ◌∷◌, Some, None, length, get_or, take, map, option_map, slice_get, refl, ap, subst, ◌∙◌}
use Rattle.std.proofs.lemmas.List.{take_all}
use Rattle.std.proofs.lemmas.Option.{slice_get_read, slice_get-map}
use Rattle.std.specs.List.{AllByRecursion}
use Rattle.rule_schemes.specs.View.{rule}
use Rattle.rule_schemes.specs.declared.rule.RuleScheme.{RuleScheme}
use Rattle.proof_check.specs.Finding.{Finds}
use Rattle.proof_check.specs.Cited.{IsNumberOf}
use Rattle.binding_terms.proofs.Lists.{all_at, map_same, take_map}

all_named : {A : Type 0} (f : A → List ℕ) (name : List ℕ) (xs : List A) → AllByRecursion (λ x. f x ≢ name) xs → AllByRecursion (λ other. other ≢ name) (map f xs)
all_named f name [] all = all
all_named f name (x ∷ xs) all = (all.0, all_named f name xs all.1)

number_same : (name : List ℕ) (names : List (List ℕ)) (m n : ℕ) → IsNumberOf name names m → IsNumberOf name names n → n ≡ m
number_same name [] m n a b = absurd (let e = a.0 in cc)
number_same name (x ∷ xs) zero zero a b = refl
number_same name (x ∷ xs) zero (suc n) a b = absurd (b.1.0 (let e = a.0 in cc))
number_same name (x ∷ xs) (suc m) zero a b = absurd (a.1.0 (let e = b.0 in cc))
number_same name (x ∷ xs) (suc m) (suc n) a b = ap suc (number_same name xs m n (a.0, a.1.1) (b.0, b.1.1))

-- the first element with the name is found
pub first_found : {A : Type 0} (f : A → List ℕ) (name : List ℕ) (xs : List A) (i : ℕ) (x : A) → i < length xs → x ≡ get_or xs i x → f x ≡ name →
    AllByRecursion (λ x. f x ≢ name) (take i xs) → Finds (IsNumberOf name (map f xs)) (Some i)
first_found f name xs i x lt is here before =
    let found : slice_get (map f xs) i ≡ Some name =
    slice_get-map f xs i ∙ ap (option_map f) (slice_get_read xs (length xs) i x refl lt is) ∙ ap Some here in
    let front : AllByRecursion (λ other. other ≢ name) (take i (map f xs)) =
    subst (AllByRecursion (λ (other : List ℕ). other ≢ name)) (take_map f i xs) (all_named f name (take i xs) before) in
    ((found, front), λ n h. number_same name (map f xs) i n (found, front) h)

-- none is found where none has the name
pub none_found : {A : Type 0} (f : A → List ℕ) (name : List ℕ) (xs : List A) (i : ℕ) → length xs ≤ i → AllByRecursion (λ x. f x ≢ name) (take i xs) →
    Finds (IsNumberOf name (map f xs)) None
none_found f name xs i past before n h =
    let all : AllByRecursion (λ x. f x ≢ name) xs = subst (AllByRecursion (λ x. f x ≢ name)) (take_all i xs past) before in
    all_at (λ (other : List ℕ). other ≢ name) (map f xs) n name (all_named f name xs all) h.0 refl

pub name_found : (name : List ℕ) (names : List (List ℕ)) (i : ℕ) (x : List ℕ) → i < length names → x ≡ get_or names i x → x ≡ name →
    AllByRecursion (λ other. other ≢ name) (take i names) → Finds (IsNumberOf name names) (Some i)
name_found name names i x lt is here before =
    subst (λ ns. Finds (IsNumberOf name ns) (Some i)) (map_same names) (first_found (λ n. n) name names i x lt is here before)

pub no_name_found : (name : List ℕ) (names : List (List ℕ)) (i : ℕ) → length names ≤ i → AllByRecursion (λ other. other ≢ name) (take i names) →
    Finds (IsNumberOf name names) None
no_name_found name names i past before =
    subst (λ ns. Finds (IsNumberOf name ns) None) (map_same names) (none_found (λ n. n) name names i past before)

-- the names of rules are those of the plain ones
pub rule_names_same : (rules : List RuleScheme) → map (λ r. r.name) (map rule rules) ≡ map (λ r. r.name) rules
rule_names_same [] = refl
rule_names_same (r ∷ rules) = ap (λ names. r.name ∷ names) (rule_names_same rules)
