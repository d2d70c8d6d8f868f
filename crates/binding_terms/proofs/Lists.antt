-- Facts about lists, options and what holds of their elements, whatever these are.
use Rattle.binding_terms.specs.Numbered.{AllNumbered, AnyByRecursion}
use Rattle.std.proofs.Common.{Bool, IsTrue, List, MatchOption, None, Option, Some, [], add-one, ap, arith, cond, count_by, drop, false, get_or, if◌then◌else◌, inl, inr, is_some, length, map, nat_lt, not, option_map, refl, reverse, slice_get, slice_index_or, subst, suc, sym, take, true, true≢false, unwrap_or, zero, ℕ, ◌++◌, ◌+◌, ◌-◌, ◌<◌, ◌↔◌, ◌∙◌, ◌∷◌, ◌≡◌, ◌≤◌, ◌⊎◌}
use Rattle.std.proofs.lemmas.Bool.{cases_lt}
use Rattle.std.proofs.lemmas.List.{append_assoc, drop_at, drop_more, get_or-map, length-drop, length-map, length-reverse, length-take, map-append, map_more, nil_from_length, reverse-append, reverse-reverse, take-append-drop, take_all, take_at, take_more}
use Rattle.std.proofs.lemmas.List.Elements.{Contains-append_cases, Contains-append_left, Contains-append_right, Contains-get_or, Contains-push, Contains-push_cases}
use Rattle.std.proofs.lemmas.List.Recursion.{is_position_or_len}
use Rattle.std.proofs.lemmas.List.Sums.{sum_by-append, sum_by-cons}
use Rattle.std.proofs.lemmas.Option.{slice_get-get_or, slice_get-map, slice_get_cases, slice_get_past}
use Rattle.std.specs.List.{AllByRecursion, AllZip, Contains, position, position_or_len}
use mathlib.Core.List.{reverse_aux}

pub all_also : {X : Type 0} (P Q : X → Type 0) (xs : List X) → ((x : X) → P x → Q x) → AllByRecursion P xs → AllByRecursion Q xs
all_also P Q [] h k = tt
all_also P Q (x ∷ xs) h k = (h x k.0, all_also P Q xs h k.1)

pub all_always : {X : Type 0} (P : X → Type 0) → ((x : X) → P x) → (xs : List X) → AllByRecursion P xs
all_always P h [] = tt
all_always P h (x ∷ xs) = (h x, all_always P h xs)

pub all_append : {X : Type 0} (P : X → Type 0) (xs ys : List X) → AllByRecursion P xs → AllByRecursion P ys → AllByRecursion P (xs ++ ys)
all_append P [] ys h k = k
all_append P (x ∷ xs) ys h k = (h.0, all_append P xs ys h.1 k)

pub all_at : {A : Type 0} (P : A → Type 0) (xs : List A) (k : ℕ) (a : A) → AllByRecursion P xs → slice_get xs k ≡ Some a → P a
all_at P [] k a h e = absurd (let no : ⊥ = cc in no)
all_at P (x ∷ xs) zero a h e = subst P (let same : x ≡ a = cc in same) h.0
all_at P (x ∷ xs) (suc k) a h e = all_at P xs k a h.1 e

pub all_at_index : {X : Type 0} (P : X → Type 0) (xs : List X) (x : X) (k : ℕ) → AllByRecursion P xs → k < length xs → slice_index_or xs k x ≡ x → P x
all_at_index P [] x k all lt same = absurd (omega arith)
all_at_index P (y ∷ ys) x zero all lt same = subst P same all.0
all_at_index P (y ∷ ys) x (suc k) all lt same = all_at_index P ys x k all.1 (omega (arith, lt)) same

-- what holds of all elements holds of one
pub all_contained : {X : Type 0} (P : X → Type 0) (xs : List X) (x : X) → AllByRecursion P xs → Contains xs x → P x
all_contained P [] x all at = absurd (let lt = at.1 in omega (arith, lt))
all_contained P (y ∷ ys) x all (zero, lt, same) = subst P same all.0
all_contained P (y ∷ ys) x all (suc k, lt, same) = all_contained P ys x all.1 (k, omega (arith, lt), same)

pub all_equal : {A : Type 0} (P : A → Type 0) (xs : List A) (x : A) → AllByRecursion P xs → AnyByRecursion (λ y. y ≡ x) xs → P x
all_equal P [] x all h = absurd h
all_equal P (y ∷ xs) x all (inl e) = subst P e all.0
all_equal P (y ∷ xs) x all (inr h) = all_equal P xs x all.1 h

pub all_found : {A : Type 0} {P Q : A → Type 0} → (xs : List A) (n : ℕ) → AllByRecursion P xs → MatchOption (slice_get xs n) ⊥ Q → (x : A) × P x × Q x
all_found [] n all h = absurd h
all_found (x ∷ xs) zero all h = (x, all.0, h)
all_found (x ∷ xs) (suc n) all h = all_found xs n all.1 h

pub all_from : {X : Type 0} (P : X → Type 0) (xs : List X) → ((x : X) → Contains xs x → P x) → AllByRecursion P xs
all_from P [] h = tt
all_from P (x ∷ xs) h = (h x (0, omega arith, refl), all_from P xs (λ y c. h y (Contains-append_right (x ∷ []) xs y c)))

pub all_from_places : {A : Type 0} (P : A → Type 0) (xs : List A) → ((k : ℕ) (x : A) → slice_get xs k ≡ Some x → P x) → AllByRecursion P xs
all_from_places P [] h = tt
all_from_places P (x ∷ xs) h = (h 0 x refl, all_from_places P xs (λ k y e. h (suc k) y e))

pub all_front : {X : Type 0} (P : X → Type 0) (xs ys : List X) → AllByRecursion P (xs ++ ys) → AllByRecursion P xs
all_front P [] ys all = tt
all_front P (x ∷ xs) ys all = (all.0, all_front P xs ys all.1)

-- each element of a list is one of it
pub all_in_whole : {X : Type 0} (front xs : List X) → AllByRecursion (Contains (front ++ xs)) xs
all_in_whole front [] = tt
all_in_whole {X = X} front (x ∷ xs) = (
  Contains-append_right front (x ∷ xs) x (0, (omega arith), refl),
  subst (λ (all : List X). AllByRecursion (Contains all) xs) (append_assoc front (x ∷ []) xs) (all_in_whole (front ++ x ∷ []) xs),
)

pub all_in_itself : {X : Type 0} (xs : List X) → AllByRecursion (Contains xs) xs
all_in_itself xs = all_in_whole [] xs

pub all_joined : {X : Type 0} (P Q R : X → Type 0) (xs : List X) → ((x : X) → P x → Q x → R x) → AllByRecursion P xs → AllByRecursion Q xs → AllByRecursion R xs
all_joined P Q R [] h p q = tt
all_joined P Q R (x ∷ xs) h p q = (h x p.0 q.0, all_joined P Q R xs h p.1 q.1)

pub all_map : {A : Type 0} (P Q : A → Type 0) → ((a : A) → P a → Q a) → (xs : List A) → AllByRecursion P xs → AllByRecursion Q xs
all_map P Q f [] h = tt
all_map P Q f (x ∷ xs) h = (f x h.0, all_map P Q f xs h.1)

pub all_mapped : {X Y : Type 0} (f : X → Y) (P : X → Type 0) (Q : Y → Type 0) (xs : List X) → ((x : X) → P x → Q (f x)) → AllByRecursion P xs → AllByRecursion Q (map f xs)
all_mapped f P Q [] h k = tt
all_mapped f P Q (x ∷ xs) h k = (h x k.0, all_mapped f P Q xs h k.1)

-- one more of a list
pub all_mapped_more : {X Y : Type 0} (f : X → Y) (P : Y → Type 0) (xs : List X) (k : ℕ) (d : X) → k < length xs → AllByRecursion P (map f (take k xs)) → P (f (get_or xs k d))
    → AllByRecursion P (map f (take (k + 1) xs))
all_mapped_more f P xs k d lt h p = subst (AllByRecursion P) (sym (map_more f xs k d lt)) (all_append P (map f (take k xs)) (f (get_or xs k d) ∷ []) h (p, tt))

pub all_middle : {X : Type 0} (P : X → Type 0) (front rest : List X) (x : X) → AllByRecursion P (front ++ (x ∷ rest)) → P x
all_middle P [] rest x h = h.0
all_middle P (y ∷ front) rest x h = all_middle P front rest x h.1

pub all_push : {A : Type 0} (P : A → Type 0) (xs : List A) (x : A) → AllByRecursion P xs → P x → AllByRecursion P (xs ++ x ∷ [])
all_push P [] x all here = (here, tt)
all_push P (y ∷ ys) x all here = (all.0, all_push P ys x all.1 here)

pub all_more : {A : Type 0} (P : A → Type 0) (xs : List A) (i : ℕ) (x : A) → i < length xs → x ≡ get_or xs i x → P x → AllByRecursion P (take i xs) → AllByRecursion P (take (i + 1) xs)
all_more P xs i x lt is here all =
    subst (AllByRecursion P) (sym (take_more xs i x lt ∙ ap (λ y. take i xs ++ y ∷ []) (sym is))) (all_push P (take i xs) x all here)

pub all_numbered : {A : Type 0} (P : ℕ → A → Type 0) (n : ℕ) (xs : List A) → ((i : ℕ) (x : A) → slice_get xs i ≡ Some x → P (n + i) x) → AllNumbered P n xs
all_numbered P n [] h = tt
all_numbered P n (x ∷ xs) h =
    (subst (λ k. P k x) (omega arith) (h 0 x refl), all_numbered P (suc n) xs (λ i y e. subst (λ k. P k y) (omega arith) (h (suc i) y e)))

pub all_pick : {X A : Type 0} (f : X → A) (P : A → Type 0) (xs : List X) (i : ℕ) (d : X) → i < length xs → AllByRecursion P (map f xs) → P (f (get_or xs i d))
all_pick f P [] i d lt h = absurd (let no : ⊥ = omega arith in no)
all_pick f P (x ∷ xs) zero d lt h = h.0
all_pick f P (x ∷ xs) (suc i) d lt h = all_pick f P xs i d (omega arith) h.1

pub all_reverse : {X : Type 0} (P : X → Type 0) (xs : List X) → AllByRecursion P xs → AllByRecursion P (reverse xs)
all_reverse P [] h = h
all_reverse P (x ∷ xs) h = subst (AllByRecursion P) (sym (reverse-append (x ∷ []) xs)) (all_append P (reverse xs) (x ∷ []) (all_reverse P xs h.1) (h.0, tt))

pub all_right : {X : Type 0} (P : X → Type 0) (xs ys : List X) → AllByRecursion P (xs ++ ys) → AllByRecursion P ys
all_right P [] ys all = all
all_right P (x ∷ xs) ys all = all_right P xs ys all.1

-- one element more of a list that is gone through
pub all_step : {X A : Type 0} (f : X → A) (P : A → Type 0) (xs : List X) (i : ℕ) (d : X) → i < length xs
    → AllByRecursion P (map f (drop i xs)) ↔ (P (f (get_or xs i d)) × AllByRecursion P (map f (drop (i + 1) xs)))
all_step {X} f P xs i d lt =
    subst (λ (l : List X). AllByRecursion P (map f l) ↔ (P (f (get_or xs i d)) × AllByRecursion P (map f (drop (i + 1) xs)))) (sym (drop_more xs i d lt)) (λ h. h, λ h. h)

pub all_weaker : {A : Type 0} {P Q : A → Type 0} → ((x : A) → P x → Q x) → (xs : List A) → AllByRecursion P xs → AllByRecursion Q xs
all_weaker f [] all = tt
all_weaker f (x ∷ xs) all = (f x all.0, all_weaker f xs all.1)

-- what holds of each of both
pub all_zipped : {A : Type 0} (P Q : A → Type 0) (xs : List A) → AllByRecursion P xs → AllByRecursion Q xs → AllByRecursion (λ x. P x × Q x) xs
all_zipped P Q [] one two = tt
all_zipped P Q (x ∷ xs) one two = ((one.0, two.0), all_zipped P Q xs one.1 two.1)

pub any_at : {X : Type 0} (P : X → Type 0) (xs : List X) (n : ℕ) (x : X) → slice_get xs n ≡ Some x → P x → AnyByRecursion P xs
any_at P [] n x e p = absurd (cc)
any_at P (y ∷ xs) zero x e p = let same : y ≡ x = cc in inl (subst P (sym same) p)
any_at P (y ∷ xs) (suc n) x e p = inr (any_at P xs n x e p)

pub any_at_index : {A : Type 0} (P : A → Type 0) (xs : List A) (i : ℕ) (x : A) → i < length xs → x ≡ get_or xs i x → P x → AnyByRecursion P xs
any_at_index P [] i x h e p = absurd (omega arith)
any_at_index P (y ∷ ys) zero x h e p = inl (subst P e p)
any_at_index P (y ∷ ys) (suc i) x h e p = inr (any_at_index P ys i x (omega arith) e p)

pub any_back : {A : Type 0} (P : A → Type 0) (xs ys : List A) → AnyByRecursion P ys → AnyByRecursion P (xs ++ ys)
any_back P [] ys h = h
any_back P (x ∷ xs) ys h = inr (any_back P xs ys h)

pub any_behind : {A : Type 0} (P : A → Type 0) (xs ys : List A) → (AnyByRecursion P xs → ⊥) → AnyByRecursion P (xs ++ ys) → AnyByRecursion P ys
any_behind P [] ys none is = is
any_behind P (x ∷ xs) ys none (inl here) = absurd (none (inl here))
any_behind P (x ∷ xs) ys none (inr is) = any_behind P xs ys (λ there. none (inr there)) is

pub contains_cons : {A : Type 0} (x y : A) (xs : List A) → Contains (x ∷ xs) y → (x ≡ y) ⊎ Contains xs y
contains_cons x y xs is = elim (Contains-append_cases (x ∷ []) xs y is) [
  | inl l ↦ elim (Contains-push_cases [] x y l) [ inl never ↦ absurd (omega (arith, never.1)) | inr same ↦ inl same ]
  | inr r ↦ inr r
]

pub any_contained : {A : Type 0} (P : A → Type 0) (xs : List A) (y : A) → Contains xs y → P y → AnyByRecursion P xs
any_contained P [] y is p = absurd (omega (arith, is.1))
any_contained P (x ∷ xs) y is p = elim (contains_cons x y xs is) [ inl same ↦ inl (subst P (sym same) p) | inr more ↦ inr (any_contained P xs y more p) ]

pub any_drop : {A : Type 0} (P : A → Type 0) (n : ℕ) (xs : List A) → AnyByRecursion P (drop n xs) → AnyByRecursion P xs
any_drop P zero xs is = is
any_drop P (suc n) [] is = absurd is
any_drop P (suc n) (x ∷ xs) is = inr (any_drop P n xs is)

pub any_front : {A : Type 0} (P : A → Type 0) (xs ys : List A) → AnyByRecursion P xs → AnyByRecursion P (xs ++ ys)
any_front P [] ys h = absurd h
any_front P (x ∷ xs) ys (inl h) = inl h
any_front P (x ∷ xs) ys (inr h) = inr (any_front P xs ys h)

pub any_map : {A : Type 0} (P Q : A → Type 0) (xs : List A) → AllByRecursion (λ x. P x → Q x) xs → AnyByRecursion P xs → AnyByRecursion Q xs
any_map P Q [] h a = a
any_map P Q (x ∷ xs) h (inl a) = inl (h.0 a)
any_map P Q (x ∷ xs) h (inr a) = inr (any_map P Q xs h.1 a)

pub any_not_none : {X : Type 0} (P : X → Type 0) (xs : List X) → AnyByRecursion P xs → AllByRecursion (λ x. P x → ⊥) xs → ⊥
any_not_none P [] some none = some
any_not_none P (x ∷ xs) (inl is) none = none.0 is
any_not_none P (x ∷ xs) (inr some) none = any_not_none P xs some none.1

pub any_one : {A : Type 0} (P : A → Type 0) (xs : List A) (x : A) → AnyByRecursion (λ y. y ≡ x) xs → P x → AnyByRecursion P xs
any_one P [] x is here = absurd is
any_one P (y ∷ ys) x (inl same) here = inl (subst P (sym same) here)
any_one P (y ∷ ys) x (inr is) here = inr (any_one P ys x is here)

pub any_turned : {A : Type 0} (P : A → Type 0) (xs : List A) → AnyByRecursion P xs → AnyByRecursion P (reverse xs)
any_turned P [] any = absurd any
any_turned P (x ∷ xs) any = subst (AnyByRecursion P) (sym (reverse-append (x ∷ []) xs)) (elim any [
  | inl p ↦ any_back P (reverse xs) (x ∷ []) (inl p)
  | inr m ↦ any_front P (reverse xs) (x ∷ []) (any_turned P xs m)
])

pub any_reverse : {A : Type 0} (P : A → Type 0) (xs : List A) (r : Bool) → (IsTrue r ↔ AnyByRecursion P xs) → IsTrue r ↔ AnyByRecursion P (reverse xs)
any_reverse P xs r is = (
  (λ t. any_turned P xs (is.0 t)),
  (λ any. is.1 (subst (AnyByRecursion P) (reverse-reverse xs) (any_turned P (reverse xs) any))),
)

pub any_split : {A : Type 0} (P : A → Type 0) (xs ys : List A) → AnyByRecursion P (xs ++ ys) → AnyByRecursion P xs ⊎ AnyByRecursion P ys
any_split P [] ys h = inr h
any_split P (x ∷ xs) ys (inl h) = inl (inl h)
any_split P (x ∷ xs) ys (inr h) = which (any_split P xs ys h)
  where
    which : AnyByRecursion P xs ⊎ AnyByRecursion P ys → AnyByRecursion P (x ∷ xs) ⊎ AnyByRecursion P ys
    which (inl k) = inl (inr k)
    which (inr k) = inr k

pub any_take : {A : Type 0} (P : A → Type 0) (n : ℕ) (xs : List A) → AnyByRecursion P (take n xs) → AnyByRecursion P xs
any_take P zero xs is = absurd is
any_take P (suc n) [] is = absurd is
any_take P (suc n) (x ∷ xs) (inl here) = inl here
any_take P (suc n) (x ∷ xs) (inr is) = inr (any_take P n xs is)

pub append_beyond : {X : Type 0} (xs ys : List X) (i : ℕ) → length xs ≤ i → slice_get (xs ++ ys) i ≡ slice_get ys (i - length xs)
append_beyond [] ys i h = ap (slice_get ys) (let e : i ≡ i - 0 = omega arith in e)
append_beyond (x ∷ xs) ys zero h = absurd (omega arith)
append_beyond (x ∷ xs) ys (suc i) h =
    append_beyond xs ys i (omega arith) ∙ ap (slice_get ys) (let e : i - length xs ≡ suc i - suc (length xs) = omega arith in e)

pub append_behind : {A : Type 0} (xs ys : List A) (j : ℕ) → slice_get (xs ++ ys) (length xs + j) ≡ slice_get ys j
append_behind xs ys j = append_beyond xs ys (length xs + j) (omega arith) ∙ ap (slice_get ys) (omega arith)

pub append_empty_back : {A : Type 0} (xs ys : List A) → xs ++ ys ≡ [] → ys ≡ []
append_empty_back [] ys e = e
append_empty_back (x ∷ xs) ys e = (let never : x ∷ xs ++ ys ≡ [] = e in absurd cc)

pub append_empty_front : {A : Type 0} (xs ys : List A) → xs ++ ys ≡ [] → xs ≡ []
append_empty_front [] ys e = refl
append_empty_front (x ∷ xs) ys e = (let never : x ∷ xs ++ ys ≡ [] = e in cc)

pub append_within : {X : Type 0} (xs ys : List X) (i : ℕ) → i < length xs → slice_get (xs ++ ys) i ≡ slice_get xs i
append_within [] ys i h = absurd (omega arith)
append_within (x ∷ xs) ys zero h = refl
append_within (x ∷ xs) ys (suc i) h = append_within xs ys i (omega arith)

pub below_whole : {A : Type 0} (front rest : List A) (x : A) → length front < length (front ++ x ∷ rest)
below_whole [] rest x = (omega arith)
below_whole (y ∷ front) rest x = let below = below_whole front rest x in (omega arith)

-- what holds place by place holds at a place
pub zip_places : {A B : Type 0} (R : A → B → Type 0) (xs : List A) (ys : List B) (n : ℕ) (a : A) (b : B) → AllZip R xs ys →
    slice_get xs n ≡ Some a → slice_get ys n ≡ Some b → R a b
zip_places R [] ys n a b h at_a at_b = absurd (let no : ⊥ = cc in no)
zip_places R (x ∷ xs) [] n a b h at_a at_b = absurd h
zip_places R (x ∷ xs) (y ∷ ys) zero a b h at_a at_b =
    let same_a : x ≡ a = cc in
    let same_b : y ≡ b = cc in
    subst (λ v. R a v) same_b (subst (λ v. R v y) same_a h.0)
zip_places R (x ∷ xs) (y ∷ ys) (suc n) a b h at_a at_b = zip_places R xs ys n a b h.1 at_a at_b

-- the cited ones
pub cited_zip : {A B : Type 0} (R : A → B → Type 0) (xs : List A) (ys : List B) (on : List ℕ) (firsts : List A) (seconds : List B) → AllZip R xs ys →
    AllZip (λ n a. slice_get xs n ≡ Some a) on firsts → AllZip (λ n b. slice_get ys n ≡ Some b) on seconds → AllZip R firsts seconds
cited_zip R xs ys [] [] [] h p q = tt
cited_zip R xs ys [] [] (b ∷ seconds) h p q = absurd q
cited_zip R xs ys [] (a ∷ firsts) seconds h p q = absurd p
cited_zip R xs ys (n ∷ on) [] seconds h p q = absurd p
cited_zip R xs ys (n ∷ on) (a ∷ firsts) [] h p q = absurd q
cited_zip R xs ys (n ∷ on) (a ∷ firsts) (b ∷ seconds) h p q = (zip_places R xs ys n a b h p.0 q.0, cited_zip R xs ys on firsts seconds h p.1 q.1)

pub cons_cases : {X : Type 0} (w : X) (xs : List X) (a : X) → Contains (w ∷ xs) a → (w ≡ a) ⊎ Contains xs a
cons_cases w xs a h = go h.0 h.1 h.2
  where
    go : (k : ℕ) → k < length (w ∷ xs) → get_or (w ∷ xs) k a ≡ a → (w ≡ a) ⊎ Contains xs a
    go zero lt e = inl e
    go (suc k) lt e = inr (k, omega arith, e)

pub cons_head : {A : Type 0} {x y : A} {xs ys : List A} → x ∷ xs ≡ y ∷ ys → x ≡ y
cons_head e = cc

pub cons_tail : {A : Type 0} {x y : A} {xs ys : List A} → x ∷ xs ≡ y ∷ ys → xs ≡ ys
cons_tail e = cc

pub contained_any : {A : Type 0} (P : A → Type 0) (xs : List A) → AnyByRecursion P xs → (y : A) × Contains xs y × P y
contained_any P [] any = absurd any
contained_any P (x ∷ xs) (inl is) = (x, Contains-append_left (x ∷ []) xs x (Contains-push [] x), is)
contained_any P (x ∷ xs) (inr any) = let more = contained_any P xs any in (more.0, Contains-append_right (x ∷ []) xs more.0 more.1, more.2)

pub contains_any : {A : Type 0} (xs : List A) (x : A) (k : ℕ) → k < length xs → slice_index_or xs k x ≡ x → AnyByRecursion (λ y. y ≡ x) xs
contains_any [] x k lt e = absurd (never k lt)
  where
    never : (k : ℕ) → k < 0 → ⊥
    never k lt = (omega arith)
contains_any (y ∷ ys) x zero lt e = inl e
contains_any (y ∷ ys) x (suc k) lt e = inr (contains_any ys x k (less k (length ys) lt) e)
  where
    less : (m n : ℕ) → suc m < suc n → m < n
    less m n lt = (omega arith)

pub contains_map : {X Y : Type 0} (f : X → Y) (xs : List X) (y : Y) → Contains (map f xs) y ↔ ((x : X) × (y ≡ f x) × Contains xs x)
contains_map {X} {Y} f xs y = (there xs, back)
  where
    there : (xs : List X) → Contains (map f xs) y → (x : X) × (y ≡ f x) × Contains xs x
    there [] h = absurd (omega (arith, h.1))
    there (x ∷ xs) h =
        let lt : h.0 < length (x ∷ xs) = omega (arith, h.1, length-map (x ∷ xs) f) in
        (get_or (x ∷ xs) h.0 x, sym h.2 ∙ get_or-map f (x ∷ xs) h.0 x y lt, Contains-get_or (x ∷ xs) h.0 x lt)

    back : ((x : X) × (y ≡ f x) × Contains xs x) → Contains (map f xs) y
    back h = (h.2.0, omega (arith, h.2.1, length-map xs f), get_or-map f xs h.2.0 h.0 y h.2.1 ∙ ap f h.2.2 ∙ sym h.1)

pub none_counted : {X : Type 0} (test : X → Bool) (xs : List X) → AllByRecursion (λ x. test x ≡ false) xs → count_by test xs ≡ 0
none_counted test [] none = refl
none_counted test (x ∷ xs) none =
    let rest : count_by test xs ≡ 0 = none_counted test xs none.1 in
    let sum : 0 + count_by test xs ≡ 0 = omega (arith, rest) in
    sum_by-cons (λ y. cond (test y) 1 0) x xs ∙ ap (λ b. cond b 1 0 + count_by test xs) none.0 ∙ sum

pub counted_before : {X : Type 0} (test : X → Bool) (xs ys : List X) → AllByRecursion (λ x. test x ≡ false) ys → count_by test (xs ++ ys) ≡ count_by test xs
counted_before test xs ys none =
    let sum : count_by test xs + 0 ≡ count_by test xs = omega arith in
    sum_by-append (λ y. cond (test y) 1 0) xs ys ∙ ap (λ n. count_by test xs + n) (none_counted test ys none) ∙ sum

pub counted_behind : {X : Type 0} (test : X → Bool) (xs ys : List X) → AllByRecursion (λ x. test x ≡ false) xs → count_by test (xs ++ ys) ≡ count_by test ys
counted_behind test xs ys none =
    let sum : 0 + count_by test ys ≡ count_by test ys = omega arith in
    sum_by-append (λ y. cond (test y) 1 0) xs ys ∙ ap (λ n. n + count_by test ys) (none_counted test xs none) ∙ sum

pub drop_from : {X : Type 0} (xs : List X) (i : ℕ) (x : X) → i < length xs → x ≡ get_or xs i x → drop i xs ≡ x ∷ drop (i + 1) xs
drop_from xs i x h e = drop_more xs i x h ∙ ap (λ y. y ∷ drop (i + 1) xs) (sym e)

pub drop_next : {A : Type 0} (xs : List A) (i : ℕ) → i < length xs → (x : A) × (drop i xs ≡ x ∷ drop (i + 1) xs)
drop_next xs i lt = elim (slice_get_cases xs i).1 [
  | inl found ↦ (found.0, drop_from xs i found.0 lt (sym found.3))
  | inr past ↦ absurd (omega (arith, past.0))
]

pub drop_none : {A : Type 0} (k : ℕ) → drop k (let xs : List A = [] in xs) ≡ []
drop_none zero = refl
drop_none (suc k) = refl

pub each_map : {A B C : Type 0} (f : A → B) (g : B → C) (xs : List A) → map g (map f xs) ≡ map (λ x. g (f x)) xs
each_map f g [] = refl
each_map f g (x ∷ xs) = ap (λ ys. g (f x) ∷ ys) (each_map f g xs)

pub empty_within_one : {X : Type 0} (xs : List X) → length xs < 1 → xs ≡ []
empty_within_one [] lt = refl
empty_within_one (x ∷ xs) lt = absurd (omega arith)

pub found_some : {A : Type 0} (P : A → Type 0) (xs : List A) (n : ℕ) → MatchOption (slice_get xs n) ⊥ P → (x : A) × P x
found_some P [] n h = absurd h
found_some P (x ∷ xs) zero h = (x, h)
found_some P (x ∷ xs) (suc n) h = found_some P xs n h

pub found_with : {A : Type 0} (P Q : A → Type 0) (xs : List A) (n : ℕ) → AllByRecursion P xs → MatchOption (slice_get xs n) ⊥ Q
    → MatchOption (slice_get xs n) ⊥ (λ x. P x × Q x)
found_with P Q [] n all h = h
found_with P Q (x ∷ xs) zero all h = (all.0, h)
found_with P Q (x ∷ xs) (suc n) all h = found_with P Q xs n all.1 h

-- the token at a place, as definitions see it
pub get_mapped_or : {X Y : Type 0} (f : X → Y) (xs : List X) (n : ℕ) (d : X) → n < length xs → slice_get (map f xs) n ≡ Some (f (get_or xs n d))
get_mapped_or f xs n d h = slice_get-map f xs n ∙ ap (option_map f) (slice_get-get_or xs n d h)

-- a token at a place is that one exactly where the place has it
pub get_test : {X : Type 0} (xs : List X) (n : ℕ) (x y : X) (r : Bool) → slice_get xs n ≡ Some x → (IsTrue r ↔ (x ≡ y)) → IsTrue r ↔ (slice_get xs n ≡ Some y)
get_test xs n x y r e h = (λ t. e ∙ ap Some (h.0 t), λ f. (let two : Some x ≡ Some y = sym e ∙ f in let same : x ≡ y = cc in h.1 same))

pub if_some : {A : Type 0} (b : Bool) (x : Option A) {y : A} → (if b then x else None) ≡ Some y → IsTrue b × (x ≡ Some y)
if_some true x e = (refl, e)
if_some false x e = absurd (cc)

pub in_reverse : {A : Type 0} (default : A) (args : List A) (i : ℕ) → i < length args → (a : A) × (slice_get (reverse args) i ≡ Some a)
in_reverse default args i h =
    (get_or (reverse args) i default, slice_get-get_or (reverse args) i default (rw length-reverse h))

pub is_some_mapped : {A B : Type 0} (f : A → B) (o : Option A) → is_some (option_map f o) ≡ is_some o
is_some_mapped f None = refl
is_some_mapped f (Some a) = refl

pub last_same : {A : Type 0} (xs ys : List A) (a b : A) → xs ++ a ∷ [] ≡ ys ++ b ∷ [] → a ≡ b
last_same [] [] a b e = cc
last_same [] (y ∷ []) a b e = absurd (let no : ⊥ = cc in no)
last_same [] (y ∷ (z ∷ ys)) a b e = absurd (let no : ⊥ = cc in no)
last_same (x ∷ []) [] a b e = absurd (let no : ⊥ = cc in no)
last_same (x ∷ (z ∷ xs)) [] a b e = absurd (let no : ⊥ = cc in no)
last_same (x ∷ xs) (y ∷ ys) a b e = let rest : xs ++ a ∷ [] ≡ ys ++ b ∷ [] = cc in last_same xs ys a b rest

-- a list as what stands before one of its places and what stands from there on
pub list_around : {R S : Type 0} (view : R → S) (all : List R) (j : ℕ) (here : R) → j < length all → here ≡ get_or all j here
    → (map view (take (j + 1) all) ≡ map view (take j all) ++ view here ∷ []) × (map view (take j all) ++ (view here ∷ map view (drop (j + 1) all)) ≡ map view all)
list_around view all j here lt is = (
  map_more view all j here lt ∙ ap (λ s. map view (take j all) ++ view s ∷ []) (sym is),
  sym (ap (map view) (sym (take-append-drop j all)) ∙ map-append view (take j all) (drop j all)
      ∙ ap (λ qs. map view (take j all) ++ map view qs) (drop_more all j here lt ∙ ap (λ s. s ∷ drop (j + 1) all) (sym is))),
)

pub map_append : {X A : Type 0} (f : X → A) (xs ys : List X) → map f (xs ++ ys) ≡ map f xs ++ map f ys
map_append f [] ys = refl
map_append f (x ∷ xs) ys = ap (λ l. f x ∷ l) (map_append f xs ys)

-- nothing of nothing, and something of something
pub map_empty : {X Y : Type 0} (f : X → Y) (xs : List X) → length xs ≡ 0 → map f xs ≡ []
map_empty f [] e = refl
map_empty f (x ∷ xs) e = absurd (omega (arith, e))

pub map_empty_back : {A B : Type 0} (f : A → B) (xs : List A) → map f xs ≡ [] → length xs ≡ 0
map_empty_back f [] e = refl
map_empty_back f (x ∷ xs) e = absurd (let h : f x ∷ map f xs ≡ [] = e in cc)

pub map_empty_test : {X Y : Type 0} (r : Bool) (f : X → Y) (xs : List X) → (IsTrue r ↔ (length xs ≡ 0)) → IsTrue r ↔ (map f xs ≡ [])
map_empty_test r f xs h = (λ t. ap (map f) (nil_from_length xs (h.0 t)), λ e. h.1 (sym (length-map xs f) ∙ ap length e))

pub map_not_empty : {X Y : Type 0} (f : X → Y) (xs : List X) → (length xs ≡ 0 → ⊥) → (map f xs ≡ [] → ⊥)
map_not_empty f [] h e = h refl
map_not_empty f (x ∷ xs) h e = cc

pub map_same : {A : Type 0} (xs : List A) → map (λ x. x) xs ≡ xs
map_same [] = refl
map_same (x ∷ xs) = ap (λ r. x ∷ r) (map_same xs)

-- a list around one of its places
pub mapped_around : {X Y : Type 0} (f : X → Y) (xs : List X) (j : ℕ) (x : X) → j < length xs → map f xs ≡ map f (take j xs) ++ (f (get_or xs j x) ∷ map f (drop (j + 1) xs))
mapped_around f xs j x h =
    ap (map f) (sym (take-append-drop j xs)) ∙ map-append f (take j xs) (drop j xs) ∙ ap (λ ys. map f (take j xs) ++ map f ys) (drop_more xs j x h)

pub mapped_parts : {X Y : Type 0} (f : X → Y) (xs : List X) (j : ℕ) → map f xs ≡ map f (take j xs) ++ map f (drop j xs)
mapped_parts f xs j = ap (map f) (sym (take-append-drop j xs)) ∙ map-append f (take j xs) (drop j xs)

pub match_at : {A : Type 0} (o : Option A) (P : A → Type 0) (a : A) → o ≡ Some a → MatchOption o ⊥ P → P a
match_at o P a e h = rw e at h

-- what a production's slot holds is reached
pub match_both : {A : Type 0} (o : Option A) (P Q : A → Type 0) (R : Type 0) → ((a : A) → o ≡ Some a → P a → Q a → R) → MatchOption o ⊥ P → MatchOption o ⊥ Q → R
match_both None P Q R f h k = absurd h
match_both (Some a) P Q R f h k = f a refl h k

pub match_from : {A : Type 0} (o : Option A) (P : A → Type 0) (a : A) → o ≡ Some a → P a → MatchOption o ⊥ P
match_from o P a e h = rw e h

pub match_map : {A : Type 0} (o : Option A) (P Q : A → Type 0) → ((a : A) → P a → Q a) → MatchOption o ⊥ P → MatchOption o ⊥ Q
match_map None P Q f h = h
match_map (Some a) P Q f h = f a h

pub match_same : {A : Type 0} {P Q : A → Type 0} (o : Option A) → MatchOption o ⊥ P → MatchOption o ⊥ Q → (x : A) × P x × Q x
match_same None p q = absurd p
match_same (Some x) p q = (x, p, q)

-- a fact that holds of a value gives the value
pub match_some : {A : Type 0} (o : Option A) (P : A → Type 0) → MatchOption o ⊥ P → (a : A) × (o ≡ Some a) × P a
match_some None P h = absurd h
match_some (Some a) P h = (a, refl, h)

pub match_to : {A : Type 0} (o : Option A) (P : A → Type 0) (R : Type 0) → ((a : A) → P a → R) → MatchOption o ⊥ P → R
match_to None P R f h = absurd h
match_to (Some a) P R f h = f a h

pub match_within : {A : Type 0} (xs : List A) (i : ℕ) (P : A → Type 0) → MatchOption (slice_get xs i) ⊥ P → i < length xs
match_within xs i P h = at (cases_lt i (length xs))
  where
    at : (i < length xs) ⊎ (length xs ≤ i) → i < length xs
    at (inl k) = k
    at (inr k) = absurd (subst (λ o. MatchOption o ⊥ P) (slice_get_past xs i k) h)

pub matched : {A : Type 0} (P : A → Type 0) (o : Option A) (x : A) → o ≡ Some x → P x → MatchOption o ⊥ P
matched P o x e h = subst (λ q. MatchOption q ⊥ P) (sym e) h

-- none is so where not some are
pub none_all : {A : Type 0} (P : A → Type 0) (xs : List A) → (AnyByRecursion P xs → ⊥) → AllByRecursion (λ x. P x → ⊥) xs
none_all P [] not_any = tt
none_all P (x ∷ xs) not_any = ((λ p. not_any (inl p)), none_all P xs (λ any. not_any (inr any)))

pub none_case : {A : Type 0} {P : Type 0} (Q : A → Type 0) (o : Option A) → MatchOption o P Q → o ≡ None → P
none_case Q None h e = h
none_case Q (Some a) h e = absurd (cc)

pub none_from_end : {X : Type 0} (f : X → ℕ) (xs : List X) (i : ℕ) → length xs ≤ i → slice_get (reverse (map f xs)) i ≡ None
none_from_end f xs i h = slice_get_past (reverse (map f xs)) i (rw (length-reverse, length-map) h)

pub none_mapped : {A B : Type 0} (f : A → B) (o : Option A) (p : Option B) → option_map f o ≡ p → is_some o ≡ false → p ≡ None
none_mapped f None p e h = sym e
none_mapped f (Some a) p e h = absurd (true≢false h)

pub none_of_them : {X Y : Type 0} (P : X → Type 0) (test : Y → Bool) (xs : List X) (ys : List Y) → AllZip (λ x y. P x ↔ IsTrue (test y)) xs ys → count_by test ys ≡ 0
    → AllByRecursion (λ x. P x → ⊥) xs
none_of_them P test [] [] zip none = tt
none_of_them P test [] (y ∷ ys) zip none = absurd zip
none_of_them P test (x ∷ xs) [] zip none = absurd zip
none_of_them P test (x ∷ xs) (y ∷ ys) zip none =
    by_test (test y) refl (sym (sum_by-cons (λ z. cond (test z) 1 0) y ys) ∙ none) (none_of_them P test xs ys zip.1)
  where
    by_test : (b : Bool) → test y ≡ b → cond b 1 0 + count_by test ys ≡ 0 → (count_by test ys ≡ 0 → AllByRecursion (λ x. P x → ⊥) xs)
        → AllByRecursion (λ x. P x → ⊥) (x ∷ xs)
    by_test true is sum behind = absurd (let never : 1 + count_by test ys ≡ 0 = sum in omega (arith, never))
    by_test false is sum behind = (
      (λ holds. (let never : false ≡ true = sym is ∙ zip.0.0 holds in cc)),
      behind (let rest : 0 + count_by test ys ≡ 0 = sum in omega (arith, rest)),
    )

pub not_some : {A : Type 0} (P : A → Type 0) (xs : List A) → AllByRecursion (λ x. P x → ⊥) xs → AnyByRecursion P xs → ⊥
not_some P [] all any = any
not_some P (x ∷ xs) all (inl p) = all.0 p
not_some P (x ∷ xs) all (inr any) = not_some P xs all.1 any

pub none_where_not : {A : Type 0} (P : A → Type 0) (xs : List A) (r : Bool) → (IsTrue r ↔ AnyByRecursion P xs) → IsTrue (not r) ↔ AllByRecursion (λ x. P x → ⊥) xs
none_where_not P xs true is = ((λ t. (let never : false ≡ true = t in cc)), (λ all. absurd (not_some P xs all (is.0 refl))))
none_where_not P xs false is = ((λ t. none_all P xs (λ any. (let never : false ≡ true = is.1 any in cc))), (λ all. refl))

pub none_where_not_some : {X : Type 0} (o : Option X) → Rattle.std.specs.Prelude.is_some o ≡ Rattle.std.proofs.Common.false → o ≡ None
none_where_not_some None e = refl
none_where_not_some (Some x) e = (let never : Rattle.std.proofs.Common.true ≡ Rattle.std.proofs.Common.false = e in cc)

pub nothing_around : {A : Type 0} (x : A) (xs ys : List A) → [] ≡ xs ++ x ∷ ys → ⊥
nothing_around x [] ys e = cc
nothing_around x (y ∷ xs) ys e = cc

pub nothing_before : {A : Type 0} (before : List A) (y : A) (after : List A) → [] ≡ before ++ y ∷ after → ⊥
nothing_before [] y after e = cc
nothing_before (b ∷ before) y after e = cc

pub nothing_left : {A B : Type 0} (R : A → B → Type 0) (ys : List B) (y : B) → AllZip R [] (ys ++ y ∷ []) → ⊥
nothing_left R [] y h = h
nothing_left R (z ∷ ys) y h = h

-- the last of two lists is one
pub nothing_pushed : {X : Type 0} (xs : List X) (x : X) → [] ≡ xs ++ x ∷ [] → ⊥
nothing_pushed [] x same = cc
nothing_pushed (y ∷ xs) x same = cc

pub nothing_right : {A B : Type 0} (R : A → B → Type 0) (xs : List A) (x : A) → AllZip R (xs ++ x ∷ []) [] → ⊥
nothing_right R [] x h = h
nothing_right R (z ∷ xs) x h = h

-- and an element has a number
pub number_of : {X : Type 0} (xs : List X) (x : X) → Contains xs x → (k : ℕ) × (slice_get xs k ≡ Some x)
number_of [] x at = absurd (let lt = at.1 in omega (arith, lt))
number_of (y ∷ ys) x (zero, lt, same) = (0, ap Some same)
number_of (y ∷ ys) x (suc k, lt, same) = let more = number_of ys x (k, omega (arith, lt), same) in (suc more.0, more.1)

pub numbered_at : {A : Type 0} (P : ℕ → A → Type 0) (n : ℕ) (xs : List A) (i : ℕ) (x : A) → AllNumbered P n xs → slice_get xs i ≡ Some x → P (n + i) x
numbered_at P n [] i x h e = absurd (cc)
numbered_at P n (y ∷ xs) zero x h e = let same : y ≡ x = cc in subst (P (n + 0)) same (subst (λ k. P k y) (omega arith) h.0)
numbered_at P n (y ∷ xs) (suc i) x h e = subst (λ k. P k x) (omega arith) (numbered_at P (suc n) xs i x h.1 e)

-- the values are those of the names of a front
pub numbered_front : {A : Type 0} (P : ℕ → A → Type 0) (n : ℕ) (xs ys : List A) → AllNumbered P n (xs ++ ys) → AllNumbered P n xs
numbered_front P n [] ys h = tt
numbered_front P n (x ∷ xs) ys h = (h.0, numbered_front P (suc n) xs ys h.1)

pub numbered_weaker : {A : Type 0} {P Q : ℕ → A → Type 0} → ((k : ℕ) (x : A) → P k x → Q k x) → (n : ℕ) (xs : List A) → AllNumbered P n xs → AllNumbered Q n xs
numbered_weaker weaker n [] h = tt
numbered_weaker weaker n (x ∷ xs) h = (weaker n x h.0, numbered_weaker weaker (suc n) xs h.1)

-- numbered facts of two lists, one behind the other
pub numbered_joined : {A : Type 0} {P Q R : ℕ → A → Type 0} → ((k : ℕ) (x : A) → P k x → R k x) → ((k : ℕ) (x : A) → Q k x → R k x)
    → (n : ℕ) (xs ys : List A) → AllNumbered P n xs → AllNumbered Q (n + length xs) ys → AllNumbered R n (xs ++ ys)
numbered_joined {Q = Q} one other n [] ys h k = numbered_weaker other n ys (subst (λ (m : ℕ). AllNumbered Q m ys) (omega arith) k)
numbered_joined {Q = Q} one other n (x ∷ xs) ys h k =
    (one n x h.0, numbered_joined one other (suc n) xs ys h.1 (subst (λ (m : ℕ). AllNumbered Q m ys) (omega arith) k))

pub numbered_map : {A : Type 0} (P Q : ℕ → A → Type 0) → ((m : ℕ) (a : A) → P m a → Q m a) → (n : ℕ) (xs : List A) → AllNumbered P n xs → AllNumbered Q n xs
numbered_map P Q f n [] h = tt
numbered_map P Q f n (x ∷ xs) h = (f n x h.0, numbered_map P Q f (suc n) xs h.1)

pub numbered_match_at : {A : Type 0} (P : ℕ → A → Type 0) (n : ℕ) (xs : List A) (i : ℕ) → AllNumbered P n xs → i < length xs → MatchOption (slice_get xs i) ⊥ (P (n + i))
numbered_match_at P n [] i h k = absurd (omega arith)
numbered_match_at P n (y ∷ ys) zero h k = subst (λ m. P m y) (let e : n ≡ n + 0 = omega arith in e) h.0
numbered_match_at P n (y ∷ ys) (suc i) h k =
    subst (λ m. MatchOption (slice_get ys i) ⊥ (P m)) (let e : suc n + i ≡ n + suc i = omega arith in e) (numbered_match_at P (suc n) ys i h.1 (omega arith))

pub numbered_push : {A : Type 0} (P : ℕ → A → Type 0) (n : ℕ) (xs : List A) (x : A) → AllNumbered P n xs → P (n + length xs) x → AllNumbered P n (xs ++ x ∷ [])
numbered_push P n [] x h p = (subst (λ k. P k x) (let e : n + 0 ≡ n = omega arith in e) p, tt)
numbered_push P n (y ∷ ys) x h p =
    (h.0, numbered_push P (suc n) ys x h.1 (subst (λ k. P k x) (let e : n + suc (length ys) ≡ suc n + length ys = omega arith in e) p))

pub only_element : {A : Type 0} (xs : List A) (d : A) → length xs ≡ 1 → xs ≡ get_or xs 0 d ∷ []
only_element [] d e = absurd (omega (arith, e))
only_element (x ∷ []) d e = refl
only_element (x ∷ (y ∷ ys)) d e = absurd (omega (arith, e))

pub option_case : {A : Type 0} {P P2 : Type 0} {Q Q2 : A → Type 0} (o : Option A) → (P → P2) → ((a : A) → Q a → Q2 a) → MatchOption o P Q → MatchOption o P2 Q2
option_case None f g h = f h
option_case (Some a) f g h = g a h

-- the place of the first that passes, in a view of a list
pub place_map : {A B : Type 0} (f : A → B) (p : B → Bool) (xs : List A) → position_or_len p (map f xs) ≡ position_or_len (λ x. p (f x)) xs
place_map f p xs = is_position_or_len (λ ys. position_or_len p (map f ys)) (λ x. p (f x)) refl (λ x ys. step (p (f x)) (position_or_len p (map f ys))) xs where
  step : (b : Bool) (n : ℕ) → cond (not b) (1 + n) 0 ≡ cond b 0 (1 + n)
  step true n = refl
  step false n = refl

pub places_fail : {A : Type 0} (P : ℕ → Type 0) (xs : List A) (i : ℕ) (W : Type 0) → i < length xs → (P i → ⊥) → (AllNumbered (λ m x. P m) i (drop i xs) ↔ W) →
    IsTrue false ↔ W
places_fail P xs i W lt not_here h =
    let n = drop_next xs i lt in
    let k : AllNumbered (λ m x. P m) i (n.0 ∷ drop (i + 1) xs) ↔ W = subst (λ ys. AllNumbered (λ m x. P m) i ys ↔ W) n.1 h in
    (λ t. (let never : false ≡ true = t in absurd cc), λ w. absurd (not_here (k.1 w).0))

-- what holds of each number from one on, and of those behind it
pub places_left : {A : Type 0} (P : ℕ → Type 0) (xs : List A) (i : ℕ) (W : Type 0) → i < length xs → P i → (AllNumbered (λ m x. P m) i (drop i xs) ↔ W) →
    AllNumbered (λ m x. P m) (i + 1) (drop (i + 1) xs) ↔ W
places_left P xs i W lt here h =
    let n = drop_next xs i lt in
    let k : AllNumbered (λ m x. P m) i (n.0 ∷ drop (i + 1) xs) ↔ W = subst (λ ys. AllNumbered (λ m x. P m) i ys ↔ W) n.1 h in (
      λ all. k.0 (here, subst (λ j. AllNumbered (λ m x. P m) j (drop (i + 1) xs)) (add-one i) all),
      λ w. subst (λ j. AllNumbered (λ m x. P m) j (drop (i + 1) xs)) (sym (add-one i)) (k.1 w).1,
    )

pub places_push : {A : Type 0} (P : ℕ → Type 0) (n : ℕ) (xs : List A) (x : A) (k : ℕ) → k ≡ n + length xs → AllNumbered (λ m x. P m) n xs → P k → AllNumbered (λ m x. P m) n (xs ++ x ∷ [])
places_push P n [] x k e all here = (subst P (omega (arith, e)) here, tt)
places_push P n (y ∷ ys) x k e all here = (all.0, places_push P (suc n) ys x k (omega (arith, e)) all.1 here)

pub places_more : {A : Type 0} (P : ℕ → Type 0) (xs : List A) (i : ℕ) → i < length xs → P i → AllNumbered (λ m x. P m) 0 (take i xs) → AllNumbered (λ m x. P m) 0 (take (i + 1) xs)
places_more P xs i lt here all =
    let n = drop_next xs i lt in
    elim (slice_get_cases xs i).1 [
      | inl found ↦ subst (AllNumbered (λ m x. P m) 0) (sym (take_more xs i found.0 lt)) (places_push P 0 (take i xs) _ i (omega (arith, length-take i xs)) all here)
      | inr past ↦ absurd (omega (arith, past.0))
    ]

-- numbers of which some property holds up to one place, and behind it no longer: the place is one
pub places_same : {A : Type 0} (P : ℕ → Type 0) (n : ℕ) (xs : List A) (count : ℕ) (k : ℕ) → k ≡ n + count → count ≤ length xs → AllNumbered (λ m x. P m) n (take count xs) → (count < length xs → P k → ⊥) →
    (zs ws : List A) (l : ℕ) → l ≡ n + length zs → xs ≡ zs ++ ws → AllNumbered (λ m x. P m) n zs → AllNumbered (λ m x. P m → ⊥) l ws → length zs ≡ count
places_same P n xs zero k ek within all stop [] ws l el e there behind = refl
places_same P n [] (suc count) k ek within all stop zs ws l el e there behind = absurd (omega arith)
places_same P n (x ∷ xs) (suc count) k ek within all stop [] [] l el e there behind = absurd cc
places_same P n (x ∷ xs) (suc count) k ek within all stop [] (w ∷ ws) l el e there behind = absurd (behind.0 (subst P (omega (arith, el)) all.0))
places_same P n xs zero k ek within all stop (z ∷ zs) ws l el e there behind =
    absurd (stop (omega (arith, ap length e)) (subst P (omega (arith, ek)) there.0))
places_same P n (x ∷ xs) (suc count) k ek within all stop (z ∷ zs) ws l el e there behind =
    ap suc (places_same P (suc n) xs count k (omega (arith, ek)) (omega arith) all.1 (λ lt. stop (omega arith)) zs ws l (omega (arith, el)) (let rest : xs ≡ zs ++ ws = cc in rest) there.1 behind)

pub position_map : {A B : Type 0} (f : A → B) (p : B → Bool) (xs : List A) → position p (map f xs) ≡ position (λ x. p (f x)) xs
position_map f p xs =
    let place = place_map f p xs in
    let size = length-map xs f in
    λ i. cond (nat_lt (place i) (size i)) (Some (place i)) None

-- one item more
pub pushed_item : {X : Type 0} (old new : List X) (x y : X) (xs left : List X) → new ≡ old ++ x ∷ [] → x ≡ y → xs ≡ y ∷ left → new ++ left ≡ old ++ xs
pushed_item old new x y xs left pushed is same =
    ap (λ zs. zs ++ left) pushed ∙ append_assoc old (x ∷ []) left ∙ ap (λ z. old ++ z ∷ left) is ∙ ap (λ zs. old ++ zs) (sym same)

pub rest_taken : {X : Type 0} (xs : List X) (j : ℕ) → take (length xs - j) (drop j xs) ≡ drop j xs
rest_taken xs j = take_all (length xs - j) (drop j xs) (let long : length (drop j xs) ≡ length xs - j = length-drop j xs in omega (arith, long))

pub reverse_aux_map : {A B : Type 0} (f : A → B) (xs ys : List A) → reverse_aux (map f xs) (map f ys) ≡ map f (reverse_aux xs ys)
reverse_aux_map f [] ys = refl
reverse_aux_map f (x ∷ xs) ys = reverse_aux_map f xs (x ∷ ys)

pub reverse_empty_test : {X Y : Type 0} (r : Bool) (f : X → Y) (xs : List X) → (IsTrue r ↔ (length xs ≡ 0)) → IsTrue r ↔ (reverse (map f xs) ≡ [])
reverse_empty_test r f xs h = (
  λ t. ap (λ ys. reverse (map f ys)) (nil_from_length xs (h.0 t)),
  λ e. h.1 (sym (length-map xs f) ∙ sym (length-reverse (map f xs)) ∙ ap length e),
)

pub reverse_map : {A B : Type 0} (f : A → B) (xs : List A) → reverse (map f xs) ≡ map f (reverse xs)
reverse_map f xs = reverse_aux_map f xs []

pub same_at : {X Y : Type 0} (f : X → Y) (xs ys : List X) (i : ℕ) (a b : X) → i < length xs → i < length ys → map f xs ≡ map f ys
    → a ≡ get_or xs i a → b ≡ get_or ys i b → f a ≡ f b
same_at f xs ys i a b h k e p q =
    ap f p ∙ sym (get_or-map f xs i a (f b) h) ∙ ap (λ zs. get_or zs i (f b)) e ∙ get_or-map f ys i b (f b) k ∙ ap f (sym q)

-- the fronts of two splits of one list at one place
pub same_front : {A : Type 0} (xs ys more rest : List A) → length xs ≡ length ys → xs ++ more ≡ ys ++ rest → xs ≡ ys
same_front [] [] more rest l e = refl
same_front [] (y ∷ ys) more rest l e = absurd (let no : ⊥ = omega (arith, l) in no)
same_front (x ∷ xs) [] more rest l e = absurd (let no : ⊥ = omega (arith, l) in no)
same_front (x ∷ xs) (y ∷ ys) more rest l e =
    let first : x ≡ y = cc in
    let left : xs ++ more ≡ ys ++ rest = cc in
    let same : xs ≡ ys = same_front xs ys more rest (omega (arith, l)) left in
    λ i. first i ∷ same i

-- lists that begin with parts of one length
pub same_fronts : {X : Type 0} (xs ys us vs : List X) → xs ++ us ≡ ys ++ vs → length xs ≡ length ys → (xs ≡ ys) × (us ≡ vs)
same_fronts xs ys us vs e h = (
  sym (take_at xs us (length xs) refl) ∙ ap (take (length xs)) e ∙ take_at ys vs (length xs) (sym h),
  sym (drop_at xs us (length xs) refl) ∙ ap (drop (length xs)) e ∙ drop_at ys vs (length xs) (sym h),
)

-- lists with one more at the end are the same only with the same end
pub same_last : {X : Type 0} (xs ys : List X) (x y : X) → xs ++ x ∷ [] ≡ ys ++ y ∷ [] → (xs ≡ ys) × (x ≡ y)
same_last [] [] x y e = (refl, cc)
same_last [] (z ∷ ys) x y e = absurd (let l = ap length e in omega (arith, l, length_last ys y))
  where
    length_last : {X : Type 0} (us : List X) (u : X) → length (us ++ u ∷ []) ≡ suc (length us)
    length_last [] u = refl
    length_last (v ∷ us) u = ap suc (length_last us u)
same_last (z ∷ xs) [] x y e = absurd (let l = ap length e in omega (arith, l, length_last xs x))
  where
    length_last : {X : Type 0} (us : List X) (u : X) → length (us ++ u ∷ []) ≡ suc (length us)
    length_last [] u = refl
    length_last (v ∷ us) u = ap suc (length_last us u)
same_last (z ∷ xs) (u ∷ ys) x y e =
    let whole : z ∷ (xs ++ x ∷ []) ≡ u ∷ (ys ++ y ∷ []) = e in
    let first : z ≡ u = cc in
    let rest : xs ++ x ∷ [] ≡ ys ++ y ∷ [] = cc in
    let more = same_last xs ys x y rest in
    (ap (λ a. a ∷ xs) first ∙ ap (λ zs. u ∷ zs) more.0, more.1)

pub same_length : {X Y : Type 0} (f : X → Y) (xs ys : List X) → map f xs ≡ map f ys → length xs ≡ length ys
same_length f xs ys e = sym (length-map xs f) ∙ ap length e ∙ length-map ys f

-- two splits at one place
pub same_split : {A : Type 0} (xs ys : List A) (x y : A) (us vs : List A) → xs ++ x ∷ us ≡ ys ++ y ∷ vs → length xs ≡ length ys → (xs ≡ ys) × (x ≡ y) × (us ≡ vs)
same_split [] [] x y us vs e n = (refl, cc, cc)
same_split [] (b ∷ ys) x y us vs e n = absurd cc
same_split (a ∷ xs) [] x y us vs e n = absurd cc
same_split (a ∷ xs) (b ∷ ys) x y us vs e n =
    let first : a ≡ b = cc in
    let rest : xs ++ x ∷ us ≡ ys ++ y ∷ vs = cc in
    let same = same_split xs ys x y us vs rest (let m : length xs ≡ length ys = cc in m) in
    (λ i. first i ∷ same.0 i, same.1, same.2)

-- two places with as much before them are one
pub same_split_behind : {A : Type 0} (front : List A) (t : A) (rest : List A) (own : List A) (s : A) (more : List A) → length own ≡ length front → front ++ t ∷ rest ≡ own ++ s ∷ more
    → (own ≡ front) × (s ≡ t) × (more ≡ rest)
same_split_behind [] t rest [] s more len e = (refl, cc, cc)
same_split_behind [] t rest (x ∷ own) s more len e = absurd (omega (arith, len))
same_split_behind (y ∷ front) t rest [] s more len e = absurd (omega (arith, len))
same_split_behind (y ∷ front) t rest (x ∷ own) s more len e =
    let head : y ≡ x = cc in let tail : front ++ t ∷ rest ≡ own ++ s ∷ more = cc in
    let rec = same_split_behind front t rest own s more (omega (arith, len)) tail in
    (ap (λ z. z ∷ own) (sym head) ∙ ap (λ zs. y ∷ zs) rec.0, rec.1, rec.2)

pub some_case : {A : Type 0} (P : Type 0) (Q : A → Type 0) (o : Option A) (a : A) → MatchOption o P Q → o ≡ Some a → Q a
some_case P Q None a h e = absurd (cc)
some_case P Q (Some b) a h e = subst Q (let k : Some b ≡ Some a = e in cc) h

-- in those of one list or of another
pub some_in_both : {S : Type 0} (Q : S → Type 0) (front behind : List S) → (((s : S) × Contains front s × Q s) ⊎ ((s : S) × Contains behind s × Q s)) ↔ ((s : S) × Contains (front ++ behind) s × Q s)
some_in_both {S} Q front behind = (there, λ h. which h (Contains-append_cases front behind h.0 h.1))
  where
    there : ((s : S) × Contains front s × Q s) ⊎ ((s : S) × Contains behind s × Q s) → (s : S) × Contains (front ++ behind) s × Q s
    there (inl h) = (h.0, Contains-append_left front behind h.0 h.1, h.2)
    there (inr h) = (h.0, Contains-append_right front behind h.0 h.1, h.2)

    which : (h : (s : S) × Contains (front ++ behind) s × Q s) → Contains front h.0 ⊎ Contains behind h.0
        → ((s : S) × Contains front s × Q s) ⊎ ((s : S) × Contains behind s × Q s)
    which h (inl c) = inl (h.0, c, h.2)
    which h (inr c) = inr (h.0, c, h.2)

-- in those of a list or in one more
pub some_in_more : {S : Type 0} (Q : S → Type 0) (all : List S) (d : S) → (((s : S) × Contains all s × Q s) ⊎ Q d) ↔ ((s : S) × Contains (all ++ d ∷ []) s × Q s)
some_in_more {S} Q all d = (there, λ h. back h (Contains-push_cases all d h.0 h.1))
  where
    there : ((s : S) × Contains all s × Q s) ⊎ Q d → (s : S) × Contains (all ++ d ∷ []) s × Q s
    there (inl h) = (h.0, Contains-append_left all (d ∷ []) h.0 h.1, h.2)
    there (inr h) = (d, Contains-push all d, h)

    back : (h : (s : S) × Contains (all ++ d ∷ []) s × Q s) → Contains all h.0 ⊎ (d ≡ h.0) → ((s : S) × Contains all s × Q s) ⊎ Q d
    back h (inl c) = inl (h.0, c, h.2)
    back h (inr e) = inr (subst Q (sym e) h.2)

pub some_mapped : {A B : Type 0} (f : A → B) (o : Option A) (p : Option B) → option_map f o ≡ p → is_some o ≡ true → p ≡ None → ⊥
some_mapped f None p e h n = true≢false (sym h)
some_mapped f (Some a) p e h n = (let k : Some (f a) ≡ None = e ∙ n in cc)

pub some_once : {A : Type 0} {a b : A} {o : Option A} → o ≡ Some a → o ≡ Some b → a ≡ b
some_once {a = a} {b = b} e f = (let k : Some a ≡ Some b = sym e ∙ f in cc)

pub some_within : {A : Type 0} (xs : List A) (i : ℕ) → i < length xs → (x : A) × (slice_get xs i ≡ Some x)
some_within [] i h = absurd (omega (arith, h))
some_within (x ∷ xs) zero h = (x, refl)
some_within (x ∷ xs) (suc i) h = some_within xs i (omega (arith, h))

-- a place in a list with one element more
pub split_last : {A : Type 0} (ds : List A) (x : A) (before : List A) (y : A) (after : List A) → ds ++ x ∷ [] ≡ before ++ y ∷ after
    → ((ds ≡ before) × (x ≡ y)) ⊎ ((rest : List A) × (ds ≡ before ++ y ∷ rest))
split_last [] x [] y after e = inl (refl, cc)
split_last [] x (b ∷ before) y after e = absurd (nothing_before before y after (let tail : [] ≡ before ++ y ∷ after = cc in tail))
split_last (d ∷ ds) x [] y after e = let head : d ≡ y = cc in inr (ds, ap (λ z. z ∷ ds) head)
split_last (d ∷ ds) x (b ∷ before) y after e =
    let head : d ≡ b = cc in let tail : ds ++ x ∷ [] ≡ before ++ y ∷ after = cc in
    elim (split_last ds x before y after tail) [
      | inl l ↦ inl ((ap (λ z. z ∷ ds) head ∙ ap (λ zs. b ∷ zs) l.0), l.1)
      | inr r ↦ inr (r.0, (ap (λ z. z ∷ ds) head ∙ ap (λ zs. b ∷ zs) r.1))
    ]

pub take_map : {A B : Type 0} (f : A → B) (i : ℕ) (xs : List A) → map f (take i xs) ≡ take i (map f xs)
take_map f zero xs = refl
take_map f (suc i) [] = refl
take_map f (suc i) (x ∷ xs) = ap (λ r. f x ∷ r) (take_map f i xs)

pub unwrap_mapped : {A B : Type 0} (f : A → B) (x : A) (y : B) (o : Option A) (a : A) → o ≡ Some a →
    f (unwrap_or o x) ≡ unwrap_or (option_map f o) y
unwrap_mapped f x y o a e = rw e refl

-- what is so of all that was looked at
pub whole_taken : {X : Type 0} (P : List X → Type 0) (xs : List X) (i : ℕ) → length xs ≤ i → P (take i xs) → P xs
whole_taken P xs i le p = subst P (take_all i xs le) p

pub zip_append : {Y Z : Type 0} (R : Y → Z → Type 0) (ys us : List Y) (zs vs : List Z) → AllZip R ys zs → AllZip R us vs → AllZip R (ys ++ us) (zs ++ vs)
zip_append R [] us [] vs zip more = more
zip_append R [] us (z ∷ zs) vs zip more = absurd zip
zip_append R (y ∷ ys) us [] vs zip more = absurd zip
zip_append R (y ∷ ys) us (z ∷ zs) vs zip more = (zip.0, zip_append R ys us zs vs zip.1 more)

-- two facts at once
pub zip_both : {A B : Type 0} (R : A → B → Type 0) (P : B → Type 0) (js : List A) (bs : List B) → AllZip R js bs → AllByRecursion P bs → AllZip (λ a b. R a b × P b) js bs
zip_both R P [] [] h k = tt
zip_both R P [] (b ∷ bs) h k = absurd h
zip_both R P (a ∷ js) [] h k = absurd h
zip_both R P (a ∷ js) (b ∷ bs) h k = ((h.0, k.0), zip_both R P js bs h.1 k.1)

pub zip_empty : {A B : Type 0} (C : A → B → Type 0) (ns : List B) → AllZip C [] ns → ns ≡ []
zip_empty C [] h = refl
zip_empty C (n ∷ ns) h = absurd h

-- the last elements belong together, and what stands before them
pub zip_last : {A B : Type 0} (R : A → B → Type 0) (xs : List A) (x : A) (ys : List B) (y : B) → AllZip R (xs ++ x ∷ []) (ys ++ y ∷ []) → AllZip R xs ys × R x y
zip_last R [] x [] y h = (tt, h.0)
zip_last R [] x (z ∷ ys) y h = absurd (nothing_left R ys y h.1)
zip_last R (z ∷ xs) x [] y h = absurd (nothing_right R xs x h.1)
zip_last R (u ∷ xs) x (v ∷ ys) y h = let k = zip_last R xs x ys y h.1 in ((h.0, k.0), k.1)

pub zip_left : {A B : Type 0} (R : A → B → Type 0) (P : A → Type 0) → ((a : A) (b : B) → R a b → P a) → (us : List A) (vs : List B) → AllZip R us vs → AllByRecursion P us
zip_left R P f [] [] h = tt
zip_left R P f [] (v ∷ vs) h = tt
zip_left R P f (u ∷ us) [] h = absurd h
zip_left R P f (u ∷ us) (v ∷ vs) h = (f u v h.0, zip_left R P f us vs h.1)

pub zip_map : {A B : Type 0} (R S : A → B → Type 0) → ((a : A) (b : B) → R a b → S a b) → (js : List A) (bs : List B) → AllZip R js bs → AllZip S js bs
zip_map R S f [] [] h = tt
zip_map R S f [] (b ∷ bs) h = absurd h
zip_map R S f (a ∷ js) [] h = absurd h
zip_map R S f (a ∷ js) (b ∷ bs) h = (f a b h.0, zip_map R S f js bs h.1)

pub zip_more : {X A B : Type 0} (f : X → A) (R : A → B → Type 0) (xs : List X) (i : ℕ) (d : X) (ys : List B) (y : B) → i < length xs
    → AllZip R (map f (take i xs)) ys → R (f (get_or xs i d)) y → AllZip R (map f (take (i + 1) xs)) (ys ++ y ∷ [])
zip_more f R xs i d ys y lt h r =
    subst (λ l. AllZip R l (ys ++ y ∷ [])) (sym (ap (map f) (take_more xs i d lt) ∙ map_append f (take i xs) (get_or xs i d ∷ [])))
    (zip_append R (map f (take i xs)) (f (get_or xs i d) ∷ []) ys (y ∷ []) h (r, tt))

-- where nothing belongs to one of them, no list belongs to all
pub zip_none : {X A B : Type 0} (f : X → A) (R : A → B → Type 0) (xs : List X) (i : ℕ) (d : X) → i < length xs
    → ((y : B) → R (f (get_or xs i d)) y → ⊥) → (ys : List B) → AllZip R (map f xs) ys → ⊥
zip_none f R [] i d lt none ys h = (let no : ⊥ = omega arith in no)
zip_none f R (z ∷ xs) i d lt none [] h = h
zip_none f R (z ∷ xs) zero d lt none (y ∷ ys) h = none y h.0
zip_none f R (z ∷ xs) (suc i) d lt none (y ∷ ys) h = zip_none f R xs i d (omega arith) none ys h.1

-- one more at the end
pub zip_push : {A B : Type 0} (R : A → B → Type 0) (xs : List A) (ys : List B) (a : A) (b : B) → AllZip R xs ys → R a b → AllZip R (xs ++ a ∷ []) (ys ++ b ∷ [])
zip_push R [] [] a b h r = (r, tt)
zip_push R [] (y ∷ ys) a b h r = absurd h
zip_push R (x ∷ xs) [] a b h r = absurd h
zip_push R (x ∷ xs) (y ∷ ys) a b h r = (h.0, zip_push R xs ys a b h.1 r)

pub zip_turned : {A B : Type 0} (R : A → B → Type 0) (xs done : List A) (ys bs : List B) → AllZip R xs ys → AllZip R done bs → AllZip R (reverse_aux xs done) (reverse_aux ys bs)
zip_turned R [] done [] bs h k = k
zip_turned R [] done (y ∷ ys) bs h k = absurd h
zip_turned R (x ∷ xs) done [] bs h k = absurd h
zip_turned R (x ∷ xs) done (y ∷ ys) bs h k = zip_turned R xs (x ∷ done) ys (y ∷ bs) h.1 (h.0, k)

pub zip_reverse : {A B : Type 0} (R : A → B → Type 0) (xs : List A) (ys : List B) → AllZip R xs ys → AllZip R (reverse xs) (reverse ys)
zip_reverse R xs ys h = zip_turned R xs [] ys [] h tt

pub zip_right : {A B : Type 0} (R : A → B → Type 0) (P : B → Type 0) → ((a : A) (b : B) → R a b → P b) → (js : List A) (bs : List B) → AllZip R js bs → AllByRecursion P bs
zip_right R P f [] [] h = tt
zip_right R P f [] (b ∷ bs) h = absurd h
zip_right R P f (a ∷ js) [] h = absurd h
zip_right R P f (a ∷ js) (b ∷ bs) h = (f a b h.0, zip_right R P f js bs h.1)

-- what belongs to a longer list has a front that belongs to its front, and a rest
pub zip_split : {A B : Type 0} (R : A → B → Type 0) (xs us : List A) (zs : List B) → AllZip R (xs ++ us) zs
    → (ys : List B) × (vs : List B) × (zs ≡ ys ++ vs) × AllZip R xs ys × AllZip R us vs
zip_split R [] us zs h = ([], zs, refl, tt, h)
zip_split R (x ∷ xs) us [] h = absurd h
zip_split R (x ∷ xs) us (z ∷ zs) h = let k = zip_split R xs us zs h.1 in (z ∷ k.0, k.1, ap (λ l. z ∷ l) k.2, (h.0, k.3), k.4)

-- of two lists that belong to one, where each element belongs to at most one, both are the same
pub zip_unique : {A B : Type 0} (R : A → B → Type 0) → ((a : A) (x y : B) → R a x → R a y → x ≡ y) → (js : List A) (xs ys : List B) → AllZip R js xs → AllZip R js ys → xs ≡ ys
zip_unique R one [] [] [] h k = refl
zip_unique R one [] [] (y ∷ ys) h k = absurd k
zip_unique R one [] (x ∷ xs) ys h k = absurd h
zip_unique R one (a ∷ js) [] ys h k = absurd h
zip_unique R one (a ∷ js) (x ∷ xs) [] h k = absurd k
zip_unique R one (a ∷ js) (x ∷ xs) (y ∷ ys) h k =
    let first : x ≡ y = one a x y h.0 k.0 in
    let rest : xs ≡ ys = zip_unique R one js xs ys h.1 k.1 in
    cc
