-- Elements picked from a list by their numbers, and their new numbers.
use Rattle.std.proofs.Common.{◌≡◌, ℕ, zero, suc, ◌+◌, Bool, true, false, if◌then◌else◌, List, [], ◌∷◌, map, Some, slice_get, refl, ap, sym, ◌∙◌, subst, arith}
use Rattle.std.specs.List.{AllByRecursion, AllZip}
use Rattle.scheme_terms.specs.SchemeTree.{meta, local, values}
use Rattle.scheme_terms.specs.Forms.{KnownVariable}
use Rattle.scheme_terms.specs.Substituting.{params, parameters}
use Rattle.scheme_terms.specs.declared.scheme.MetaDecl.{MetaDecl}
use Rattle.pattern_unify.specs.LeftNames.{picked, rank, metas_left, knowns_left}

next_place : (test : ℕ → Bool) (n k : ℕ) → test (n + suc k) ≡ true → test (suc n + k) ≡ true
next_place test n k h = subst (λ i. test i ≡ true) (let e : n + suc k ≡ suc n + k = omega arith in e) h

one_more : {A : Type 0} (b : Bool) (y : A) (p : List A) (r : ℕ) → slice_get (if b then y ∷ p else p) (if b then suc r else r) ≡ slice_get p r
one_more true y p r = refl
one_more false y p r = refl

picked_from : {A : Type 0} (test : ℕ → Bool) (n : ℕ) (xs : List A) (k : ℕ) (x : A) → slice_get xs k ≡ Some x → test (n + k) ≡ true →
    slice_get (picked test n xs) (rank test n k) ≡ Some x
picked_from test n [] k x e h = absurd (let no : ⊥ = cc in no)
picked_from test n (y ∷ ys) zero x e h =
    let here : test n ≡ true = subst (λ i. test i ≡ true) (let z : n + 0 ≡ n = omega arith in z) h in
    ap (λ b. slice_get (if b then y ∷ picked test (suc n) ys else picked test (suc n) ys) 0) here ∙ e
picked_from test n (y ∷ ys) (suc k) x e h = one_more (test n) y (picked test (suc n) ys) (rank test (suc n) k) ∙ picked_from test (suc n) ys k x e (next_place test n k h)

from_none : (test : ℕ → Bool) (k : ℕ) → test k ≡ true → test (0 + k) ≡ true
from_none test k h = subst (λ i. test i ≡ true) (let z : k ≡ 0 + k = omega arith in z) h

pub picked_at : {A : Type 0} (test : ℕ → Bool) (xs : List A) (k : ℕ) (x : A) → slice_get xs k ≡ Some x → test k ≡ true → slice_get (picked test 0 xs) (rank test 0 k) ≡ Some x
picked_at test xs k x e h = picked_from test 0 xs k x e (from_none test k h)

-- each picked element comes from a place
abbrev FromPlace : {A : Type 0} → (ℕ → Bool) → (n : ℕ) → List A → (i : ℕ) → A → Type 0
FromPlace test n xs i x = (k : ℕ) × (rank test n k ≡ i) × (test (n + k) ≡ true) × (slice_get xs k ≡ Some x)

later_place : {A : Type 0} (test : ℕ → Bool) (n : ℕ) (y : A) (ys : List A) (j i : ℕ) (x : A) → (b : Bool) → test n ≡ b → (if b then suc j else j) ≡ i →
    FromPlace test (suc n) ys j x → FromPlace test n (y ∷ ys) i x
later_place test n y ys j i x b test_is goes found = (
  suc found.0,
  ap (λ r. if test n then suc r else r) found.1 ∙ ap (λ c. if c then suc j else j) test_is ∙ goes,
  subst (λ k. test k ≡ true) (let e : suc n + found.0 ≡ n + suc found.0 = omega arith in e) found.2,
  found.3,
)

picked_back_one : {A : Type 0} (test : ℕ → Bool) (n : ℕ) (y : A) (ys : List A) (x : A) (b : Bool) → test n ≡ b →
    ((j : ℕ) → slice_get (picked test (suc n) ys) j ≡ Some x → FromPlace test (suc n) ys j x) → (i : ℕ) →
    slice_get (if b then y ∷ picked test (suc n) ys else picked test (suc n) ys) i ≡ Some x → FromPlace test n (y ∷ ys) i x
picked_back_one test n y ys x true e later zero h = (0, refl, ap test (let z : n + 0 ≡ n = omega arith in z) ∙ e, h)
picked_back_one test n y ys x true e later (suc i) h = later_place test n y ys i (suc i) x true e refl (later i h)
picked_back_one test n y ys x false e later i h = later_place test n y ys i i x false e refl (later i h)

picked_back_from : {A : Type 0} (test : ℕ → Bool) (n : ℕ) (xs : List A) (i : ℕ) (x : A) → slice_get (picked test n xs) i ≡ Some x → FromPlace test n xs i x
picked_back_from test n [] i x h = absurd (let no : ⊥ = cc in no)
picked_back_from test n (y ∷ ys) i x h = picked_back_one test n y ys x (test n) refl (λ j e. picked_back_from test (suc n) ys j x e) i h

pub picked_back : {A : Type 0} (test : ℕ → Bool) (xs : List A) (i : ℕ) (x : A) → slice_get (picked test 0 xs) i ≡ Some x →
    (k : ℕ) × (rank test 0 k ≡ i) × (test k ≡ true) × (slice_get xs k ≡ Some x)
picked_back test xs i x h =
    let found = picked_back_from test 0 xs i x h in
    (found.0, found.1, subst (λ k. test k ≡ true) (let z : 0 + found.0 ≡ found.0 = omega arith in z) found.2, found.3)

zip_one : {A B : Type 0} (R : A → B → Type 0) (b : Bool) (x : A) (y : B) (xs : List A) (ys : List B) → (b ≡ true → R x y) → AllZip R xs ys →
    AllZip R (if b then x ∷ xs else xs) (if b then y ∷ ys else ys)
zip_one R true x y xs ys h rest = (h refl, rest)
zip_one R false x y xs ys h rest = rest

zip_picked_from : {A B C : Type 0} (test : ℕ → Bool) (f : A → C) (R : A → B → Type 0) (S : C → B → Type 0) (n : ℕ) (xs : List A) (ys : List B) →
    ((k : ℕ) (a : A) (b : B) → slice_get xs k ≡ Some a → test (n + k) ≡ true → R a b → S (f a) b) → AllZip R xs ys → AllZip S (picked test n (map f xs)) (picked test n ys)
zip_picked_from test f R S n [] [] so h = tt
zip_picked_from test f R S n [] (y ∷ ys) so h = absurd h
zip_picked_from test f R S n (x ∷ xs) [] so h = absurd h
zip_picked_from test f R S n (x ∷ xs) (y ∷ ys) so h =
    zip_one S (test n) (f x) y (picked test (suc n) (map f xs)) (picked test (suc n) ys)
    (λ e. so 0 x y refl (ap test (let z : n + 0 ≡ n = omega arith in z) ∙ e) h.0)
    (zip_picked_from test f R S (suc n) xs ys (λ k a b at e r. so (suc k) a b at (ap test (let z : n + suc k ≡ suc n + k = omega arith in z) ∙ e) r) h.1)

-- what holds place by place, of the picked ones
pub zip_picked : {A B C : Type 0} (test : ℕ → Bool) (f : A → C) (R : A → B → Type 0) (S : C → B → Type 0) (xs : List A) (ys : List B) →
    ((k : ℕ) (a : A) (b : B) → slice_get xs k ≡ Some a → test k ≡ true → R a b → S (f a) b) → AllZip R xs ys → AllZip S (picked test 0 (map f xs)) (picked test 0 ys)
zip_picked test f R S xs ys so h =
    zip_picked_from test f R S 0 xs ys (λ k a b at e r. so k a b at (subst (λ i. test i ≡ true) (let z : 0 + k ≡ k = omega arith in z) e) r) h

all_one : {A : Type 0} (P : A → Type 0) (b : Bool) (x : A) (xs : List A) → (b ≡ true → P x) → AllByRecursion P xs → AllByRecursion P (if b then x ∷ xs else xs)
all_one P true x xs h rest = (h refl, rest)
all_one P false x xs h rest = rest

all_picked_from : {A : Type 0} (test : ℕ → Bool) (P : A → Type 0) (n : ℕ) (xs : List A) → ((k : ℕ) (x : A) → slice_get xs k ≡ Some x → test (n + k) ≡ true → P x) →
    AllByRecursion P (picked test n xs)
all_picked_from test P n [] h = tt
all_picked_from test P n (x ∷ xs) h =
    all_one P (test n) x (picked test (suc n) xs) (λ e. h 0 x refl (ap test (let z : n + 0 ≡ n = omega arith in z) ∙ e))
    (all_picked_from test P (suc n) xs (λ k y at e. h (suc k) y at (ap test (let z : n + suc k ≡ suc n + k = omega arith in z) ∙ e)))

pub all_picked : {A : Type 0} (test : ℕ → Bool) (P : A → Type 0) (xs : List A) → ((k : ℕ) (x : A) → slice_get xs k ≡ Some x → test k ≡ true → P x) → AllByRecursion P (picked test 0 xs)
all_picked test P xs h = all_picked_from test P 0 xs (λ k x at e. h k x at (subst (λ i. test i ≡ true) (let z : 0 + k ≡ k = omega arith in z) e))

-- what is put in for the names
metas_left_from : (test : ℕ → Bool) (n : ℕ) (decls : List MetaDecl) (k : ℕ) (decl : MetaDecl) → slice_get decls k ≡ Some decl → test (n + k) ≡ true →
    slice_get (metas_left test n decls) k ≡ Some (meta (rank test 0 (n + k)) (values (parameters (params decl))))
metas_left_from test n [] k decl e h = absurd (let no : ⊥ = cc in no)
metas_left_from test n (d ∷ decls) zero decl e h =
    let place : n + 0 ≡ n = omega arith in
    ap (λ b. Some (if b then meta (rank test 0 n) (values (parameters (params d))) else local 0)) (subst (λ i. test i ≡ true) place h)
    ∙ ap (λ x. Some (meta (rank test 0 n) (values (parameters (params x))))) (let same : d ≡ decl = cc in same)
    ∙ ap (λ i. Some (meta (rank test 0 i) (values (parameters (params decl))))) (sym place)
metas_left_from test n (d ∷ decls) (suc k) decl e h =
    metas_left_from test (suc n) decls k decl e (next_place test n k h)
    ∙ ap (λ i. Some (meta (rank test 0 i) (values (parameters (params decl))))) (let z : suc n + k ≡ n + suc k = omega arith in z)

pub metas_left_at : (test : ℕ → Bool) (decls : List MetaDecl) (k : ℕ) (decl : MetaDecl) → slice_get decls k ≡ Some decl → test k ≡ true →
    slice_get (metas_left test 0 decls) k ≡ Some (meta (rank test 0 k) (values (parameters (params decl))))
metas_left_at test decls k decl e h =
    metas_left_from test 0 decls k decl e (from_none test k h) ∙ ap (λ i. Some (meta (rank test 0 i) (values (parameters (params decl))))) (let z : 0 + k ≡ k = omega arith in z)

knowns_left_from : (test : ℕ → Bool) (n : ℕ) (decls : List KnownVariable) (k : ℕ) (decl : KnownVariable) → slice_get decls k ≡ Some decl →
    slice_get (knowns_left test n decls) k ≡ Some (rank test 0 (n + k))
knowns_left_from test n [] k decl e = absurd (let no : ⊥ = cc in no)
knowns_left_from test n (d ∷ decls) zero decl e = ap (λ i. Some (rank test 0 i)) (let z : n ≡ n + 0 = omega arith in z)
knowns_left_from test n (d ∷ decls) (suc k) decl e =
    knowns_left_from test (suc n) decls k decl e ∙ ap (λ i. Some (rank test 0 i)) (let z : suc n + k ≡ n + suc k = omega arith in z)

pub knowns_left_at : (test : ℕ → Bool) (decls : List KnownVariable) (k : ℕ) (decl : KnownVariable) → slice_get decls k ≡ Some decl →
    slice_get (knowns_left test 0 decls) k ≡ Some (rank test 0 k)
knowns_left_at test decls k decl e = knowns_left_from test 0 decls k decl e ∙ ap (λ i. Some (rank test 0 i)) (let z : 0 + k ≡ k = omega arith in z)
