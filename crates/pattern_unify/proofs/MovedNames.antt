-- What becomes of the names where a step puts them in for themselves but one.
use Rattle.std.proofs.Common.{◌≡◌, ◌⊎◌, inl, inr, ℕ, zero, suc, ◌+◌, ◌-◌, ◌<◌, ◌≤◌, Bool, true, false, ◌==◌, if◌then◌else◌, List, [], ◌∷◌, length, map, Some, slice_get, get_or, unwrap_or, option_map, refl, ap, sym, ◌∙◌, subst, arith}
use Rattle.std.specs.List.{AllZip}
use Rattle.std.proofs.lemmas.Bool.{cases_lt}
use Rattle.std.proofs.lemmas.Bool.Decides.{nat_tests}
use Rattle.std.proofs.lemmas.List.{length-map}
use Rattle.std.proofs.lemmas.Option.{slice_get-map, slice_get_within}
use Rattle.binding_terms.proofs.Lists.{some_within}
use Rattle.scheme_terms.specs.SchemeTree.{SchemeTree, meta, local, values, filled, AreDistinctLocals}
use Rattle.scheme_terms.specs.Forms.{KnownVariable}
use Rattle.scheme_terms.specs.Substituting.{known_for, params, parameters, metas_from, knowns_from, argument_or_local}
use Rattle.scheme_terms.specs.Demands.{numbers}
use Rattle.scheme_terms.specs.declared.scheme.MetaDecl.{MetaDecl}
use Rattle.scheme_terms.proofs.Lowering.{renaming, renaming_at, renaming_past, arguments_rename}
use Rattle.scheme_terms.proofs.SchemeSubstitutions.{filled_local}
use Rattle.scheme_terms.proofs.Makings.{Making}
use Rattle.pattern_unify.specs.Patterns.{marked}
use Rattle.pattern_unify.specs.State.{metas_but, knowns_but}
use Rattle.pattern_unify.proofs.KeptParameters.{marked_distinct}

-- lists place by place
pub same_by_places : {A : Type 0} (xs ys : List A) → length xs ≡ length ys → ((k : ℕ) (a : A) → slice_get ys k ≡ Some a → slice_get xs k ≡ Some a) → xs ≡ ys
same_by_places [] [] long h = refl
same_by_places [] (y ∷ ys) long h = absurd (let no : ⊥ = omega (arith, long) in no)
same_by_places (x ∷ xs) [] long h = absurd (let no : ⊥ = omega (arith, long) in no)
same_by_places (x ∷ xs) (y ∷ ys) long h =
    let first : Some x ≡ Some y = h 0 y refl in
    ap (λ z. z ∷ xs) (let same : x ≡ y = cc in same) ∙ ap (λ zs. y ∷ zs) (same_by_places xs ys (omega (arith, long)) (λ k a e. h (suc k) a e))

pub zip_by_places : {A B : Type 0} (R : A → B → Type 0) (xs : List A) (ys : List B) → length xs ≡ length ys →
    ((k : ℕ) (a : A) (b : B) → slice_get xs k ≡ Some a → slice_get ys k ≡ Some b → R a b) → AllZip R xs ys
zip_by_places R [] [] long h = tt
zip_by_places R [] (y ∷ ys) long h = absurd (let no : ⊥ = omega (arith, long) in no)
zip_by_places R (x ∷ xs) [] long h = absurd (let no : ⊥ = omega (arith, long) in no)
zip_by_places R (x ∷ xs) (y ∷ ys) long h = (h 0 x y refl refl, zip_by_places R xs ys (omega (arith, long)) (λ k a b e f. h (suc k) a b e f))

pub zip_there : {A B : Type 0} (R : A → B → Type 0) (xs : List A) (ys : List B) → AllZip R xs ys → (k : ℕ) (a : A) (b : B) → slice_get xs k ≡ Some a → slice_get ys k ≡ Some b → R a b
zip_there R [] ys h k a b e f = absurd (let no : ⊥ = cc in no)
zip_there R (x ∷ xs) [] h k a b e f = absurd h
zip_there R (x ∷ xs) (y ∷ ys) h zero a b e f =
    subst (λ z. R z b) (let same : x ≡ a = cc in same) (subst (R x) (let same : y ≡ b = cc in same) h.0)
zip_there R (x ∷ xs) (y ∷ ys) h (suc k) a b e f = zip_there R xs ys h.1 k a b e f

-- what a step puts in, at a place
abbrev pub meta_but : (m : ℕ) (s : SchemeTree) (k : ℕ) → MetaDecl → SchemeTree
meta_but m s k decl = if k == m then s else meta k (values (parameters (params decl)))

pub meta_but_there : (m : ℕ) (s : SchemeTree) (k : ℕ) (decl : MetaDecl) → k ≡ m → meta_but m s k decl ≡ s
meta_but_there m s k decl e = ap (λ b. if b then s else meta k (values (parameters (params decl)))) (let yes : (k == m) ≡ true = grind (arith, nat_tests) in yes)

pub meta_but_other : (m : ℕ) (s : SchemeTree) (k : ℕ) (decl : MetaDecl) → (k ≡ m → ⊥) → meta_but m s k decl ≡ meta k (values (parameters (params decl)))
meta_but_other m s k decl h = ap (λ b. if b then s else meta k (values (parameters (params decl)))) (let no : (k == m) ≡ false = grind (arith, nat_tests) in no)

pub metas_but_at : (m : ℕ) (s : SchemeTree) (n : ℕ) (decls : List MetaDecl) (k : ℕ) (decl : MetaDecl) → slice_get decls k ≡ Some decl →
    slice_get (metas_but m s n decls) k ≡ Some (meta_but m s (n + k) decl)
metas_but_at m s n [] k decl e = absurd (let no : ⊥ = cc in no)
metas_but_at m s n (d ∷ decls) zero decl e =
    ap (λ x. Some (meta_but m s n x)) (let same : d ≡ decl = cc in same) ∙ ap (λ x. Some (meta_but m s x decl)) (let z : n ≡ n + 0 = omega arith in z)
metas_but_at m s n (d ∷ decls) (suc k) decl e =
    metas_but_at m s (suc n) decls k decl e ∙ ap (λ x. Some (meta_but m s x decl)) (let z : suc n + k ≡ n + suc k = omega arith in z)

pub metas_but_long : (m : ℕ) (s : SchemeTree) (n : ℕ) (decls : List MetaDecl) → length (metas_but m s n decls) ≡ length decls
metas_but_long m s n [] = refl
metas_but_long m s n (d ∷ decls) = ap suc (metas_but_long m s (suc n) decls)

-- none is changed where the number is beyond all of them
pub metas_but_none : (m : ℕ) (s : SchemeTree) (n : ℕ) (decls : List MetaDecl) → n + length decls ≤ m → metas_but m s n decls ≡ metas_from n decls
metas_but_none m s n [] h = refl
metas_but_none m s n (d ∷ decls) h =
    ap (λ x. x ∷ metas_but m s (suc n) decls) (meta_but_other m s n d (λ e. omega (arith, h, e)))
    ∙ ap (λ xs. meta n (values (parameters (params d))) ∷ xs) (metas_but_none m s (suc n) decls (omega (arith, h)))

abbrev pub known_but : (gone kept k : ℕ) → ℕ
known_but gone kept k = if k == gone then kept else k

pub knowns_but_at : (gone kept n : ℕ) (decls : List KnownVariable) (k : ℕ) (decl : KnownVariable) → slice_get decls k ≡ Some decl →
    slice_get (knowns_but gone kept n decls) k ≡ Some (known_but gone kept (n + k))
knowns_but_at gone kept n [] k decl e = absurd (let no : ⊥ = cc in no)
knowns_but_at gone kept n (d ∷ decls) zero decl e = ap (λ x. Some (known_but gone kept x)) (let z : n ≡ n + 0 = omega arith in z)
knowns_but_at gone kept n (d ∷ decls) (suc k) decl e =
    knowns_but_at gone kept (suc n) decls k decl e ∙ ap (λ x. Some (known_but gone kept x)) (let z : suc n + k ≡ n + suc k = omega arith in z)

pub knowns_but_long : (gone kept n : ℕ) (decls : List KnownVariable) → length (knowns_but gone kept n decls) ≡ length decls
knowns_but_long gone kept n [] = refl
knowns_but_long gone kept n (d ∷ decls) = ap suc (knowns_but_long gone kept (suc n) decls)

known_but_other : (gone kept k : ℕ) → (k ≡ gone → ⊥) → known_but gone kept k ≡ k
known_but_other gone kept k h = ap (λ b. if b then kept else k) (let no : (k == gone) ≡ false = grind (arith, nat_tests) in no)

pub knowns_but_none : (gone kept n : ℕ) (decls : List KnownVariable) → n + length decls ≤ gone → knowns_but gone kept n decls ≡ knowns_from n decls
knowns_but_none gone kept n [] h = refl
knowns_but_none gone kept n (d ∷ decls) h =
    ap (λ x. x ∷ knowns_but gone kept (suc n) decls) (known_but_other gone kept n (λ e. omega (arith, h, e)))
    ∙ ap (λ xs. n ∷ xs) (knowns_but_none gone kept (suc n) decls (omega (arith, h)))

pub knowns_but_there : (gone kept : ℕ) (decls : List KnownVariable) (k : ℕ) (decl : KnownVariable) → slice_get decls k ≡ Some decl →
    slice_get (knowns_but gone kept 0 decls) k ≡ Some (known_but gone kept k)
knowns_but_there gone kept decls k decl e =
    knowns_but_at gone kept 0 decls k decl e ∙ ap (λ n. Some (known_but gone kept n)) (let z : 0 + k ≡ k = omega arith in z)

pub metas_but_there : (m : ℕ) (s : SchemeTree) (decls : List MetaDecl) (k : ℕ) (decl : MetaDecl) → slice_get decls k ≡ Some decl →
    slice_get (metas_but m s 0 decls) k ≡ Some (meta_but m s k decl)
metas_but_there m s decls k decl e = metas_but_at m s 0 decls k decl e ∙ ap (λ n. Some (meta_but m s n decl)) (let z : 0 + k ≡ k = omega arith in z)

-- numbers for known variables, place by place
numbers_there : {A : Type 0} (f : ℕ → A) (gone kept k : ℕ) (y : A) → f gone ≡ f kept → f k ≡ y → f (known_but gone kept k) ≡ y
numbers_there f gone kept k y same e = at (k == gone) refl
  where
    at : (b : Bool) → (k == gone) ≡ b → f (if b then kept else k) ≡ y
    at true there = sym same ∙ ap f (let z : gone ≡ k = grind (arith, nat_tests) in z) ∙ e
    at false there = e

pub knowns_become : {A : Type 0} (f : ℕ → A) (ys : List A) (gone kept : ℕ) (decls : List KnownVariable) → length ys ≡ length decls → f gone ≡ f kept →
    ((k : ℕ) (y : A) → slice_get ys k ≡ Some y → f k ≡ y) → map f (knowns_but gone kept 0 decls) ≡ ys
knowns_become {A = A} f ys gone kept decls long same each =
    same_by_places (map f (knowns_but gone kept 0 decls)) ys (length-map (knowns_but gone kept 0 decls) f ∙ knowns_but_long gone kept 0 decls ∙ sym long) at
  where
    at : (k : ℕ) (y : A) → slice_get ys k ≡ Some y → slice_get (map f (knowns_but gone kept 0 decls)) k ≡ Some y
    at k y e =
        let within : k < length ys = slice_get_within ys k y e in
        let found = some_within decls k (omega (arith, within, long)) in
        slice_get-map f (knowns_but gone kept 0 decls) k ∙ ap (option_map f) (knowns_but_there gone kept decls k found.0 found.1)
        ∙ ap Some (numbers_there f gone kept k y same (each k y e))

-- what stands at each place holds also where one known variable goes to another
pub knowns_zip : (R : KnownVariable → ℕ → Type 0) (decls : List KnownVariable) (ks : List ℕ) (gone kept : ℕ) → AllZip R decls ks → length ks ≡ length decls →
    ((decl : KnownVariable) → slice_get decls gone ≡ Some decl → R decl (known_for ks kept)) → AllZip R decls (map (known_for ks) (knowns_but gone kept 0 decls))
knowns_zip R decls ks gone kept h long here =
    zip_by_places R decls (map (known_for ks) (knowns_but gone kept 0 decls))
    (sym (length-map (knowns_but gone kept 0 decls) (known_for ks) ∙ knowns_but_long gone kept 0 decls)) at
  where
    at : (k : ℕ) (decl : KnownVariable) (j : ℕ) → slice_get decls k ≡ Some decl → slice_get (map (known_for ks) (knowns_but gone kept 0 decls)) k ≡ Some j → R decl j
    at k decl j e f = cases (k == gone) refl
      where
        becomes : Some (known_for ks (known_but gone kept k)) ≡ Some j
        becomes = sym (slice_get-map (known_for ks) (knowns_but gone kept 0 decls) k ∙ ap (option_map (known_for ks)) (knowns_but_there gone kept decls k decl e)) ∙ f

        cases : (b : Bool) → (k == gone) ≡ b → R decl j
        cases true same =
            let z : k ≡ gone = grind (arith, nat_tests) in
            let there : Some (known_for ks kept) ≡ Some j = ap (λ c. Some (known_for ks (if c then kept else k))) (sym same) ∙ becomes in
            subst (R decl) (let one : known_for ks kept ≡ j = cc in one) (here decl (ap (slice_get decls) (sym z) ∙ e))
        cases false same =
            let there : Some (known_for ks k) ≡ Some j = ap (λ c. Some (known_for ks (if c then kept else k))) (sym same) ∙ becomes in
            let within : k < length decls = slice_get_within decls k decl e in
            let found = some_within ks k (omega (arith, within, long)) in
            let own : known_for ks k ≡ found.0 = ap (λ o. unwrap_or o k) found.1 in
            subst (R decl) (let one : found.0 ≡ j = cc in one) (zip_there R decls ks h k decl found.0 e found.1)

-- a metavariable on its own parameters becomes its value

own_long : (p : ℕ) → length (numbers (values (parameters p))) ≡ p
own_long zero = refl
own_long (suc p) = ap suc (own_long p)

own_at : (p k : ℕ) → k < p → get_or (numbers (values (parameters p))) k 0 ≡ p - 1 - k
own_at zero k below = absurd (let no : ⊥ = omega (arith, below) in no)
own_at (suc p) zero below = omega arith
own_at (suc p) (suc k) below = own_at p k (omega (arith, below)) ∙ (let z : p - 1 - k ≡ suc p - 1 - suc k = omega arith in z)

own_renaming : (p i : ℕ) → renaming p (numbers (values (parameters p))) i ≡ i
own_renaming p i = at (cases_lt i p)
  where
    at : (i < p) ⊎ (p ≤ i) → renaming p (numbers (values (parameters p))) i ≡ i
    at (inl near) =
        renaming_at p (numbers (values (parameters p))) i (omega (arith, near, own_long p))
        ∙ ap (λ n. get_or (numbers (values (parameters p))) (n - 1 - i) 0) (own_long p) ∙ own_at p (p - 1 - i) (omega (arith, near))
        ∙ (let z : p - 1 - (p - 1 - i) ≡ i = omega (arith, near) in z)
    at (inr far) =
        renaming_past p (numbers (values (parameters p))) i (omega (arith, far, own_long p)) ∙ ap (λ n. i - n + p) (own_long p)
        ∙ (let z : i - p + p ≡ i = omega (arith, far) in z)

abbrev pub all_marked : ℕ → List Bool
all_marked zero = []
all_marked (suc p) = true ∷ all_marked p

pub all_kept : (p : ℕ) → marked (all_marked p) (parameters p) ≡ parameters p
all_kept zero = refl
all_kept (suc p) = ap (λ xs. local p ∷ xs) (all_kept p)

pub own_distinct : (p : ℕ) → AreDistinctLocals (values (parameters p))
own_distinct p = subst (λ xs. AreDistinctLocals (values xs)) (all_kept p) (marked_distinct (all_marked p) p)

pub takes_own : (made : Making) (k p : ℕ) → made.make p (meta k (values (parameters p))) ≡ made.stands_for k
takes_own made k p =
    made.of_meta p k (values (parameters p)) (own_distinct p) ∙ ap (λ f. filled f (made.stands_for k)) each ∙ filled_local (made.stands_for k)
  where
    each : ◌≡◌ {A = ℕ → SchemeTree} (argument_or_local p (map local (numbers (values (parameters p))))) local
    each = λ k i. (arguments_rename p (numbers (values (parameters p))) i ∙ ap local (own_renaming p i)) k
