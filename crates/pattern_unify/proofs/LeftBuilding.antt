-- The names that are left, one by one.
use Rattle.std.proofs.Common.{◌≡◌, ◌↔◌, ◌+◌, ◌<◌, ℕ, zero, suc, Bool, true, false, if◌then◌else◌, IsTrue, List, [], ◌∷◌, ◌++◌, length, map, drop, get_or, append_assoc, append-nil, add-one, refl, ap, sym, ◌∙◌, arith}
use Rattle.std.proofs.lemmas.List.{map-append}
use Rattle.std.proofs.lemmas.Option.{get_or_from_slice_get}
use Rattle.binding_terms.specs.Numbered.{AnyByRecursion}
use Rattle.binding_terms.proofs.Lists.{some_within, drop_from}
use Rattle.scheme_terms.specs.SchemeTree.{SchemeTree, meta, local, values, OccursIn}
use Rattle.scheme_terms.specs.Substituting.{parameters, params}
use Rattle.scheme_terms.specs.View.{scheme, known_variable}
use Rattle.scheme_terms.specs.declared.scheme.KnownDecl.{KnownDecl}
use Rattle.scheme_terms.specs.declared.scheme.MetaDecl.{MetaDecl}
use Rattle.scheme_terms.specs.declared.scheme.Scheme.{Scheme}
use Rattle.pattern_unify.specs.Measure.{any_scheme, meta_stands}
use Rattle.pattern_unify.specs.LeftNames.{picked, rank, metas_left, knowns_left}
use Rattle.pattern_unify.proofs.Standing.{stands_tested, tested_stands}
use Rattle.pattern_unify.proofs.Building.{built_more}

same_test : (a b : Bool) → (IsTrue a → IsTrue b) → (IsTrue b → IsTrue a) → a ≡ b
same_test true true f g = refl
same_test true false f g = sym (f refl)
same_test false true f g = g refl
same_test false false f g = refl

pub stands_same : (m : ℕ) (ss : List SchemeTree) (r : Bool) → (IsTrue r ↔ AnyByRecursion (OccursIn m) ss) → r ≡ any_scheme (meta_stands m) ss
stands_same m ss r h = same_test r (any_scheme (meta_stands m) ss) (λ e. tested_stands m ss (h.0 e)) (λ e. h.1 (stands_tested m ss e))

rank_last : (test : ℕ → Bool) (n k : ℕ) → rank test n (suc k) ≡ (if test (n + k) then suc (rank test n k) else rank test n k)
rank_last test n zero = ap (λ m. if test m then 1 else 0) (sym (let e : n + 0 ≡ n = omega arith in e))
rank_last test n (suc k) =
    ap (λ r. if test n then suc r else r) (rank_last test (suc n) k ∙ ap (λ m. if test m then suc (rank test (suc n) k) else rank test (suc n) k) (let e : suc n + k ≡ n + suc k = omega arith in e))
    ∙ swapped (test n) (test (n + suc k)) (rank test (suc n) k)
  where
    swapped : (a b : Bool) (r : ℕ) → (if a then suc (if b then suc r else r) else (if b then suc r else r)) ≡ (if b then suc (if a then suc r else r) else (if a then suc r else r))
    swapped true true r = refl
    swapped true false r = refl
    swapped false true r = refl
    swapped false false r = refl

pub rank_step : (test : ℕ → Bool) (k count new : ℕ) (b : Bool) → b ≡ test k → count ≡ rank test 0 k → new ≡ (if b then count + 1 else count) → new ≡ rank test 0 (k + 1)
rank_step test k count new b kept is more =
    more ∙ ap (λ c. if b then c else count) (add-one count) ∙ ap (λ c. if b then suc c else c) is ∙ ap (λ a. if a then suc (rank test 0 k) else rank test 0 k) kept
    ∙ ap (λ m. if test m then suc (rank test 0 k) else rank test 0 k) (let e : k ≡ 0 + k = omega arith in e)
    ∙ sym (rank_last test 0 k) ∙ ap (rank test 0) (sym (add-one k))

pub knowns_more : (test : ℕ → Bool) (ds : List KnownDecl) (i : ℕ) (done new whole : List ℕ) (b : ℕ) → i < length ds → b ≡ rank test 0 i → new ≡ done ++ b ∷ [] →
    done ++ knowns_left test i (map known_variable (drop i ds)) ≡ whole → new ++ knowns_left test (i + 1) (map known_variable (drop (i + 1) ds)) ≡ whole
knowns_more test ds i done new whole b below is more e =
    let o = some_within ds i below in
    built_more (λ n xs. knowns_left test n (map known_variable xs)) (λ n d. rank test 0 n) (λ n d xs. refl) ds i o.0 done new whole b below
    (sym (get_or_from_slice_get ds i o.0 o.0 o.1)) is more e

pub metas_more : (test : ℕ → Bool) (ds : List MetaDecl) (i : ℕ) (d : MetaDecl) (done new : List Scheme) (whole : List SchemeTree) (s : Scheme) → i < length ds → d ≡ get_or ds i d →
    (keep : Bool) (count : ℕ) → keep ≡ test i → count ≡ rank test 0 i → scheme s ≡ (if keep then meta count (values (parameters (params d))) else local 0) →
    new ≡ done ++ s ∷ [] → map scheme done ++ metas_left test i (drop i ds) ≡ whole → map scheme new ++ metas_left test (i + 1) (drop (i + 1) ds) ≡ whole
metas_more test ds i d done new whole s below at keep count kept counted is more e =
    let here : scheme s ≡ (if test i then meta (rank test 0 i) (values (parameters (params d))) else local 0) =
    is ∙ ap (λ n. if keep then meta n (values (parameters (params d))) else local 0) counted
    ∙ ap (λ b. if b then meta (rank test 0 i) (values (parameters (params d))) else local 0) kept in
    built_more (metas_left test) (λ n x. if test n then meta (rank test 0 n) (values (parameters (params x))) else local 0) (λ n x xs. refl) ds i d (map scheme done)
    (map scheme new) whole (scheme s) below at here (ap (map scheme) more ∙ map-append scheme done (s ∷ [])) e

pub picked_more : {D B : Type 0} (test : ℕ → Bool) (f : D → B) (ds : List D) (i : ℕ) (d : D) (done new whole : List B) (b : Bool) → i < length ds → d ≡ get_or ds i d →
    b ≡ test i → new ≡ done ++ (if b then f d ∷ [] else []) → done ++ picked test i (map f (drop i ds)) ≡ whole → new ++ picked test (i + 1) (map f (drop (i + 1) ds)) ≡ whole
picked_more {B = B} test f ds i d done new whole b below is kept more e =
    step b kept more ∙ ap (λ xs. done ++ picked test i (map f xs)) (sym (drop_from ds i d below is)) ∙ e
  where
    after : List B
    after = picked test (i + 1) (map f (drop (i + 1) ds))

    next : (c : Bool) → test i ≡ c → (if c then f d ∷ after else after) ≡ picked test i (map f (d ∷ drop (i + 1) ds))
    next c at =
        ap (λ a. if a then f d ∷ after else after) (sym at)
        ∙ ap (λ n. if test i then f d ∷ picked test n (map f (drop (i + 1) ds)) else picked test n (map f (drop (i + 1) ds))) (add-one i)

    step : (c : Bool) → c ≡ test i → new ≡ done ++ (if c then f d ∷ [] else []) → new ++ after ≡ done ++ picked test i (map f (d ∷ drop (i + 1) ds))
    step true at is_new = ap (λ xs. xs ++ after) is_new ∙ append_assoc done (f d ∷ []) after ∙ ap (λ xs. done ++ xs) (next true (sym at))
    step false at is_new = ap (λ xs. xs ++ after) (is_new ∙ append-nil done) ∙ ap (λ xs. done ++ xs) (next false (sym at))
