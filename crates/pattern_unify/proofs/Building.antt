-- A list that is built from the elements of another, one by one.
use Rattle.std.proofs.Common.{◌≡◌, ℕ, suc, ◌+◌, ◌<◌, Bool, true, false, if◌then◌else◌, append-nil, refl, List, [], ◌∷◌, ◌++◌, length, drop, get_or, append_assoc, add-one, zero, ◌≤◌, ◌-◌, inl, inr, arith, ap, ◌∙◌, sym}
use Rattle.std.proofs.lemmas.Bool.{cases_lt}
use Rattle.std.proofs.lemmas.List.{drop_more}
use Rattle.binding_terms.proofs.Lists.{drop_from}
use Rattle.scheme_terms.specs.SchemeTree.{SchemeTree, local}
use Rattle.scheme_terms.specs.Substituting.{parameters}
use Rattle.pattern_unify.specs.Patterns.{marked}

pub built_more : {D B : Type 0} (rest : ℕ → List D → List B) (head : ℕ → D → B) → ((n : ℕ) (d : D) (ds : List D) → rest n (d ∷ ds) ≡ head n d ∷ rest (suc n) ds) →
    (ds : List D) (i : ℕ) (d : D) (done new whole : List B) (b : B) → i < length ds → d ≡ get_or ds i d → b ≡ head i d → new ≡ done ++ b ∷ [] →
    done ++ rest i (drop i ds) ≡ whole → new ++ rest (i + 1) (drop (i + 1) ds) ≡ whole
built_more rest head step ds i d done new whole b below is here more e =
    ap (λ xs. xs ++ rest (i + 1) (drop (i + 1) ds)) more ∙ append_assoc done (b ∷ []) (rest (i + 1) (drop (i + 1) ds))
    ∙ ap (λ x. done ++ x ∷ rest (i + 1) (drop (i + 1) ds)) here
    ∙ ap (λ n. done ++ head i d ∷ rest n (drop (i + 1) ds)) (add-one i)
    ∙ ap (λ xs. done ++ xs) (sym (step i d (drop (i + 1) ds))) ∙ ap (λ xs. done ++ rest i xs) (sym (drop_from ds i d below is)) ∙ e

-- marked ones, one by one

pub marked_past : {A : Type 0} (bs : List Bool) (xs : List A) → xs ≡ [] → marked bs xs ≡ []
marked_past [] xs e = refl
marked_past (b ∷ bs) [] e = refl
marked_past (b ∷ bs) (x ∷ xs) e = absurd (let no : ⊥ = cc in no)

pub marked_more : {A : Type 0} (b : Bool) (x : A) (bs : List Bool) (xs done new whole : List A) → new ≡ done ++ (if b then x ∷ [] else []) →
    done ++ marked (b ∷ bs) (x ∷ xs) ≡ whole → new ++ marked bs xs ≡ whole
marked_more true x bs xs done new whole more e = ap (λ ys. ys ++ marked bs xs) more ∙ append_assoc done (x ∷ []) (marked bs xs) ∙ e
marked_more false x bs xs done new whole more e = ap (λ ys. ys ++ marked bs xs) (more ∙ append-nil done) ∙ e

pub marked_at : {A : Type 0} (bs : List Bool) (xs : List A) (i : ℕ) (d : A) (done new whole : List A) → i < length bs → (length xs ≤ i → ⊥) →
    new ≡ done ++ (if get_or bs i false then get_or xs i d ∷ [] else []) → done ++ marked (drop i bs) (drop i xs) ≡ whole →
    new ++ marked (drop (i + 1) bs) (drop (i + 1) xs) ≡ whole
marked_at bs xs i d done new whole hb hx more e =
    marked_more (get_or bs i false) (get_or xs i d) (drop (i + 1) bs) (drop (i + 1) xs) done new whole more
    (ap (λ ys. done ++ ys) (sym (ap (λ cs. marked cs (drop i xs)) (drop_more bs i false hb)
    ∙ ap (marked (get_or bs i false ∷ drop (i + 1) bs)) (drop_more xs i d (elim (cases_lt i (length xs)) [ inl h ↦ h | inr h ↦ absurd (hx h) ])))) ∙ e)

pub marked_parameter : (bs : List Bool) (i left : ℕ) (done new whole : List SchemeTree) → i < length bs → (left ≡ 0 → ⊥) →
    new ≡ done ++ (if get_or bs i false then local (left - 1) ∷ [] else []) → done ++ marked (drop i bs) (parameters left) ≡ whole →
    new ++ marked (drop (i + 1) bs) (parameters (left - 1)) ≡ whole
marked_parameter bs i zero done new whole hb some more e = absurd (some refl)
marked_parameter bs i (suc less) done new whole hb some more e =
    let same : suc less - 1 ≡ less = omega arith in
    marked_more (get_or bs i false) (local (suc less - 1)) (drop (i + 1) bs) (parameters (suc less - 1)) done new whole more
    (ap (λ ys. done ++ ys) (sym (ap (λ cs. marked cs (parameters (suc less))) (drop_more bs i false hb)
    ∙ ap (λ n. marked (get_or bs i false ∷ drop (i + 1) bs) (local n ∷ parameters n)) (sym same))) ∙ e)

pub nothing_past : {A : Type 0} (xs : List A) (i : ℕ) → length xs ≤ i → drop i xs ≡ []
nothing_past [] zero h = refl
nothing_past [] (suc i) h = refl
nothing_past (x ∷ xs) zero h = absurd (let no : ⊥ = omega (arith, h) in no)
nothing_past (x ∷ xs) (suc i) h = nothing_past xs i (omega (arith, h))
