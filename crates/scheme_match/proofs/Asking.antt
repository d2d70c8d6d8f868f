-- Lists that are gone through, and what their elements ask for.
use Rattle.std.proofs.Common.{◌≡◌, ◌↔◌, ◌⊎◌, ℕ, zero, suc, ◌+◌, ◌-◌, ◌<◌, ◌≤◌, List, [], ◌∷◌, ◌++◌, length, get_or, take, drop, map, Option, Some, option_map, inl, inr, refl, ap, ◌∙◌, sym, subst, length-append, arith}
use Rattle.std.specs.Prelude.{min}
use Rattle.std.proofs.lemmas.List.{length-map, drop_all}
use Rattle.binding_terms.specs.Numbered.{AnyByRecursion, AllNumbered}
use Rattle.binding_terms.specs.Tree.{Tree}
use Rattle.binding_terms.specs.View.{tree}
use Rattle.binding_terms.specs.declared.term.Term.{Term}
use Rattle.binding_terms.proofs.Lists.{drop_from, rest_taken, numbered_push, map_append}
use Rattle.scheme_terms.specs.SchemeTree.{SchemeTree}
use Rattle.scheme_terms.specs.View.{scheme, scheme_entry, ground_entry}
use Rattle.scheme_terms.specs.declared.scheme.Entry.{Entry}
use Rattle.scheme_terms.specs.declared.scheme.Scheme.{Scheme}
use Rattle.scheme_terms.specs.declared.scheme.SEntry.{SEntry}
use Rattle.scheme_match.specs.Demands.{ListDemands, EntriesDemand}

-- the first of two lists asked for nothing
pub passed : {A B S : Type 0} (L : List A → List B → S → Type 0) (P M W : S → Type 0) (xs : List A) (ys : List B) (i : ℕ) (x : A) (y : B) →
    i < length xs → i < length ys → x ≡ get_or xs i x → y ≡ get_or ys i y →
    ((v : S) → L (x ∷ drop (i + 1) xs) (y ∷ drop (i + 1) ys) v ↔ (P v ⊎ M v)) → ((v : S) → P v → ⊥) →
    ((v : S) → L (drop i xs) (drop i ys) v ↔ W v) → (v : S) → M v ↔ W v
passed L P M W xs ys i x y h k e f split none so_far v =
    let first = drop_from xs i x h e in
    let second = drop_from ys i y k f in
    let left = subst (λ zs. L zs (drop i ys) v ↔ W v) first (so_far v) in
    let both = subst (λ zs. L (x ∷ drop (i + 1) xs) zs v ↔ W v) second left in
    (λ m. both.0 ((split v).1 (inr m)), λ w. elim ((split v).0 (both.1 w)) [ inl p ↦ absurd (none v p) | inr m ↦ m ])

pub list_over : (m d i : ℕ) (xs : List Scheme) (ys : List Term) (v : SchemeTree) → min (length xs) (length ys) ≤ i →
    ListDemands m d (map scheme (drop i xs)) (map tree (drop i ys)) v → ⊥
list_over m d zero [] ys v h asked = asked
list_over m d (suc i) [] ys v h asked = asked
list_over m d zero (x ∷ xs) [] v h asked = asked
list_over m d (suc i) (x ∷ xs) [] v h asked = list_over m d i xs [] v (omega arith) (nothing i asked)
  where
    nothing : (i : ℕ) → ListDemands m d (map scheme (drop i xs)) [] v → ListDemands m d (map scheme (drop i xs)) (map tree (drop i (let ys : List Term = [] in ys))) v
    nothing zero a = a
    nothing (suc i) a = a
list_over m d zero (x ∷ xs) (y ∷ ys) v h asked = absurd (let no : ⊥ = omega arith in no)
list_over m d (suc i) (x ∷ xs) (y ∷ ys) v h asked = list_over m d i xs ys v (omega arith) asked

pub entries_over : (m n i : ℕ) (xs : List SEntry) (ys : List Entry) (v : SchemeTree) → min (length xs) (length ys) ≤ i →
    EntriesDemand m n (map scheme_entry (drop i xs)) (map ground_entry (drop i ys)) v → ⊥
entries_over m n zero [] ys v h asked = asked
entries_over m n (suc i) [] ys v h asked = asked
entries_over m n zero (x ∷ xs) [] v h asked = asked
entries_over m n (suc i) (x ∷ xs) [] v h asked = entries_over m n i xs [] v (omega arith) (nothing i asked)
  where
    nothing : (i : ℕ) → EntriesDemand m n (map scheme_entry (drop i xs)) [] v → EntriesDemand m n (map scheme_entry (drop i xs)) (map ground_entry (drop i (let ys : List Entry = [] in ys))) v
    nothing zero a = a
    nothing (suc i) a = a
entries_over m n zero (x ∷ xs) (y ∷ ys) v h asked = absurd (let no : ⊥ = omega arith in no)
entries_over m n (suc i) (x ∷ xs) (y ∷ ys) v h asked = entries_over m n i xs ys v (omega arith) asked

-- one list, of which each element may ask
pub one_next : {A X : Type 0} (P : A → Type 0) (f : X → A) (xs : List X) (i : ℕ) (x : X) → i < length xs → x ≡ get_or xs i x →
    AnyByRecursion P (map f (drop i xs)) ↔ (P (f x) ⊎ AnyByRecursion P (map f (drop (i + 1) xs)))
one_next P f xs i x h e =
    subst (λ zs. AnyByRecursion P (map f zs) ↔ (P (f x) ⊎ AnyByRecursion P (map f (drop (i + 1) xs)))) (sym (drop_from xs i x h e)) (λ k. k, λ k. k)

pub none_left : {A X : Type 0} (P : A → Type 0) (f : X → A) (xs : List X) (i : ℕ) → length xs ≤ i → AnyByRecursion P (map f (drop i xs)) → ⊥
none_left P f xs i h any = subst (λ zs. AnyByRecursion P (map f zs)) (drop_all i xs h) any

-- the rest of a list, as it is seen
map_drop : {X A : Type 0} (f : X → A) (i : ℕ) (xs : List X) → map f (drop i xs) ≡ drop i (map f xs)
map_drop f zero xs = refl
map_drop f (suc i) [] = refl
map_drop f (suc i) (x ∷ xs) = map_drop f i xs

pub rest_seen : {X A : Type 0} (f : X → A) (over : List X) (seen : List A) (xs : List X) → map f over ≡ seen →
    map f (take (length xs - length over) (drop (length over) xs)) ≡ drop (length seen) (map f xs)
rest_seen f over seen xs e =
    ap (map f) (rest_taken xs (length over)) ∙ map_drop f (length over) xs
    ∙ ap (λ n. drop n (map f xs)) (sym (length-map over f) ∙ ap length e)

pub none_seen : {X A : Type 0} (f : X → A) (over : List X) (seen : List A) (xs : List X) → map f over ≡ seen → length xs < length over →
    [] ≡ drop (length seen) (map f xs)
none_seen f over seen xs e h =
    sym (drop_all (length seen) (map f xs) (omega (arith, h, length-map xs f, length-map over f, ap length e)))

-- one value more
pub asked_more : (P : ℕ → Option Tree → Type 0) (all new : List (Option Term)) (i : ℕ) (v : Term) → new ≡ all ++ Some v ∷ [] → P i (Some (tree v)) →
    (length all ≡ i) × AllNumbered P 0 (map (option_map tree) all) → (length new ≡ i + 1) × AllNumbered P 0 (map (option_map tree) new)
asked_more P all new i v e here so_far =
    let shown : map (option_map tree) new ≡ map (option_map tree) all ++ Some (tree v) ∷ [] =
    ap (map (option_map tree)) e ∙ map_append (option_map tree) all (Some v ∷ []) in
    let number : i ≡ 0 + length (map (option_map tree) all) = omega (arith, so_far.0, length-map all (option_map tree)) in (
      ap length e ∙ grind (arith, so_far.0, length-append),
      subst (AllNumbered P 0) (sym shown) (numbered_push P 0 (map (option_map tree) all) (Some (tree v)) so_far.1 (subst (λ n. P n (Some (tree v))) number here)),
    )
