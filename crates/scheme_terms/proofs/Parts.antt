-- What is done to lists of schemes is done to each of them.
use Rattle.std.proofs.Common.{◌≡◌, ℕ, ◌+◌, ◌<◌, ◌≤◌, get_or, List, [], ◌∷◌, length, take, map, refl, ap, ◌∙◌, sym, option_map, unwrap_or, slice_get}
use Rattle.std.proofs.lemmas.Option.{slice_get-map}
use Rattle.std.proofs.lemmas.List.{take_all, get_or-map, length-map}
use Rattle.scheme_terms.specs.SchemeTree.{SchemeTree, local, value, values, part, shifted, shifted_values, shifted_parts, under, filled, filled_values, filled_parts}
use Rattle.scheme_terms.specs.Substituting.{scheme_for, applied, applied_values, applied_parts}
use Rattle.scheme_terms.proofs.SchemeFilling.{under_under}
use Rattle.scheme_terms.specs.View.{scheme, parts_of, scheme_part, scheme_parts}
use Rattle.scheme_terms.specs.declared.scheme.Scheme.{Scheme}
use Rattle.scheme_terms.specs.declared.scheme.SArg.{SArg}

pub done_copied_values : (all args : List Scheme) (i : ℕ) → length args ≤ i → map scheme all ≡ map scheme (take i args) → map scheme all ≡ map scheme args
done_copied_values all args i h e = e ∙ ap (map scheme) (take_all i args h)

pub done_copied_parts : (all parts : List SArg) (i : ℕ) → length parts ≤ i → map scheme_part all ≡ map scheme_part (take i parts)
    → map scheme_part all ≡ map scheme_part parts
done_copied_parts all parts i h e = e ∙ ap (map scheme_part) (take_all i parts h)

all_shifted : (cut by : ℕ) (ss : List SchemeTree) → shifted_values cut by (values ss) ≡ values (map (shifted cut by) ss)
all_shifted cut by [] = refl
all_shifted cut by (s ∷ ss) = ap (value (shifted cut by s)) (all_shifted cut by ss)

pub done_shifted_values : (cut by : ℕ) (all args : List Scheme) (i : ℕ) → length args ≤ i
    → map scheme all ≡ map (shifted cut by) (map scheme (take i args)) → values (map scheme all) ≡ shifted_values cut by (values (map scheme args))
done_shifted_values cut by all args i h e =
    ap values (e ∙ ap (λ xs. map (shifted cut by) (map scheme xs)) (take_all i args h)) ∙ sym (all_shifted cut by (map scheme args))

abbrev pub shifted_part : ℕ → ℕ → ℕ × SchemeTree → ℕ × SchemeTree
shifted_part cut by a = (a.0, shifted (cut + a.0) by a.1)

all_parts_shifted : (cut by : ℕ) (xs : List (ℕ × SchemeTree)) → shifted_parts cut by (parts_of xs) ≡ parts_of (map (shifted_part cut by) xs)
all_parts_shifted cut by [] = refl
all_parts_shifted cut by (a ∷ xs) = ap (part a.0 (shifted (cut + a.0) by a.1)) (all_parts_shifted cut by xs)

pub done_shifted_parts : (cut by : ℕ) (all parts : List SArg) (i : ℕ) → length parts ≤ i
    → map scheme_part all ≡ map (shifted_part cut by) (map scheme_part (take i parts)) → scheme_parts all ≡ shifted_parts cut by (scheme_parts parts)
done_shifted_parts cut by all parts i h e =
    ap parts_of (e ∙ ap (λ xs. map (shifted_part cut by) (map scheme_part xs)) (take_all i parts h)) ∙ sym (all_parts_shifted cut by (map scheme_part parts))

all_filled : (f : ℕ → SchemeTree) (ss : List SchemeTree) → filled_values f (values ss) ≡ values (map (filled f) ss)
all_filled f [] = refl
all_filled f (s ∷ ss) = ap (value (filled f s)) (all_filled f ss)

pub done_filled_values : (f : ℕ → SchemeTree) (all own : List Scheme) (i : ℕ) → length own ≤ i
    → map scheme all ≡ map (filled f) (map scheme (take i own)) → values (map scheme all) ≡ filled_values f (values (map scheme own))
done_filled_values f all own i h e =
    ap values (e ∙ ap (λ xs. map (filled f) (map scheme xs)) (take_all i own h)) ∙ sym (all_filled f (map scheme own))

abbrev pub filled_part : (ℕ → ℕ → SchemeTree) → ℕ × SchemeTree → ℕ × SchemeTree
filled_part f a = (a.0, filled (f a.0) a.1)

all_parts_filled : (depth : ℕ) (f : ℕ → SchemeTree) (xs : List (ℕ × SchemeTree)) →
    filled_parts (under depth f) (parts_of xs) ≡ parts_of (map (filled_part (λ n. under (depth + n) f)) xs)
all_parts_filled depth f [] = refl
all_parts_filled depth f (a ∷ xs) =
    ap (λ g. part a.0 (filled g a.1) (filled_parts (under depth f) (parts_of xs))) (under_under depth a.0 f)
    ∙ ap (part a.0 (filled (under (depth + a.0) f) a.1)) (all_parts_filled depth f xs)

pub done_filled_parts : (depth : ℕ) (f : ℕ → SchemeTree) (all parts : List SArg) (i : ℕ) → length parts ≤ i
    → map scheme_part all ≡ map (filled_part (λ n. under (depth + n) f)) (map scheme_part (take i parts))
    → scheme_parts all ≡ filled_parts (under depth f) (scheme_parts parts)
done_filled_parts depth f all parts i h e =
    ap parts_of (e ∙ ap (λ xs. map (filled_part (λ n. under (depth + n) f)) (map scheme_part xs)) (take_all i parts h))
    ∙ sym (all_parts_filled depth f (map scheme_part parts))

pub all_applied : (ss : List SchemeTree) (ks : List ℕ) (d : ℕ) (xs : List SchemeTree) → applied_values ss ks d (values xs) ≡ map (applied ss ks d) xs
all_applied ss ks d [] = refl
all_applied ss ks d (s ∷ xs) = ap (λ ts. applied ss ks d s ∷ ts) (all_applied ss ks d xs)

pub done_applied_values : (ss : List SchemeTree) (ks : List ℕ) (d : ℕ) (all args : List Scheme) (i : ℕ) → length args ≤ i
    → map scheme all ≡ map (applied ss ks d) (map scheme (take i args)) → map scheme all ≡ applied_values ss ks d (values (map scheme args))
done_applied_values ss ks d all args i h e =
    e ∙ ap (λ xs. map (applied ss ks d) (map scheme xs)) (take_all i args h) ∙ sym (all_applied ss ks d (map scheme args))

abbrev pub applied_part : List SchemeTree → List ℕ → ℕ → ℕ × SchemeTree → ℕ × SchemeTree
applied_part ss ks d a = (a.0, applied ss ks (d + a.0) a.1)

all_parts_applied : (ss : List SchemeTree) (ks : List ℕ) (d : ℕ) (xs : List (ℕ × SchemeTree)) →
    applied_parts ss ks d (parts_of xs) ≡ parts_of (map (applied_part ss ks d) xs)
all_parts_applied ss ks d [] = refl
all_parts_applied ss ks d (a ∷ xs) = ap (part a.0 (applied ss ks (d + a.0) a.1)) (all_parts_applied ss ks d xs)

pub done_applied_parts : (ss : List SchemeTree) (ks : List ℕ) (d : ℕ) (all parts : List SArg) (i : ℕ) → length parts ≤ i
    → map scheme_part all ≡ map (applied_part ss ks d) (map scheme_part (take i parts)) → scheme_parts all ≡ applied_parts ss ks d (scheme_parts parts)
done_applied_parts ss ks d all parts i h e =
    ap parts_of (e ∙ ap (λ xs. map (applied_part ss ks d) (map scheme_part xs)) (take_all i parts h)) ∙ sym (all_parts_applied ss ks d (map scheme_part parts))

-- lists that are the same are the same one by one
values_same : (xs ys : List SchemeTree) → values xs ≡ values ys → xs ≡ ys
values_same [] [] e = refl
values_same [] (y ∷ ys) e = cc
values_same (x ∷ xs) [] e = cc
values_same (x ∷ xs) (y ∷ ys) e =
    let more : xs ≡ ys = values_same xs ys cc in
    let first : x ≡ y = cc in
    cc

parts_same : (xs ys : List (ℕ × SchemeTree)) → parts_of xs ≡ parts_of ys → xs ≡ ys
parts_same [] [] e = refl
parts_same [] (y ∷ ys) e = cc
parts_same (x ∷ xs) [] e = cc
parts_same (x ∷ xs) (y ∷ ys) e =
    let more : xs ≡ ys = parts_same xs ys cc in
    let binds : x.0 ≡ y.0 = cc in
    let body : x.1 ≡ y.1 = cc in
    let first : x ≡ y = λ i. (binds i, body i) in
    cc

pub same_length_values : (xs ys : List Scheme) → values (map scheme xs) ≡ values (map scheme ys) → length xs ≡ length ys
same_length_values xs ys e = sym (length-map xs scheme) ∙ ap length (values_same _ _ e) ∙ length-map ys scheme

pub same_value_at : (xs ys : List Scheme) (i : ℕ) (a b : Scheme) → i < length xs → i < length ys → values (map scheme xs) ≡ values (map scheme ys)
    → a ≡ get_or xs i a → b ≡ get_or ys i b → scheme a ≡ scheme b
same_value_at xs ys i a b h k e p q =
    let same : map scheme xs ≡ map scheme ys = values_same _ _ e in
    ap scheme p ∙ sym (get_or-map scheme xs i a (scheme b) h)
    ∙ ap (λ zs. get_or zs i (scheme b)) same ∙ get_or-map scheme ys i b (scheme b) k ∙ ap scheme (sym q)

pub same_length_parts : (xs ys : List SArg) → scheme_parts xs ≡ scheme_parts ys → length xs ≡ length ys
same_length_parts xs ys e = sym (length-map xs scheme_part) ∙ ap length (parts_same _ _ e) ∙ length-map ys scheme_part

pub same_part_at : (xs ys : List SArg) (i : ℕ) (a b : SArg) → i < length xs → i < length ys → scheme_parts xs ≡ scheme_parts ys
    → a ≡ get_or xs i a → b ≡ get_or ys i b → scheme_part a ≡ scheme_part b
same_part_at xs ys i a b h k e p q =
    let same : map scheme_part xs ≡ map scheme_part ys = parts_same _ _ e in
    ap scheme_part p ∙ sym (get_or-map scheme_part xs i a (scheme_part b) h)
    ∙ ap (λ zs. get_or zs i (scheme_part b)) same ∙ get_or-map scheme_part ys i b (scheme_part b) k ∙ ap scheme_part (sym q)

pub scheme_seen : (ss : List Scheme) (m : ℕ) → scheme_for (map scheme ss) m ≡ unwrap_or (option_map scheme (slice_get ss m)) (local 0)
scheme_seen ss m = rw slice_get-map refl
