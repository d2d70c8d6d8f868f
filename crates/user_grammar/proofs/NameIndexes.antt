-- Names with look-up by name.
use Rattle.std.proofs.Common.{◌≡◌, ◌≢◌, ◌↔◌, Option, None, Some, slice_get, suc, zero-add, add-zero, arith, Bool, true, false, ◌||◌, IsTrue, ◌⊎◌, ◌<◌, ◌+◌, ◌++◌, ℕ, List, [], ◌∷◌, map, length, get_or, take, refl, ap, ◌∙◌, sym, subst, inl, inr, if◌then◌else◌, bytes_eq, Bor}
use Rattle.std.specs.Prelude.{position, MatchOption}
use Rattle.std.specs.List.{list_any, position_from}
use Rattle.std.proofs.lemmas.Iterator.Adapters.{position_from-zero}
use Rattle.std.proofs.lemmas.List.{take_more, map-append}
use Rattle.std.proofs.lemmas.Slice.Eq.{bytes_eq-Decides}
use Rattle.user_grammar.specs.Names.{AllDiffer, IsAmong}
use Rattle.user_grammar.specs.Indexed.{HaveSame, IsAdded}
use Rattle.binding_terms.proofs.Lists.{all_front, all_right, any_back, any_front, any_split}

abbrev texts_of : List (Bor (List ℕ)) → List (List ℕ)
texts_of keys = map (λ key. key.now) keys

-- a look-up finds the names
found_first : (word key : List ℕ) (rest : Bool) (P : Type 0) → (IsTrue rest ↔ P) → (b : Bool) → bytes_eq word key ≡ b → IsTrue (b || rest) ↔ ((key ≡ word) ⊎ P)
found_first word key rest P is true e = ((λ t. inl (sym ((bytes_eq-Decides word key).0 e))), (λ any. refl))
found_first word key rest P is false e = (
  (λ t. inr (is.0 t)),
  (λ any. elim any [
    | inl same ↦ absurd (let never : false ≡ true = sym e ∙ (bytes_eq-Decides word key).1 (sym same) in cc)
    | inr more ↦ is.1 more
  ]),
)

pub found_among : (keys : List (Bor (List ℕ))) (word : List ℕ) → IsTrue (list_any (λ (key : Bor (List ℕ)). bytes_eq word key.now) keys) ↔ IsAmong (map (λ key. key.now) keys) word
found_among [] word = ((λ t. (let never : false ≡ true = t in cc)), (λ any. absurd any))
found_among (key ∷ keys) word =
    found_first word key.now (list_any (λ (one : Bor (List ℕ)). bytes_eq word one.now) keys) (IsAmong (map (λ (one : Bor (List ℕ)). one.now) keys) word) (found_among keys word)
    (bytes_eq word key.now) refl

pub by_answer : (answer found : Bool) (P : Type 0) → answer ≡ found → (IsTrue found ↔ P) → IsTrue answer ↔ P
by_answer answer found P same is = ((λ t. is.0 (sym same ∙ t)), (λ p. same ∙ is.1 p))

-- what an insert leaves
added_where : (keys : List (Bor (List ℕ))) (name : Bor (List ℕ)) (b : Bool) → (IsTrue b ↔ IsAmong (texts_of keys) name.now)
    → IsAdded (texts_of keys) name.now (texts_of (if b then keys else keys ++ name ∷ []))
added_where keys name true is = inl (is.0 refl, refl)
added_where keys name false is = inr ((λ any. (let never : false ≡ true = is.1 any in cc)), map-append (λ (key : Bor (List ℕ)). key.now) keys (name ∷ []))

pub added_name : (keys new : List (Bor (List ℕ))) (name : Bor (List ℕ))
    → new ≡ (if list_any (λ (key : Bor (List ℕ)). bytes_eq name.now key.now) keys then keys else keys ++ name ∷ [])
    → IsAdded (map (λ key. key.now) keys) name.now (map (λ key. key.now) new)
added_name keys new name same =
    subst (λ ks. IsAdded (texts_of keys) name.now (texts_of ks)) (sym same)
    (added_where keys name (list_any (λ (key : Bor (List ℕ)). bytes_eq name.now key.now) keys) (found_among keys name.now))

-- a name was added where these are its members
pub added_among : (old : List (List ℕ)) (name : List ℕ) (new : List (List ℕ)) → IsAdded old name new → (text : List ℕ) → IsAmong new text ↔ (IsAmong old text ⊎ (name ≡ text))
added_among old name new (inl is) text = (
  (λ any. inl (subst (λ ns. IsAmong ns text) is.1 any)),
  (λ either. elim either [ inl l ↦ subst (λ ns. IsAmong ns text) (sym is.1) l | inr r ↦ subst (λ ns. IsAmong ns text) (sym is.1) (subst (IsAmong old) r is.0) ]),
)
added_among old name new (inr is) text = (
  (λ any. elim (any_split (λ one. one ≡ text) old (name ∷ []) (subst (λ ns. IsAmong ns text) is.1 any)) [
    | inl l ↦ inl l
    | inr r ↦ elim r [ inl same ↦ inr same | inr never ↦ absurd never ]
  ]),
  (λ either. subst (λ ns. IsAmong ns text) (sym is.1) (elim either [
    | inl l ↦ any_front (λ one. one ≡ text) old (name ∷ []) l
    | inr same ↦ any_back (λ one. one ≡ text) old (name ∷ []) (inl same)
  ])),
)

-- one text more was added
pub same_one_more : (old texts : List (List ℕ)) (name : List ℕ) (new : List (List ℕ)) → IsAdded old name new → HaveSame old texts → HaveSame new (texts ++ name ∷ [])
same_one_more old texts name new added same text =
    let members = added_among old name new added text in (
      (λ any. elim (members.0 any) [
        | inl l ↦ any_front (λ one. one ≡ text) texts (name ∷ []) ((same text).0 l)
        | inr r ↦ any_back (λ one. one ≡ text) texts (name ∷ []) (inl r)
      ]),
      (λ any. elim (any_split (λ one. one ≡ text) texts (name ∷ []) any) [
        | inl l ↦ members.1 (inl ((same text).1 l))
        | inr r ↦ elim r [ inl is ↦ members.1 (inr is) | inr never ↦ absurd never ]
      ]),
    )

pub same_more : (xs : List (Bor (List ℕ))) (i : ℕ) (d : Bor (List ℕ)) (old new : List (List ℕ)) → i < length xs → IsAdded old (get_or xs i d).now new
    → HaveSame old (map (λ x. x.now) (take i xs)) → HaveSame new (map (λ x. x.now) (take (i + 1) xs))
same_more xs i d old new lt added same =
    let more : texts_of (take i xs) ++ (get_or xs i d).now ∷ [] ≡ texts_of (take (i + 1) xs) =
    sym (map-append (λ (x : Bor (List ℕ)). x.now) (take i xs) (get_or xs i d ∷ [])) ∙ ap texts_of (sym (take_more xs i d lt)) in
    subst (HaveSame new) more (same_one_more old (texts_of (take i xs)) (get_or xs i d).now new added same)

-- ---- the place of a name

placed_first : (word key : List ℕ) (texts : List (List ℕ)) (later : Option ℕ) (i : ℕ) (b : Bool) → bytes_eq word key ≡ b
    → MatchOption later (IsAmong texts word → ⊥) (λ n. (m : ℕ) × (n ≡ i + 1 + m) × (slice_get texts m ≡ Some word))
    → MatchOption (if b then Some i else later) (IsAmong (key ∷ texts) word → ⊥) (λ n. (m : ℕ) × (n ≡ i + m) × (slice_get (key ∷ texts) m ≡ Some word))
placed_first word key texts later i true e more = (0, sym (add-zero i), ap Some (sym ((bytes_eq-Decides word key).0 e)))
placed_first word key texts None i false e none = λ any. elim any [
  | inl same ↦ absurd (let never : false ≡ true = sym e ∙ (bytes_eq-Decides word key).1 (sym same) in cc)
  | inr rest ↦ none rest
]
placed_first word key texts (Some n) i false e at = (suc at.0, (let far : n ≡ i + 1 + at.0 = at.1 in omega arith), at.2)

placed_from : (keys : List (Bor (List ℕ))) (word : List ℕ) (i : ℕ)
    → MatchOption (position_from (λ (key : Bor (List ℕ)). bytes_eq word key.now) i keys) (IsAmong (texts_of keys) word → ⊥)
    (λ n. (m : ℕ) × (n ≡ i + m) × (slice_get (texts_of keys) m ≡ Some word))
placed_from [] word i = λ any. any
placed_from (key ∷ keys) word i =
    placed_first word key.now (texts_of keys) (position_from (λ (one : Bor (List ℕ)). bytes_eq word one.now) (i + 1) keys) i (bytes_eq word key.now) refl
    (placed_from keys word (i + 1))

from_zero : (texts : List (List ℕ)) (word : List ℕ) (found : Option ℕ)
    → MatchOption found (IsAmong texts word → ⊥) (λ n. (m : ℕ) × (n ≡ 0 + m) × (slice_get texts m ≡ Some word))
    → MatchOption found (IsAmong texts word → ⊥) (λ n. slice_get texts n ≡ Some word)
from_zero texts word None none = none
from_zero texts word (Some n) at = subst (λ k. slice_get texts k ≡ Some word) (sym (at.1 ∙ zero-add at.0)) at.2

-- a look-up finds the place of a name
pub placed : (keys : List (Bor (List ℕ))) (word : List ℕ) (found : Option ℕ) → found ≡ position (λ (key : Bor (List ℕ)). bytes_eq word key.now) keys
    → MatchOption found (IsAmong (map (λ key. key.now) keys) word → ⊥) (λ n. slice_get (map (λ key. key.now) keys) n ≡ Some word)
placed keys word found same =
    subst (λ o. MatchOption o (IsAmong (texts_of keys) word → ⊥) (λ n. slice_get (texts_of keys) n ≡ Some word))
    (sym (same ∙ position_from-zero (λ (key : Bor (List ℕ)). bytes_eq word key.now) keys))
    (from_zero (texts_of keys) word (position_from (λ (key : Bor (List ℕ)). bytes_eq word key.now) 0 keys) (placed_from keys word 0))

-- ---- names none of which stands twice

last_differs : (texts : List (List ℕ)) (name : List ℕ) → AllDiffer (texts ++ name ∷ []) → IsAmong texts name → ⊥
last_differs [] name differ any = any
last_differs (text ∷ texts) name differ (inl same) = (all_right (λ (other : List ℕ). text ≢ other) texts (name ∷ []) differ.0).0 same
last_differs (text ∷ texts) name differ (inr any) = last_differs texts name differ.1 any

front_differs : (texts : List (List ℕ)) (name : List ℕ) → AllDiffer (texts ++ name ∷ []) → AllDiffer texts
front_differs [] name differ = tt
front_differs (text ∷ texts) name differ = (all_front (λ (other : List ℕ). text ≢ other) texts (name ∷ []) differ.0, front_differs texts name differ.1)

order_one_more : (old texts : List (List ℕ)) (name : List ℕ) (new : List (List ℕ)) → IsAdded old name new → (AllDiffer texts → old ≡ texts)
    → AllDiffer (texts ++ name ∷ []) → new ≡ texts ++ name ∷ []
order_one_more old texts name new (inl is) same differ =
    absurd (last_differs texts name differ (subst (λ ts. IsAmong ts name) (same (front_differs texts name differ)) is.0))
order_one_more old texts name new (inr is) same differ = is.1 ∙ ap (λ ts. ts ++ name ∷ []) (same (front_differs texts name differ))

-- one text more was added, of which none stands twice
pub order_more : (xs : List (Bor (List ℕ))) (i : ℕ) (d : Bor (List ℕ)) (old new : List (List ℕ)) → i < length xs → IsAdded old (get_or xs i d).now new
    → (AllDiffer (map (λ x. x.now) (take i xs)) → old ≡ map (λ x. x.now) (take i xs)) → AllDiffer (map (λ x. x.now) (take (i + 1) xs)) → new ≡ map (λ x. x.now) (take (i + 1) xs)
order_more xs i d old new lt added same =
    let more : texts_of (take i xs) ++ (get_or xs i d).now ∷ [] ≡ texts_of (take (i + 1) xs) =
    sym (map-append (λ (x : Bor (List ℕ)). x.now) (take i xs) (get_or xs i d ∷ [])) ∙ ap texts_of (sym (take_more xs i d lt)) in
    subst (λ ts. AllDiffer ts → new ≡ ts) more (order_one_more old (texts_of (take i xs)) (get_or xs i d).now new added same)
