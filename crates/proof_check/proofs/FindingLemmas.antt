-- Lists that begin with what was found.
use Rattle.std.proofs.Common.{◌≡◌, ◌<◌, ◌+◌, ℕ, List, [], ◌∷◌, ◌++◌, Some, None, ◌≤◌, length, get_or, drop, sym, ap, subst, ◌∙◌, append_assoc}
use Rattle.std.proofs.lemmas.List.{append-nil, drop_more}
use Rattle.std.specs.List.{AllZip}
use Rattle.proof_check.specs.Finding.{Finds, Begins}
use Rattle.binding_terms.proofs.Lists.{zip_empty}

pub begins_then : {A : Type 0} (P Q R : List A → Type 0) (f g : List A) → Begins P Q f → Begins Q R g → Begins P R (f ++ g)
begins_then P Q R f g a b = record {
  sound = λ rest h. subst P (sym (append_assoc f g rest)) (a.sound (g ++ rest) (b.sound rest h));
  complete = λ all h.
      let c = a.complete all h in
      let d = b.complete c.0 c.2 in
      (d.0, c.1 ∙ ap (λ r. f ++ r) d.1 ∙ sym (append_assoc f g d.0), d.2);
}

-- all is found where nothing can follow
pub finds_all : {A : Type 0} (P Q : List A → Type 0) (f : List A) → Begins P Q f → Q [] → ((rest : List A) → Q rest → rest ≡ []) → Finds P (Some f)
finds_all P Q f b q only = (
  subst P (append-nil f) (b.sound [] q),
  λ all h. (let c = b.complete all h in c.1 ∙ ap (λ r. f ++ r) (only c.0 c.2) ∙ append-nil f),
)

pub finds_none : {A : Type 0} (P Q : List A → Type 0) (f : List A) → Begins P Q f → ((rest : List A) → Q rest → ⊥) → Finds P None
finds_none P Q f b none all h = (let c = b.complete all h in none c.0 c.2)

-- lists that go with another one, place by place
zip_whole : {A B : Type 0} (C : A → B → Type 0) (a : A) (rest : List A) (n : B) → Finds (C a) (Some n) → (all : List B) → AllZip C (a ∷ rest) all →
    (ns : List B) × (all ≡ (n ∷ []) ++ ns) × AllZip C rest ns
zip_whole C a rest n f [] h = absurd h
zip_whole C a rest n f (m ∷ ms) h = (ms, ap (λ k. k ∷ ms) (f.1 m h.0), h.1)

pub zip_some : {A B : Type 0} (C : A → B → Type 0) (a : A) (rest : List A) (n : B) → Finds (C a) (Some n) → Begins (AllZip C (a ∷ rest)) (AllZip C rest) (n ∷ [])
zip_some C a rest n f = record { sound = λ ns h. (f.0, h); complete = zip_whole C a rest n f }

pub zip_none : {A B : Type 0} (C : A → B → Type 0) (a : A) (rest : List A) → Finds (C a) None → (ns : List B) → AllZip C (a ∷ rest) ns → ⊥
zip_none C a rest f [] h = h
zip_none C a rest f (n ∷ ns) h = f n h.0

-- the same in a loop over a list that is seen in another way
module _ {X A B : Type 0} (V : List X → List A) (v : X → A) (same : (x : X) (xs : List X) → V (x ∷ xs) ≡ v x ∷ V xs) (C : A → B → Type 0) where
  pub zip_turn : (xs : List X) (i : ℕ) (d : X) (n : B) → i < length xs → Finds (C (v (get_or xs i d))) (Some n) →
      Begins (AllZip C (V (drop i xs))) (AllZip C (V (drop (i + 1) xs))) (n ∷ [])
  zip_turn xs i d n lt f =
      let e : V (drop i xs) ≡ v (get_or xs i d) ∷ V (drop (i + 1) xs) = ap V (drop_more xs i d lt) ∙ same (get_or xs i d) (drop (i + 1) xs) in
      subst (λ (ys : List A). Begins (AllZip C ys) (AllZip C (V (drop (i + 1) xs))) (n ∷ [])) (sym e) (zip_some C (v (get_or xs i d)) (V (drop (i + 1) xs)) n f)

  pub zip_stop : (xs : List X) (i : ℕ) (d : X) → i < length xs → Finds (C (v (get_or xs i d))) None → (ns : List B) → AllZip C (V (drop i xs)) ns → ⊥
  zip_stop xs i d lt f ns h =
      let e : V (drop i xs) ≡ v (get_or xs i d) ∷ V (drop (i + 1) xs) = ap V (drop_more xs i d lt) ∙ same (get_or xs i d) (drop (i + 1) xs) in
      zip_none C (v (get_or xs i d)) (V (drop (i + 1) xs)) f ns (subst (λ (ys : List A). AllZip C ys ns) e h)

  pub zip_past : (xs : List X) (i : ℕ) → length xs ≤ i → V [] ≡ [] → drop i xs ≡ [] → (AllZip C (V (drop i xs)) []) × ((ns : List B) → AllZip C (V (drop i xs)) ns → ns ≡ [])
  zip_past xs i past empty gone =
      let e : V (drop i xs) ≡ [] = ap V gone ∙ empty in
      (subst (λ (ys : List A). AllZip C ys []) (sym e) tt, λ ns h. zip_empty C ns (subst (λ (ys : List A). AllZip C ys ns) e h))
