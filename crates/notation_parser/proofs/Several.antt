-- What is read in one of several things, of which each stands before all that follow it.
use Rattle.std.proofs.Common.{◌≡◌, ◌⊎◌, ◌↔◌, ℕ, ◌+◌, ◌<◌, List, [], ◌∷◌, ◌++◌, length, map, take, drop, get_or, inl, inr, refl, ap, ◌∙◌, sym, subst, arith}
use Rattle.std.specs.List.{Contains}
use Rattle.std.proofs.lemmas.List.{drop_more, take-append-drop, map_more, map-append}
use Rattle.std.proofs.lemmas.List.Elements.{Contains-push, Contains-push_cases, Contains-append_left, Contains-append_right, Contains-append_cases}
use Rattle.term_reader.specs.Firsts.{listed, AreFirst, AreJoined, IsFull}
use Rattle.term_reader.specs.declared.firsts.Firsts.{Firsts}
use Rattle.term_reader.proofs.Finding.{AreFirst-same, AreFirst-joined, AreFirst-full}
use Rattle.binding_terms.proofs.Lists.{list_around, some_in_both, some_in_more}

-- in one of these
abbrev pub InOneOf : {S K A : Type 0} → (S → K → A → Type 0) → List S → K → A → Type 0
InOneOf {S} P all k a = (s : S) × Contains all s × P s k a

-- what is read in one of these stands before what is read in a later one
abbrev pub AreApart : {S K A : Type 0} → (K → K → Type 0) → (S → K → A → Type 0) → List S → Type 0
AreApart {S} {K} {A} Before P all =
    (xs ys : List S) → xs ++ ys ≡ all → (s t : S) → Contains xs s → Contains ys t → (k l : K) (a x : A) → P s k a → P t l x → Before k l

module _ {R S K A B : Type 0} (Before : K → K → Type 0) (view : R → S) (tell : B → A) (P : S → K → A → Type 0) where
  -- with one more of them
  pub several_more : (all : List R) (j : ℕ) (here : R) (found more new : List A) → AreApart Before P (map view all) → j < length all → here ≡ get_or all j here
      → AreFirst Before (InOneOf P (map view (take j all))) found → AreFirst Before (P (view here)) more → AreJoined found more new
      → AreFirst Before (InOneOf P (map view (take (j + 1) all))) new
  several_more all j here found more new apart lt is f g joined =
      let front = map view (take j all) in
      let around = list_around view all j here lt is in
      subst (λ qs. AreFirst Before (InOneOf P qs) new) (sym around.0)
      (AreFirst-same Before _ (InOneOf P (front ++ view here ∷ [])) new (λ k a. some_in_more (λ s. P s k a) front (view here))
      (AreFirst-joined Before (InOneOf P front) (P (view here)) found more new
      (λ k l a x h i. apart front (view here ∷ map view (drop (j + 1) all)) around.1 h.0 (view here) h.1 (0, omega arith, refl) k l a x h.2 i) joined f g))

  -- two readings in the first ones are the first two
  pub several_enough : (all : List R) (j : ℕ) (found : Firsts B) → AreApart Before P (map view all) → IsFull found
      → AreFirst Before (InOneOf P (map view (take j all))) (listed tell found) → AreFirst Before (InOneOf P (map view all)) (listed tell found)
  several_enough all j found apart full f =
      let front = map view (take j all) in
      let behind = map view (drop j all) in
      let whole : front ++ behind ≡ map view all = sym (map-append view (take j all) (drop j all)) ∙ ap (map view) (take-append-drop j all) in
      subst (λ qs. AreFirst Before (InOneOf P qs) (listed tell found)) whole
      (AreFirst-same Before _ (InOneOf P (front ++ behind)) _ (λ k a. some_in_both (λ s. P s k a) front behind)
      (AreFirst-full Before tell (InOneOf P front) (InOneOf P behind) found full
      (λ k l a x h i. apart front behind whole h.0 i.0 h.1 i.1 k l a x h.2 i.2) f))

pub several_none : {S K A : Type 0} (Before : K → K → Type 0) (P : S → K → A → Type 0) → AreFirst Before (InOneOf P []) []
several_none Before P = λ k a h. omega (arith, h.1.1)
