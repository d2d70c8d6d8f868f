-- What is read in one of several things, of which each stands before all that follow it where no front tells.
use Rattle.std.proofs.Common.{◌≡◌, ℕ, ◌+◌, ◌<◌, List, [], ◌∷◌, ◌++◌, length, map, take, drop, get_or, refl, ap, ◌∙◌, sym, subst, arith}
use Rattle.std.specs.List.{Contains}
use Rattle.std.proofs.lemmas.List.{take-append-drop, map-append}
use Rattle.term_reader.specs.Firsts.{listed, IsFull}
use Rattle.term_reader.specs.declared.firsts.Firsts.{Firsts}
use Rattle.term_reader.specs.declared.firsts.Firsts.TheVariants.{Nothing, One, Two}
use Rattle.notation_parser.specs.Fronts.{AreFirstAt, AreMerged}
use Rattle.notation_parser.proofs.FrontLemmas.{Either, AreRanked, first_same, first_enough, first_merged}
use Rattle.binding_terms.proofs.Lists.{list_around, some_in_both, some_in_more}

-- in one of these
abbrev pub InOneAt : {S F K A : Type 0} → (S → F → K → A → Type 0) → List S → F → K → A → Type 0
InOneAt {S} P all f k a = (s : S) × Contains all s × P s f k a

-- what is read in one of these stands before what is read in a later one, unless a front tells
abbrev pub AllRanked : {S F K A : Type 0} → (F → F → Type 0) → (K → K → Type 0) → (S → F → K → A → Type 0) → List S → Type 0
AllRanked {S} BeforeF Before P all = (xs ys : List S) → xs ++ ys ≡ all → (s t : S) → Contains xs s → Contains ys t → AreRanked BeforeF Before (P s) (P t)

pub ranked_none : {S F K A : Type 0} (Before : K → K → Type 0) (P : S → F → K → A → Type 0) → AreFirstAt Before (InOneAt P []) []
ranked_none Before P = λ f k a h. omega (arith, h.1.1)

module _ {R S F K A B : Type 0} (BeforeF : F → F → Type 0) (Before : K → K → Type 0) (trans : (j k l : K) → Before j k → Before k l → Before j l)
    (view : R → S) (tell : B → A × F) (P : S → F → K → A → Type 0) where
  -- with one more of them
  pub ranked_more : (all : List R) (j : ℕ) (here : R) (found more new : List (A × F)) → AllRanked BeforeF Before P (map view all) → j < length all → here ≡ get_or all j here
      → AreFirstAt Before (InOneAt P (map view (take j all))) found → AreFirstAt Before (P (view here)) more → AreMerged BeforeF found more new
      → AreFirstAt Before (InOneAt P (map view (take (j + 1) all))) new
  ranked_more all j here found more new ranked lt is f g merged =
      let front = map view (take j all) in
      let around = list_around view all j here lt is in
      subst (λ qs. AreFirstAt Before (InOneAt P qs) new) (sym around.0)
      (first_same Before (Either (InOneAt P front) (P (view here))) (InOneAt P (front ++ view here ∷ [])) new (λ f k a. some_in_more (λ s. P s f k a) front (view here))
      (first_merged BeforeF Before trans (InOneAt P front) (P (view here)) found more new (each front (λ s h. ranked front (view here ∷ map view (drop (j + 1) all)) around.1 s (view here) h (0, omega arith, refl)))
      f g merged))
    where
      each : (front : List S) → ((s : S) → Contains front s → AreRanked BeforeF Before (P s) (P (view here))) → AreRanked BeforeF Before (InOneAt P front) (P (view here))
      each front h = record {
        by_front = λ f g k l a x p q. (h p.0 p.1).by_front f g k l a x p.2 q;
        else_first = λ f g k l a x p q. (h p.0 p.1).else_first f g k l a x p.2 q;
      }

  -- two readings in the first ones are the first two where no front tells
  pub ranked_enough : (all : List R) (j : ℕ) (found : Firsts B) → AllRanked BeforeF Before P (map view all) → ((s t : S) (f g : F) (k l : K) (a x : A) → P s f k a → P t g l x → BeforeF g f → ⊥)
      → IsFull found → AreFirstAt Before (InOneAt P (map view (take j all))) (listed tell found) → AreFirstAt Before (InOneAt P (map view all)) (listed tell found)
  ranked_enough all j Nothing ranked none full f = absurd full
  ranked_enough all j (One a) ranked none full f = absurd full
  ranked_enough all j (Two a b) ranked none full f =
      let front = map view (take j all) in
      let behind = map view (drop j all) in
      let whole : front ++ behind ≡ map view all = sym (map-append view (take j all) (drop j all)) ∙ ap (map view) (take-append-drop j all) in
      subst (λ qs. AreFirstAt Before (InOneAt P qs) (listed tell (Two a b))) whole
      (first_same Before (Either (InOneAt P front) (InOneAt P behind)) (InOneAt P (front ++ behind)) (tell a ∷ (tell b ∷ [])) (λ f k a. some_in_both (λ s. P s f k a) front behind)
      (first_enough Before (InOneAt P front) (InOneAt P behind) (tell a) (tell b)
      (λ f g k l x y p q. (ranked front behind whole p.0 q.0 p.1 q.1).else_first f g k l x y p.2 q.2 (none p.0 q.0 f g k l x y p.2 q.2)) f))
