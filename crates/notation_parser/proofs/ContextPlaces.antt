-- Which slot of a form takes the context: the only one of its category.
use Rattle.std.proofs.Common.{◌≡◌, ◌≢◌, ◌==◌, cond, ℕ, zero, suc, ◌+◌, ◌<◌, List, [], ◌∷◌, length, take, refl, ap, ◌∙◌, sym, subst, arith, Some, slice_get}
use Rattle.std.specs.Prelude.{count_by}
use Rattle.std.specs.List.{AllByRecursion}
use Rattle.std.proofs.lemmas.Bool.{eq-eqb, ne_eqb}
use Rattle.std.proofs.lemmas.List.Sums.{sum_by-cons, count_by-le-length}
use Rattle.binding_terms.specs.Signature.{Place}
use Rattle.term_reader.specs.Splitting.{SlotRange}
use Rattle.notation_parser.specs.Forms.{IsContextPlace}

-- one more place is counted or not
one_counted : (c : ℕ) (s : Place) (ss : List Place) → count_by (λ t. t.cat == c) (s ∷ ss) ≡ cond (s.cat == c) 1 0 + count_by (λ t. t.cat == c) ss
one_counted c s ss = sum_by-cons (λ (t : Place). cond (t.cat == c) 1 0) s ss

pub none_counted : (c : ℕ) (ss : List Place) → count_by (λ s. s.cat == c) ss ≡ 0 → AllByRecursion (λ s. s.cat ≢ c) ss
none_counted c [] e = tt
none_counted c (s ∷ ss) e = (differs, none_counted c ss rest)
  where
    both : cond (s.cat == c) 1 0 + count_by (λ t. t.cat == c) ss ≡ 0
    both = sym (one_counted c s ss) ∙ e

    rest : count_by (λ t. t.cat == c) ss ≡ 0
    rest = omega (arith, both)

    differs : s.cat ≢ c
    differs same =
        let one : 1 + count_by (λ t. t.cat == c) ss ≡ 0 = ap (λ t. cond t 1 0 + count_by (λ t. t.cat == c) ss) (sym (eq-eqb s.cat c same)) ∙ both in
        omega (arith, one)

-- where there are no places, none is counted
pub one_of_none : (c : ℕ) → count_by (λ (s : Place). s.cat == c) [] ≡ 1 → ⊥
one_of_none c e = let few = count_by-le-length (λ (s : Place). s.cat == c) [] in omega (arith, few, e)

-- behind the only one there is none
pub none_behind : (c : ℕ) (s : Place) (ss : List Place) → count_by (λ t. t.cat == c) (s ∷ ss) ≡ 1 → s.cat ≡ c → AllByRecursion (λ t. t.cat ≢ c) ss
none_behind c s ss e same = none_counted c ss rest
  where
    rest : count_by (λ t. t.cat == c) ss ≡ 0
    rest =
        let one : 1 + count_by (λ t. t.cat == c) ss ≡ 1 =
        ap (λ t. cond t 1 0 + count_by (λ t. t.cat == c) ss) (sym (eq-eqb s.cat c same)) ∙ sym (one_counted c s ss) ∙ e in
        omega (arith, one)

-- behind another one there is still one
pub one_behind : (c : ℕ) (s : Place) (ss : List Place) → count_by (λ t. t.cat == c) (s ∷ ss) ≡ 1 → s.cat ≢ c → count_by (λ t. t.cat == c) ss ≡ 1
one_behind c s ss e other =
    let none : 0 + count_by (λ t. t.cat == c) ss ≡ 1 =
    ap (λ t. cond t 1 0 + count_by (λ t. t.cat == c) ss) (sym (ne_eqb s.cat c other)) ∙ sym (one_counted c s ss) ∙ e in
    omega (arith, none)

-- no slot of the category, or the first of them
pub no_place : (c n : ℕ) (ps : List SlotRange) → AllByRecursion (λ p. p.cat.0 ≢ c) ps → IsContextPlace c n ps → ⊥
no_place c n [] none h = h
no_place c zero (p ∷ ps) none h = none.0 h
no_place c (suc n) (p ∷ ps) none h = no_place c n ps none.1 h.1

pub place_found : (c n : ℕ) (ps : List SlotRange) (p : SlotRange) → AllByRecursion (λ q. q.cat.0 ≢ c) (take n ps) → slice_get ps n ≡ Some p → p.cat.0 ≡ c → IsContextPlace c n ps
place_found c n [] p none e same = absurd (cc)
place_found c zero (q ∷ ps) p none e same = let here : q ≡ p = cc in subst (λ x. x.cat.0 ≡ c) (sym here) same
place_found c (suc n) (q ∷ ps) p none e same = (none.0, place_found c n ps p none.1 e same)

pub one_place : (c m n : ℕ) (ps : List SlotRange) → IsContextPlace c m ps → IsContextPlace c n ps → m ≡ n
one_place c m n [] h k = absurd h
one_place c zero zero (p ∷ ps) h k = refl
one_place c zero (suc n) (p ∷ ps) h k = absurd (k.0 h)
one_place c (suc m) zero (p ∷ ps) h k = absurd (h.0 k)
one_place c (suc m) (suc n) (p ∷ ps) h k = ap suc (one_place c m n ps h.1 k.1)

pub place_within : (c n : ℕ) (ps : List SlotRange) → IsContextPlace c n ps → n < length ps
place_within c n [] h = absurd h
place_within c zero (p ∷ ps) h = omega arith
place_within c (suc n) (p ∷ ps) h = let more = place_within c n ps h.1 in omega (arith, more)
