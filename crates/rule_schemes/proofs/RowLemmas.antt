-- Rows of marks: one mark more, the rows without a rule, and what a rule more does to them.
use Rattle.std.proofs.Common.{◌≡◌, ◌↔◌, ◌⊎◌, ◌<◌, ◌+◌, ℕ, zero, suc, Bool, true, IsTrue, List, [], ◌∷◌, ◌++◌, length, get_or, Option, Some, None, MatchOption, slice_get, inl, inr, refl, ap, ◌∙◌, sym, subst, arith}
use Rattle.std.specs.List.{AllByRecursion}
use Rattle.std.proofs.lemmas.List.{length_push}
use Rattle.std.proofs.lemmas.Option.{get_or_from_slice_get, slice_get-get_or, slice_get_within}
use Rattle.binding_terms.specs.Numbered.{AnyByRecursion}
use Rattle.binding_terms.specs.Reach.{IsMarked}
use Rattle.binding_terms.proofs.Lists.{all_numbered, numbered_at, numbered_match_at}
use Rattle.rule_schemes.specs.Rows.{AreMarks, AreRows, HasAlsoAt}
use Rattle.rule_schemes.specs.Rules.{Rule, JudgmentScheme, Below, itself, premise}
use Rattle.rule_schemes.specs.Touching.{IsMarkedIn, AreBelowRows, HasJudgments}
use Rattle.rule_schemes.proofs.BelowLemmas.{BelowWith, Below-split, Below-joined}

pushed : (P : ℕ → Type 0) (marks : List Bool) (b : Bool) → ((y : ℕ) → y < length marks → IsMarked marks y ↔ P y) → (IsTrue b ↔ P (length marks))
    → (y : ℕ) → y < length marks + 1 → IsMarked (marks ++ b ∷ []) y ↔ P y
pushed P [] b right last zero lt = (λ e. last.0 (let k : b ≡ true = cc in k), λ p. ap Some (last.1 p))
pushed P [] b right last (suc y) lt = absurd (omega (arith, lt))
pushed P (m ∷ ms) b right last zero lt = right zero (omega arith)
pushed P (m ∷ ms) b right last (suc y) lt = pushed (λ k. P (suc k)) ms b (λ k l. right (suc k) (omega (arith, l))) last y (omega (arith, lt))

-- one mark more
pub AreMarks-push : (n : ℕ) (P : ℕ → Type 0) (marks : List Bool) (b : Bool) → AreMarks n P marks → (IsTrue b ↔ P n) → AreMarks (n + 1) P (marks ++ b ∷ [])
AreMarks-push n P marks b are last =
    record {
      long = length_push marks b ∙ ap (λ k. k + 1) are.long;
      right = λ y lt. pushed P marks b (λ k l. are.right k (let m : k < n = omega (arith, l, are.long) in m))
          (subst (λ k. IsTrue b ↔ P k) (sym are.long) last) y (omega (arith, lt, are.long));
    }

-- without a rule each judgment stands below itself alone
below_itself : (x y : ℕ) → Below [] x y → x ≡ y
below_itself x y itself = refl
below_itself x y (premise k n below has) = absurd has

pub own_marks : (n x : ℕ) (marks : List Bool) → AreMarks n (λ y. x ≡ y) marks → AreMarks n (Below [] x) marks
own_marks n x marks are =
    record {
      long = are.long;
      right = λ y lt. (λ m. subst (λ k. Below [] x k) ((are.right y lt).0 m) itself, λ below. (are.right y lt).1 (below_itself x y below));
    }

-- what the rows mark
pub AreRows-below : (n : ℕ) (rules : List Rule) (rows : List (List Bool)) → AreRows n rules rows → AreBelowRows n rules rows
AreRows-below n rules rows are x y x_within y_within =
    inside (slice_get rows x)
    (subst (λ k. MatchOption (slice_get rows x) ⊥ (AreMarks n (Below rules k))) (let e : 0 + x ≡ x = omega arith in e)
    (numbered_match_at (λ k marks. AreMarks n (Below rules k) marks) 0 rows x are.each (omega (arith, x_within, are.long))))
  where
    inside : (o : Option (List Bool)) → MatchOption o ⊥ (AreMarks n (Below rules x)) → MatchOption o ⊥ (λ marks. slice_get marks y ≡ Some true) ↔ Below rules x y
    inside None h = absurd h
    inside (Some marks) h = h.right y y_within

module _ (n : ℕ) (rules : List Rule) (r : Rule) (old : List (List Bool)) (are : AreRows n rules old) (range : HasJudgments n r) where
  below_premise : (y : ℕ) → y < n → (ps : List JudgmentScheme) → AllByRecursion (λ p. p.judgment < n) ps
      → AnyByRecursion (λ p. IsMarkedIn old p.judgment y) ps → AnyByRecursion (λ p. Below rules p.judgment y) ps
  below_premise y within [] all any = any
  below_premise y within (p ∷ ps) all (inl marked) = inl ((AreRows-below n rules old are p.judgment y all.0 within).0 marked)
  below_premise y within (p ∷ ps) all (inr any) = inr (below_premise y within ps all.1 any)

  marked_premise : (y : ℕ) → y < n → (ps : List JudgmentScheme) → AllByRecursion (λ p. p.judgment < n) ps
      → AnyByRecursion (λ p. Below rules p.judgment y) ps → AnyByRecursion (λ p. IsMarkedIn old p.judgment y) ps
  marked_premise y within [] all any = any
  marked_premise y within (p ∷ ps) all (inl below) = inl ((AreRows-below n rules old are p.judgment y all.0 within).1 below)
  marked_premise y within (p ∷ ps) all (inr any) = inr (marked_premise y within ps all.1 any)

  module _ (more : List Bool) (premises : AreMarks n (λ y. AnyByRecursion (λ p. IsMarkedIn old p.judgment y) r.premises) more) where
    -- one row
    row_with : (x : ℕ) (row new : List Bool) → AreMarks n (Below rules x) row → HasAlsoAt r.conclusion.judgment row more new → AreMarks n (Below (rules ++ r ∷ []) x) new
    row_with x row new marks also = record { long = also.long ∙ marks.long; right = λ y lt. (λ m. there y lt ((also.right y (within y lt)).0 m), λ below. (also.right y (within y lt)).1 (back y lt (Below-split rules r below))) }
      where
        within : (y : ℕ) → y < n → y < length row
        within y lt = omega (arith, lt, marks.long)

        there : (y : ℕ) → y < n → IsMarked row y ⊎ (IsMarked row r.conclusion.judgment × IsMarked more y) → Below (rules ++ r ∷ []) x y
        there y lt (inl m) = Below-joined rules r x y (inl ((marks.right y lt).0 m))
        there y lt (inr m) =
            Below-joined rules r x y
            (inr ((marks.right r.conclusion.judgment range.conclusion).0 m.0, below_premise y lt r.premises range.premises ((premises.right y lt).0 m.1)))

        back : (y : ℕ) → y < n → BelowWith rules r x y → IsMarked row y ⊎ (IsMarked row r.conclusion.judgment × IsMarked more y)
        back y lt (inl below) = inl ((marks.right y lt).1 below)
        back y lt (inr new_way) =
            inr ((marks.right r.conclusion.judgment range.conclusion).1 new_way.0, (premises.right y lt).1 (marked_premise y lt r.premises range.premises new_way.1))

    -- all rows
    pub AreRows-with_rule : (new : List (List Bool)) → length new ≡ length old
        → ((x : ℕ) → x < length old → HasAlsoAt r.conclusion.judgment (get_or old x []) more (get_or new x [])) → AreRows n (rules ++ r ∷ []) new
    AreRows-with_rule new long also = record { long = long ∙ are.long; each = all_numbered (λ x marks. AreMarks n (Below (rules ++ r ∷ []) x) marks) 0 new at }
      where
        at : (x : ℕ) (marks : List Bool) → slice_get new x ≡ Some marks → AreMarks n (Below (rules ++ r ∷ []) (0 + x)) marks
        at x marks e =
            let within : x < length old = omega (arith, slice_get_within new x marks e, long) in
            let row = get_or old x [] in
            let same : get_or new x [] ≡ marks = get_or_from_slice_get new x marks [] e in
            row_with (0 + x) row marks (numbered_at (λ k m. AreMarks n (Below rules k) m) 0 old x row are.each (slice_get-get_or old x [] within))
            (subst (λ m. HasAlsoAt r.conclusion.judgment row more m) same (also x within))
