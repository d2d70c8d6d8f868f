-- The first metavariable without a strict occurrence, one step down the list.
use Rattle.std.proofs.Common.{◌≡◌, ℕ, suc, ◌+◌, ◌<◌, List, [], ◌∷◌, length, drop, inl, inr, refl, subst, sym, arith, add-one}
use Rattle.std.proofs.lemmas.List.{drop_more}
use Rattle.binding_terms.specs.Numbered.{AllNumbered}
use Rattle.scheme_terms.specs.declared.scheme.MetaDecl.{MetaDecl}
use Rattle.rule_schemes.specs.Rules.{Rule, StrictInRule}
use Rattle.rule_schemes.specs.Refused.{IsFirstUnstrict}

abbrev All : Rule → ℕ → List MetaDecl → Type 0
All r n ds = AllNumbered (λ m decl. StrictInRule r m) n ds

-- it is the first of what is left
pub first_here : (r : Rule) (ds : List MetaDecl) (i : ℕ) → i < length ds → (StrictInRule r i → ⊥) → IsFirstUnstrict r i (drop i ds) i
first_here r [] i h not_strict = absurd (omega (arith, h))
first_here r (d ∷ ds) i h not_strict =
    subst (λ (l : List MetaDecl). IsFirstUnstrict r i l i) (sym (drop_more (d ∷ ds) i d h)) (inl (refl, not_strict))

-- the first of what is left one step on is the first of what is left
pub first_later : (r : Rule) (ds : List MetaDecl) (i m : ℕ) → i < length ds → StrictInRule r i
    → IsFirstUnstrict r (i + 1) (drop (i + 1) ds) m → IsFirstUnstrict r i (drop i ds) m
first_later r [] i m h yes_i first = absurd (omega (arith, h))
first_later r (d ∷ ds) i m h yes_i first =
    subst (λ (l : List MetaDecl). IsFirstUnstrict r i l m) (sym (drop_more (d ∷ ds) i d h))
    (inr (yes_i, subst (λ (n : ℕ). IsFirstUnstrict r n (drop (i + 1) (d ∷ ds)) m) (add-one i) first))

pub all_later : (r : Rule) (ds : List MetaDecl) (i : ℕ) → i < length ds → StrictInRule r i
    → All r (i + 1) (drop (i + 1) ds) → All r i (drop i ds)
all_later r [] i h yes_i all = absurd (omega (arith, h))
all_later r (d ∷ ds) i h yes_i all =
    subst (λ (l : List MetaDecl). All r i l) (sym (drop_more (d ∷ ds) i d h))
    (yes_i, subst (λ (n : ℕ). All r n (drop (i + 1) (d ∷ ds))) (add-one i) all)

-- there is one first, and none where all are strict
pub first_unique : (r : Rule) (ds : List MetaDecl) (n k m : ℕ) → IsFirstUnstrict r n ds k → IsFirstUnstrict r n ds m → k ≡ m
first_unique r [] n k m a b = absurd a
first_unique r (d ∷ ds) n k m (inl a) (inl b) = omega (arith, a.0, b.0)
first_unique r (d ∷ ds) n k m (inl a) (inr b) = absurd (a.1 b.0)
first_unique r (d ∷ ds) n k m (inr a) (inl b) = absurd (b.1 a.0)
first_unique r (d ∷ ds) n k m (inr a) (inr b) = first_unique r ds (suc n) k m a.1 b.1

pub first_not_all : (r : Rule) (ds : List MetaDecl) (n k : ℕ) → IsFirstUnstrict r n ds k → All r n ds → ⊥
first_not_all r [] n k a all = a
first_not_all r (d ∷ ds) n k (inl a) all = a.1 all.0
first_not_all r (d ∷ ds) n k (inr a) all = first_not_all r ds (suc n) k a.1 all.1
