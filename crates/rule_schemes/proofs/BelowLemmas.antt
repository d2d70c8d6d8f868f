-- What stands below a judgment with one rule more.
use Rattle.std.proofs.Common.{◌≡◌, ◌⊎◌, ℕ, List, [], ◌∷◌, ◌++◌, inl, inr, refl, sym, subst}
use Rattle.binding_terms.specs.Numbered.{AnyByRecursion}
use Rattle.binding_terms.proofs.Lists.{any_front, any_back, any_split, any_map, all_always}
use Rattle.rule_schemes.specs.Rules.{Rule, JudgmentScheme, Below, itself, premise}

-- a rule of the judgment has a premise of the other
abbrev pub HasPremise : (judgment below : ℕ) → Rule → Type 0
HasPremise k n r = (r.conclusion.judgment ≡ k) × AnyByRecursion (λ p. p.judgment ≡ n) r.premises

pub Below-trans : {rules : List Rule} {x y z : ℕ} → Below rules x y → Below rules y z → Below rules x z
Below-trans xy itself = xy
Below-trans xy (premise k n yk has) = premise k n (Below-trans xy yk) has

pub Below-more : (rules more : List Rule) {x y : ℕ} → Below rules x y → Below (rules ++ more) x y
Below-more rules more itself = itself
Below-more rules more (premise k n below has) = premise k n (Below-more rules more below) (any_front (HasPremise k n) rules more has)

-- below the second judgment by the one rule, or without it
abbrev pub BelowWith : List Rule → Rule → (judgment below : ℕ) → Type 0
BelowWith rules r x y =
    Below rules x y ⊎ (Below rules x r.conclusion.judgment × AnyByRecursion (λ p. Below rules p.judgment y) r.premises)

one_lower : (rules : List Rule) (k n : ℕ) → AnyByRecursion (HasPremise k n) rules → (ps : List JudgmentScheme)
    → AnyByRecursion (λ p. Below rules p.judgment k) ps → AnyByRecursion (λ p. Below rules p.judgment n) ps
one_lower rules k n has ps any =
    any_map (λ p. Below rules p.judgment k) (λ p. Below rules p.judgment n) ps (all_always _ (λ p below. premise k n below has) ps) any

starts : (rules : List Rule) (n : ℕ) (ps : List JudgmentScheme) → AnyByRecursion (λ p. p.judgment ≡ n) ps → AnyByRecursion (λ p. Below rules p.judgment n) ps
starts rules n ps any =
    any_map (λ p. p.judgment ≡ n) (λ p. Below rules p.judgment n) ps (all_always _ (λ p e. subst (λ m. Below rules p.judgment m) e itself) ps) any

pub Below-split : (rules : List Rule) (r : Rule) {x y : ℕ} → Below (rules ++ r ∷ []) x y → BelowWith rules r x y
Below-split rules r itself = inl itself
Below-split rules r {x} (premise k n below has) = step (Below-split rules r below) (any_split (HasPremise k n) rules (r ∷ []) has)
  where
    step : BelowWith rules r x k → AnyByRecursion (HasPremise k n) rules ⊎ AnyByRecursion (HasPremise k n) (r ∷ []) → BelowWith rules r x n
    step (inl old) (inl h) = inl (premise k n old h)
    step (inl old) (inr (inl h)) = inr (subst (Below rules x) (sym h.0) old, starts rules n r.premises h.1)
    step (inl old) (inr (inr h)) = absurd h
    step (inr new) (inl h) = inr (new.0, one_lower rules k n h r.premises new.1)
    step (inr new) (inr (inl h)) = inr (new.0, starts rules n r.premises h.1)
    step (inr new) (inr (inr h)) = absurd h

pub Below-joined : (rules : List Rule) (r : Rule) (x y : ℕ) → BelowWith rules r x y → Below (rules ++ r ∷ []) x y
Below-joined rules r x y (inl old) = Below-more rules (r ∷ []) old
Below-joined rules r x y (inr new) = go r.premises (λ n any. any_back (HasPremise r.conclusion.judgment n) rules (r ∷ []) (inl (refl, any))) new.1
  where
    go : (ps : List JudgmentScheme) → ((n : ℕ) → AnyByRecursion (λ p. p.judgment ≡ n) ps → AnyByRecursion (HasPremise r.conclusion.judgment n) (rules ++ r ∷ []))
        → AnyByRecursion (λ p. Below rules p.judgment y) ps → Below (rules ++ r ∷ []) x y
    go [] has any = absurd any
    go (p ∷ ps) has (inl below) =
        Below-trans (premise r.conclusion.judgment p.judgment (Below-more rules (r ∷ []) new.0) (has p.judgment (inl refl))) (Below-more rules (r ∷ []) below)
    go (p ∷ ps) has (inr any) = go ps (λ n h. has n (inr h)) any
