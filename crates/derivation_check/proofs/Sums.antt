-- What is counted over the premises.
use Rattle.std.proofs.Common.{◌≡◌, ℕ, ◌+◌, ◌-◌, ◌^◌, ◌<◌, ◌≤◌, min, max, List, [], ◌∷◌, ◌++◌, length, get_or, take, sum_by, refl, ap, ◌∙◌, sym, subst, arith}
use Rattle.std.specs.Prelude.{Option, Some, None, MatchOption}
use Rattle.std.proofs.lemmas.List.Sums.{sum_by-cons}
use Rattle.std.proofs.lemmas.List.{take_all, take_more}
use Rattle.rule_schemes.specs.Derivation.{Derivation, size, sizes, height, heights}
use Rattle.rule_schemes.specs.Rules.{JudgmentValue}
use Rattle.rule_schemes.specs.View.{judgment_value}
use Rattle.derivation_check.specs.Parts.{subtrees_of, listed, premises_of}
use Rattle.derivation_check.specs.View.{tree_at, derivation, IsCounted}
use Rattle.derivation_check.specs.declared.deriv.Node.{Node}

pub all_sizes : (ds : List Derivation) → sizes (subtrees_of ds) ≡ sum_by size ds
all_sizes [] = refl
all_sizes (d ∷ ds) = ap (λ n. size d + n) (all_sizes ds) ∙ sym (sum_by-cons size d ds)

pub done_sizes : (ds : List Derivation) (i : ℕ) → length ds ≤ i → sum_by size (take i ds) ≡ sizes (subtrees_of ds)
done_sizes ds i h = rw (take_all i ds h) (sym (all_sizes ds))

pub done_heights : (ds : List Derivation) (i : ℕ) → length ds ≤ i → heights (subtrees_of (take i ds)) ≡ heights (subtrees_of ds)
done_heights ds i h = rw (take_all i ds h) refl

pub listed_again : (ds : List Derivation) → listed (subtrees_of ds) ≡ ds
listed_again [] = refl
listed_again (d ∷ ds) = ap (λ es. d ∷ es) (listed_again ds)

pub heights_append : (ds : List Derivation) (d : Derivation) → heights (subtrees_of (ds ++ d ∷ [])) ≡ max (heights (subtrees_of ds)) (height d)
heights_append [] d = omega arith
heights_append (e ∷ ds) d = omega (arith, heights_append ds d)

pub more_heights : (ds : List Derivation) (i : ℕ) (d : Derivation) → i < length ds → d ≡ get_or ds i d
    → heights (subtrees_of (take (i + 1) ds)) ≡ max (heights (subtrees_of (take i ds))) (height d)
more_heights ds i d h e =
    ap (λ es. heights (subtrees_of es)) (take_more ds i d h)
    ∙ (λ k. heights (subtrees_of (take i ds ++ sym e k ∷ [])))
    ∙ heights_append (take i ds) d

pub capped_max : (m b r f g : ℕ) → r ≡ max m b → m ≡ min f (2 ^ 64 - 1) → b ≡ min g (2 ^ 64 - 1) → r ≡ min (max f g) (2 ^ 64 - 1)
capped_max m b r f g d e h = omega arith

pub sizes_append : (ds es : List Derivation) → sizes (subtrees_of (ds ++ es)) ≡ sizes (subtrees_of ds) + sizes (subtrees_of es)
sizes_append [] es = omega arith
sizes_append (d ∷ ds) es = omega (arith, sizes_append ds es)

-- what a node keeps are the premises of its tree
premises_at : (place : Option ℕ) (r : ℕ) (j : JudgmentValue) (ds : List Derivation) → MatchOption place (Unit {0}) (λ p. ds ≡ [])
    → premises_of (tree_at place r j (subtrees_of ds)) ≡ ds
premises_at None r j ds h = listed_again ds
premises_at (Some p) r j ds h = sym h

pub premises_kept : (n : Node) → IsCounted n → premises_of (derivation n) ≡ n.premises.items
premises_kept n counted = premises_at n.place n.rule.0 (judgment_value n.conclusion) n.premises.items counted.leaf_alone

sizes_at : (place : Option ℕ) (r : ℕ) (j : JudgmentValue) (ds : List Derivation) → MatchOption place (Unit {0}) (λ p. ds ≡ [])
    → sizes (subtrees_of ds) < size (tree_at place r j (subtrees_of ds))
sizes_at None r j ds h = omega arith
sizes_at (Some p) r j ds h = subst (λ (es : List Derivation). sizes (subtrees_of es) < 1) (sym h) (omega arith)

pub sizes_fall : (n : Node) → IsCounted n → sizes (subtrees_of n.premises.items) < size (derivation n)
sizes_fall n counted = sizes_at n.place n.rule.0 (judgment_value n.conclusion) n.premises.items counted.leaf_alone
