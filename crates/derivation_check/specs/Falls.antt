-- Each premise is smaller than the tree that holds it.
use Rattle.std.specs.Prelude.{◌≡◌, ℕ, ◌+◌, ◌≤◌, List, [], ◌∷◌, Option, Some, None, MatchOption}
use Rattle.std.proofs.Common.{arith, subst, sym}
use denote.Param.Weighed.{most}
use Rattle.rule_schemes.specs.Rules.{JudgmentValue}
use Rattle.rule_schemes.specs.Derivation.{Derivation, size, sizes}
use Rattle.derivation_check.specs.Parts.{subtrees_of}
use Rattle.derivation_check.specs.View.{tree_at, derivation, IsCounted}
use Rattle.derivation_check.specs.declared.deriv.Node.{Node}
use Rattle.rule_schemes.specs.View.{judgment_value}

most_le-sizes : (ds : List Derivation) → most (λ d. size d + 1) ds ≤ sizes (subtrees_of ds) + 1
most_le-sizes [] = omega arith
most_le-sizes (d ∷ ds) = omega (arith, most_le-sizes ds)

most_le-size : (place : Option ℕ) (r : ℕ) (j : JudgmentValue) (ds : List Derivation) → MatchOption place (Unit {0}) (λ p. ds ≡ [])
    → most (λ d. size d + 1) ds ≤ size (tree_at place r j (subtrees_of ds))
most_le-size None r j ds h = most_le-sizes ds
most_le-size (Some p) r j ds h = subst (λ (es : List Derivation). most (λ d. size d + 1) es ≤ 1) (sym h) (omega arith)

pub premises_fall : (n : Node) → IsCounted n → most (λ d. size d + 1) n.premises.items ≤ size (derivation n)
premises_fall n counted = most_le-size n.place n.rule.0 (judgment_value n.conclusion) n.premises.items counted.leaf_alone
