-- The plain tree that a derivation is.
use Rattle.std.specs.Prelude.{◌≡◌, ℕ, ◌-◌, ◌^◌, min, [], Option, Some, None, MatchOption}
use Rattle.rule_schemes.specs.Rules.{JudgmentValue}
use Rattle.rule_schemes.specs.View.{judgment_value}
use Rattle.rule_schemes.specs.Derivation.{Derivation, node, leaf, Subtrees, size, height}
use Rattle.derivation_check.specs.Parts.{subtrees_of}
use Rattle.derivation_check.specs.declared.deriv.Node.{Node}

-- a leaf where it has a place, else a node
abbrev pub tree_at : Option ℕ → (rule : ℕ) → JudgmentValue → Subtrees → Derivation
tree_at None r j ds = node r j ds
tree_at (Some place) r j ds = leaf r j place

abbrev pub derivation : Node → Derivation
derivation n = tree_at n.place n.rule.0 (judgment_value n.conclusion) (subtrees_of n.premises.items)

-- the counts that are kept are those of the tree, and a leaf has no premise
pub record IsCounted (n : Node) : Type 0 where
  pub size : n.size ≡ min (size (derivation n)) (2 ^ 64 - 1)
  pub height : n.height ≡ min (height (derivation n)) (2 ^ 64 - 1)
  pub leaf_alone : MatchOption n.place (Unit {0}) (λ place. n.premises.items ≡ [])
