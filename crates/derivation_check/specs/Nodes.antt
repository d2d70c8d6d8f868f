-- Which nodes of a tree are right, and which is the first that is not. To be held against docs/notation.md, 'Derivation texts'.
use Rattle.std.specs.Prelude.{◌≡◌, ◌<◌, ◌⊎◌, ℕ, List, [], ◌∷◌, slice_get, MatchOption}
use Rattle.rule_schemes.specs.Rules.{Theory}
use Rattle.rule_schemes.specs.Derivation.{Derivation, node, leaf, IsNode, IsLeaf}
use Rattle.derivation_check.specs.Parts.{premises_of}

-- the tree's first node is right, where each subtree is taken to be a derivation of the judgment that it carries
abbrev pub IsRightNode : Theory → Derivation → Type 0
IsRightNode th (node r j ds) = IsNode th r j ds
IsRightNode th (leaf r j place) = IsLeaf th r j place

-- The node at a path stands there, and is not right. A path goes down by the numbers of premises, which count from 0.
abbrev pub IsWrongAt : Theory → Derivation → (path : List ℕ) → Type 0
IsWrongAt th d [] = IsRightNode th d → ⊥
IsWrongAt th d (i ∷ path) = MatchOption (slice_get (premises_of d) i) ⊥ (λ e. IsWrongAt th e path)

-- In pre-order the node at the first path comes before that at the second, or is it: a node comes before its subtrees, and these
-- in their order.
abbrev pub Precedes : (first second : List ℕ) → Type 0
Precedes [] second = Unit {0}
Precedes (i ∷ first) [] = ⊥
Precedes (i ∷ first) (k ∷ second) = (i < k) ⊎ ((i ≡ k) × Precedes first second)

-- the path of the first node in pre-order that is not right
pub record IsFirstWrong (th : Theory) (d : Derivation) (path : List ℕ) : Type 0 where
  pub wrong : IsWrongAt th d path
  pub first : (other : List ℕ) → IsWrongAt th d other → Precedes path other
