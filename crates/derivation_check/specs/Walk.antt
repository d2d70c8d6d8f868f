-- How far the walk over a tree has come. No public clause cites it.
use Rattle.std.specs.Prelude.{◌≡◌, ℕ, zero, suc, ◌+◌, ◌-◌, ◌*◌, List, [], ◌∷◌, take, drop, map, slice_get, MatchOption}
use Rattle.std.specs.List.{AllByRecursion}
use Rattle.rule_schemes.specs.Rules.{Theory}
use Rattle.rule_schemes.specs.Derivation.{Derivation, Derives, sizes}
use Rattle.derivation_check.specs.Parts.{premises_of, subtrees_of}
use Rattle.derivation_check.specs.Nodes.{IsRightNode}
use Rattle.derivation_check.specs.declared.check.Frame.{Frame}

-- a tree that the walk is in, and how many of its premises it went into
pub record Stop : Type 0 where
  pub tree : Derivation
  pub gone : ℕ

abbrev pub stop : Frame → Stop
stop f = record { tree = f.tree.now; gone = f.gone }

-- with so many premises gone into, all before the last are derivations, and of the last it is so
abbrev pub GoneInto : Theory → List Derivation → (gone : ℕ) → (nothing : Type 0) → (Derivation → Type 0) → Type 0
GoneInto th ds zero nothing P = nothing
GoneInto th ds (suc n) nothing P = AllByRecursion (Derives th) (take n ds) × MatchOption (slice_get ds n) ⊥ P

-- With the outermost tree first: each is right, the premises before the last that the walk went into are derivations, and this
-- one is walked as the rest says, or where nothing is left, is a derivation.
abbrev pub Walks : Theory → Derivation → List Stop → Type 0
Walks th d [] = Derives th d
Walks th d (s ∷ left) = (s.tree ≡ d) × IsRightNode th d × GoneInto th (premises_of d) s.gone (left ≡ []) (λ e. Walks th e left)

abbrev pub Went : Theory → List Derivation → (gone : ℕ) → List Stop → Type 0
Went th ds n left = GoneInto th ds n (left ≡ []) (λ e. Walks th e left)

-- the path of the last premise that the walk went into
abbrev pub path_of : List Stop → List ℕ
path_of left = map (λ s. s.gone - 1) left

-- what falls from turn to turn
abbrev pub weight : Stop → ℕ
weight s = 1 + 2 * sizes (subtrees_of (drop s.gone (premises_of s.tree)))

abbrev pub weights : List Stop → ℕ
weights [] = 0
weights (s ∷ left) = weight s + weights left
