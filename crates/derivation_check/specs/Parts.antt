-- The parts of a derivation.
use Rattle.std.specs.Prelude.{ℕ, List, [], ◌∷◌, Option, Some, None}
use Rattle.rule_schemes.specs.Derivation.{Derivation, node, leaf, Subtrees, no_more, subtree}

abbrev pub subtrees_of : List Derivation → Subtrees
subtrees_of [] = no_more
subtrees_of (d ∷ ds) = subtree d (subtrees_of ds)

-- the subtrees as a list
abbrev pub listed : Subtrees → List Derivation
listed no_more = []
listed (subtree d ds) = d ∷ listed ds

abbrev pub rule_of : Derivation → ℕ
rule_of (node r j ds) = r
rule_of (leaf r j place) = r

-- the place of the context that a leaf stands for
abbrev pub place_of : Derivation → Option ℕ
place_of (node r j ds) = None
place_of (leaf r j place) = Some place

abbrev pub premises_of : Derivation → List Derivation
premises_of (node r j ds) = listed ds
premises_of (leaf r j place) = []
