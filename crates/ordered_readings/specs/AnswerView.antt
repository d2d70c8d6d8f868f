-- What answers stand for: readings with their places in the reading order. Held against docs/notation.md, the reading order.
use Rattle.std.specs.Prelude.{◌≡◌, ℕ, ◌+◌, List, [], ◌∷◌, length}
use Rattle.scheme_terms.specs.SchemeTree.{SchemeTree, meta, known, local, con, value, part}
use Rattle.rule_schemes.specs.Said.{Way, way, Ways, no_ways, then_way}
use Rattle.ordered_readings.specs.NodeView.{reading}
use Rattle.ordered_readings.specs.declared.answers.Answers.{Answers}
use Rattle.ordered_readings.specs.declared.answers.Answers.TheVariants.{Nothing, One, Two}

abbrev pub answers : Answers → List (Way × SchemeTree)
answers Nothing = []
answers (One a) = reading a ∷ []
answers (Two a b) = reading a ∷ reading b ∷ []

-- the place of a slot of that length before what stands behind it
abbrev pub slot_place : ℕ → Way → Way → Way
slot_place n w (way a ls ws) = way a (n ∷ ls) (then_way w ws)

-- a scheme with one more part or value before the others
abbrev pub with_first : ℕ → SchemeTree → SchemeTree → SchemeTree
with_first n s (con p xs) = con p (part n s xs)
with_first n s (meta m vs) = meta m (value s vs)
with_first n s (known k) = known k
with_first n s (local i) = local i

-- a slot of that length, which binds so many, before what stands behind it
abbrev pub behind : (length binds : ℕ) → Way × SchemeTree → Way × SchemeTree → Way × SchemeTree
behind n m d e = (slot_place n d.0 e.0, with_first m d.1 e.1)

abbrev pub count : Ways → ℕ
count no_ways = 0
count (then_way w ws) = count ws + 1

-- each slot has a length, as at all places but those of forms in parentheses
abbrev pub IsRow : Way → Type 0
IsRow (way a ls ws) = length ls ≡ count ws

abbrev pub AreRows : List (Way × SchemeTree) → Type 0
AreRows [] = Unit {0}
AreRows (d ∷ ds) = IsRow d.0 × AreRows ds
