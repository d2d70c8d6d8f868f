-- How the blocks of a file nest, and what stands in which. To be held against the rows from 'theorem' to 'case of a term' in 'Outline' of docs/notation.md.
use Rattle.std.specs.Prelude.{codes, ◌≡◌, ℕ, List, [], ◌∷◌}
use Rattle.outline_reader.specs.declared.fault.Part.{Part}
use Rattle.outline_reader.specs.declared.fault.Part.TheVariants as part
use Rattle.outline_reader.specs.Plain.{PlainJustification, by_cases, by_induction, PlainPortion, theorem_of, step_of, inversion, case_rule, case_term, end_line, HasPortions}

-- the text is the word of a theorem, or that of a lemma
abbrev pub IsWordOf : List ℕ → Part → Type 0
IsWordOf text part.Theorem = text ≡ codes "theorem"
IsWordOf text part.Lemma = text ≡ codes "lemma"
IsWordOf text _ = ⊥

-- steps may stand here: the innermost open part is a theorem, a lemma or a case
abbrev pub HoldsSteps : List Part → Type 0
HoldsSteps (part.Theorem ∷ outer) = Unit {0}
HoldsSteps (part.Lemma ∷ outer) = Unit {0}
HoldsSteps (part.Case ∷ outer) = Unit {0}
HoldsSteps _ = ⊥

-- cases may stand here: the innermost open part is a block
abbrev pub HoldsCases : List Part → Type 0
HoldsCases (part.CaseAnalysis ∷ outer) = Unit {0}
HoldsCases (part.Induction ∷ outer) = Unit {0}
HoldsCases _ = ⊥

-- what is open behind a step: a step by case analysis or by induction opens a block
abbrev pub behind_step : PlainJustification → List Part → List Part
behind_step (by_cases subject) blocks = part.CaseAnalysis ∷ blocks
behind_step (by_induction subject) blocks = part.Induction ∷ blocks
behind_step _ blocks = blocks

-- The portions may stand where these parts are open, innermost first. A theorem opens what its word names, a block and a case open
-- themselves, and an `end` line ends the innermost open part, which it names. Behind the last portion nothing is open.
abbrev pub AreNested : List Part → List PlainPortion → Type 0
AreNested blocks [] = blocks ≡ []
AreNested blocks (theorem_of first joined word name assumes inputs outputs targets ∷ rest) =
    (blocks ≡ []) × ((kind : Part) × IsWordOf word.text kind × AreNested (kind ∷ []) rest)
AreNested blocks (step_of first names forms why ∷ rest) = HoldsSteps blocks × AreNested (behind_step why blocks) rest
AreNested blocks (inversion first subject premises name conclusion ∷ rest) = HoldsSteps blocks × AreNested blocks rest
AreNested blocks (case_rule first premises name conclusion ∷ rest) = HoldsCases blocks × AreNested (part.Case ∷ blocks) rest
AreNested blocks (case_term first form assumes ∷ rest) = HoldsCases blocks × AreNested (part.Case ∷ blocks) rest
AreNested blocks (end_line first ended ∷ rest) = (outer : List Part) × (blocks ≡ ended ∷ outer) × AreNested outer rest
AreNested blocks (_ ∷ rest) = (blocks ≡ []) × AreNested blocks rest

-- the portions of a source nest
abbrev pub PortionsAreNested : Type 0
PortionsAreNested = (source : List ℕ) (portions : List PlainPortion) → HasPortions source portions → AreNested [] portions
