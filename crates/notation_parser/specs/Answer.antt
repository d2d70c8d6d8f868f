-- What the answer to a reading says. Held against docs/notation.md on readings.
use Rattle.std.specs.Prelude.{◌≡◌, ◌<◌, ◌≤◌, List, [], ◌∷◌, length, map}
use Rattle.scheme_terms.specs.View.{known_variable}
use Rattle.binding_terms.specs.Signature.{Signature}
use Rattle.rule_schemes.specs.Reading.{Token, ReadingScope}
use Rattle.rule_schemes.specs.Said as said
use Rattle.rule_schemes.specs.Said.{Want, HasOneReading, HasNoReading, AreFirstTwo}
use Rattle.rule_schemes.specs.declared.rule.Judgment.{Judgment}
use Rattle.rule_schemes.specs.declared.reading.Reading.{Reading}
use Rattle.rule_schemes.specs.declared.reading.Reading.TheVariants.{One, NoReading, Ambiguous, TooLong}
use Rattle.notation_parser.specs.Ordered.{WrittenForm}
use Rattle.notation_parser.specs.View.{written, what_is_said}

-- The one reading, none, the first two of several in the reading order, or the number of tokens where these are more than 256.
abbrev pub IsAnswer : Signature → List Judgment → ReadingScope → Want → List Token → Reading → Type 0
IsAnswer sig js scope want ts (One w ms ks) =
    (length ts ≤ 256)
    × HasOneReading sig js scope (want ∷ []) ts (0, record { written = written w; metas = ms; knowns = map known_variable ks })
IsAnswer sig js scope want ts NoReading = (length ts ≤ 256) × HasNoReading sig js scope (want ∷ []) ts
IsAnswer sig js scope want ts (Ambiguous a b) =
    (length ts ≤ 256) × AreFirstTwo sig js scope (want ∷ []) ts (0, what_is_said a) (0, what_is_said b)
IsAnswer sig js scope want ts (TooLong k) = (k ≡ length ts) × (256 < k)

-- what a form says in which no new name stands
abbrev pub plainly : WrittenForm → said.Said
plainly x = record { written = x.0; metas = []; knowns = x.1 }

-- an answer that tells these readings
abbrev pub Tells : List WrittenForm → Reading → Type 0
Tells [] NoReading = Unit {0}
Tells (v ∷ []) (One w ms ks) = (written w ≡ v.0) × (ms ≡ []) × (map known_variable ks ≡ v.1)
Tells (v ∷ (w ∷ [])) (Ambiguous a b) = (what_is_said a ≡ plainly v) × (what_is_said b ≡ plainly w)
Tells _ _ = ⊥
