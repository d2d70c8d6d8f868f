-- What a reading over all candidates says: those that it uses are its new metavariables. Held against docs/notation.md on new names.
use Rattle.std.specs.Prelude.{◌≡◌, ◌≢◌, ◌↔◌, ◌⊎◌, ℕ, zero, suc, ◌+◌, ◌-◌, ◌<◌, Bool, true, false, IsTrue, nat_lt, if◌then◌else◌, List, [], ◌∷◌, length, map}
use Rattle.binding_terms.specs.Numbered.{AllNumbered}
use Rattle.binding_terms.specs.Signature.{Signature}
use Rattle.scheme_terms.specs.Forms.{KnownVariable}
use Rattle.scheme_terms.specs.View.{known_variable}
use Rattle.scheme_terms.specs.declared.scheme.MetaDecl.{MetaDecl}
use Rattle.rule_schemes.specs.Reading.{Token, ReadingScope, not_fresh}
use Rattle.rule_schemes.specs.Said.{Written, Said}
use Rattle.rule_schemes.specs.declared.reading.Reading.{Reading}
use Rattle.rule_schemes.specs.declared.reading.Reading.TheVariants.{One, NoReading, Ambiguous}
use Rattle.notation_parser.specs.Candidates.{AreCandidates}
use Rattle.notation_parser.specs.Renaming.{renamed_written, renamed_known, OccursInKnowns, OccursInWanted}
use Rattle.notation_parser.specs.View.{written, what_is_said}

-- the elements with a mark
abbrev pub marked : {A : Type 0} → List Bool → List A → List A
marked [] xs = []
marked (b ∷ bs) [] = []
marked (true ∷ bs) (x ∷ xs) = x ∷ marked bs xs
marked (false ∷ bs) (x ∷ xs) = marked bs xs

-- how many marks stand before a place
abbrev pub marks_before : List Bool → ℕ → ℕ
marks_before [] i = 0
marks_before (b ∷ bs) zero = 0
marks_before (true ∷ bs) (suc i) = suc (marks_before bs i)
marks_before (false ∷ bs) (suc i) = marks_before bs i

-- the first n numbers stay, and those behind are moved
abbrev pub moved : ℕ → (ℕ → ℕ) → ℕ → ℕ
moved n f m = if nat_lt m n then m else n + f (m - n)

-- What a reading over n names and all candidates says. The candidates that occur in it are its new metavariables, numbered in
-- their order after the names.
abbrev pub Says : ℕ → List MetaDecl → Written × List KnownVariable → Said → Type 0
Says n candidates x said =
    (marks : List Bool) × (length marks ≡ length candidates)
    × AllNumbered (λ m b. IsTrue b ↔ OccursInWanted m x.0 x.1) n marks
    × (said ≡ record {
      written = renamed_written (moved n (marks_before marks)) x.0;
      metas = marked marks candidates;
      knowns = map (renamed_known (moved n (marks_before marks))) x.1;
    })

-- an answer that tells what these readings say
abbrev pub TellsUsed : ℕ → List MetaDecl → List (Written × List KnownVariable) → Reading → Type 0
TellsUsed n candidates [] NoReading = Unit {0}
TellsUsed n candidates (x ∷ []) (One w ms ks) =
    Says n candidates x (record { written = written w; metas = ms; knowns = map known_variable ks })
TellsUsed n candidates (x ∷ (y ∷ [])) (Ambiguous a b) = Says n candidates x (what_is_said a) × Says n candidates y (what_is_said b)
TellsUsed _ _ _ _ = ⊥

-- the metavariables that a form may bring: all candidates where new names may stand in it, and none elsewhere
abbrev pub MayBeNew : Signature → ReadingScope → List Token → List MetaDecl → Type 0
MayBeNew sig scope tokens candidates =
    ((scope.fresh ≡ not_fresh) × (candidates ≡ []))
    ⊎ ((scope.fresh ≢ not_fresh) × AreCandidates sig scope.names.metas tokens candidates)

-- the entries of known variables are written over the metavariables of the scope
pub record KnownsStand (scope : ReadingScope) : Type 0 where
  pub within : (m : ℕ) → OccursInKnowns m scope.names.knowns → m < length scope.names.metas
