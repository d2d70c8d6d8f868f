-- The names of rules and derivations, and what a step cites. To be held against docs/notation.md, 'Outline', 'Grammar' and 'Steps'.
use Rattle.std.specs.Prelude.{◌≡◌, ◌≢◌, ◌⊎◌, ℕ, List, [], ◌∷◌, take, Some, slice_get, MatchOption}
use Rattle.std.specs.List.{AllByRecursion}
use Rattle.binding_terms.specs.Numbered.{AnyByRecursion}
use Rattle.binding_terms.specs.Signature.{Signature}
use Rattle.rule_schemes.specs.Reading.{IsSpelling}
use Rattle.outline_reader.specs.Plain.{PlainArgument, name_alone, enclosed, PlainInput, given_form, of_syntax}

-- the word `_`
abbrev pub UNNAMED : List ℕ
UNNAMED = 95 ∷ []

-- the first of the names that is this one has the number
abbrev pub IsNumberOf : (name : List ℕ) → (names : List (List ℕ)) → (number : ℕ) → Type 0
IsNumberOf name names n = (slice_get names n ≡ Some name) × AllByRecursion (λ other. other ≢ name) (take n names)

-- an argument of `rule` is the name of a derivation in scope, whose number this is; `_` is never cited, and a form in parentheses is none
abbrev pub IsCitedAs : (named : List (List ℕ)) → PlainArgument → (number : ℕ) → Type 0
IsCitedAs named (name_alone token) n = (token.text ≢ UNNAMED) × IsNumberOf token.text named n
IsCitedAs named (enclosed form) n = ⊥

-- the names of the given derivations, which take the first numbers
abbrev pub given_names : List PlainInput → List (List ℕ)
given_names [] = []
given_names (given_form labelled ∷ inputs) = labelled.name.text ∷ given_names inputs
given_names (of_syntax name ∷ inputs) = given_names inputs

-- the word is a spelling of a category or of its variable
abbrev pub IsSpellingIn : Signature → List ℕ → Type 0
IsSpellingIn sig w = AnyByRecursion (λ cat. IsSpelling cat.name w ⊎ MatchOption cat.var ⊥ (λ name. IsSpelling name w)) sig.cats

-- the name may be given to a derivation: it is no spelling, and none that is in scope, but for `_`, which may be given again
abbrev pub MayBeGiven : Signature → (named : List (List ℕ)) → (name : List ℕ) → Type 0
MayBeGiven sig named name = (IsSpellingIn sig name → ⊥) × ((name ≡ UNNAMED) ⊎ AllByRecursion (λ other. other ≢ name) named)
