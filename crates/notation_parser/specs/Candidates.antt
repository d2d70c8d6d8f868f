-- The metavariables that a form may bring. Held against docs/notation.md on new names.
use Rattle.std.specs.Prelude.{◌≡◌, ◌≢◌, ◌⊎◌, ◌++◌, ℕ, List, [], ◌∷◌, map, Option, MatchOption, IsTrue, not}
use Rattle.std.specs.List.{AllByRecursion}
use Rattle.binding_terms.specs.Numbered.{AnyByRecursion}
use Rattle.binding_terms.specs.Signature.{Signature}
use Rattle.binding_terms.specs.declared.grammar.Cat.{Cat}
use Rattle.scheme_terms.specs.declared.scheme.MetaDecl.{MetaDecl}
use Rattle.rule_schemes.specs.Reading.{Token, word, punctuation, IsSpelling}
use Rattle.rule_schemes.specs.NewNames.{TellsBrackets, TellsWords, AreInOrder, IsNewMeta}
use Rattle.term_reader.specs.Names.{NamesApart}
use Rattle.notation_parser.specs.declared.parameters.Told.{Told}

-- a spelling of this category, which is none of contexts
abbrev pub IsPlainSpellingOf : Cat → List ℕ → Type 0
IsPlainSpellingOf cat w = IsTrue (not cat.context) × IsSpelling cat.name w

-- All metavariables that the tokens may bring over these names: each new one once, in the order of first places.
pub record AreCandidates (sig : Signature) (metas : List MetaDecl) (tokens : List Token) (candidates : List MetaDecl) : Type 0 where
  pub each : AllByRecursion (IsNewMeta sig metas tokens) candidates
  pub all : (decl : MetaDecl) → IsNewMeta sig metas tokens decl → AnyByRecursion (λ c. c ≡ decl) candidates
  pub in_order : AreInOrder tokens candidates
  pub apart : NamesApart candidates

-- the word stands among the tokens
abbrev pub StandsIn : List ℕ → List Token → Type 0
StandsIn w tokens = AnyByRecursion (λ t. t ≡ word w) tokens

-- The same of those names alone that stand in the front of the tokens.
pub record AreCandidatesUpTo (sig : Signature) (metas : List MetaDecl) (tokens front : List Token) (candidates : List MetaDecl) : Type 0 where
  pub each : AllByRecursion (IsNewMeta sig metas tokens) candidates
  pub all : (decl : MetaDecl) → IsNewMeta sig metas tokens decl → StandsIn decl.name front → AnyByRecursion (λ c. c ≡ decl) candidates
  pub stand : AllByRecursion (λ c. StandsIn c.name front) candidates
  pub in_order : AreInOrder front candidates
  pub apart : NamesApart candidates

-- the new metavariable, if any, whose name the token is, and which is not among those that are found
abbrev pub IsNextCandidate : Signature → (metas found : List MetaDecl) → (tokens : List Token) → Token → Option MetaDecl → Type 0
IsNextCandidate sig metas found tokens t next =
    MatchOption next ((decl : MetaDecl) → IsNewMeta sig metas tokens decl → t ≡ word decl.name → AnyByRecursion (λ c. c.name ≡ decl.name) found)
    (λ decl. IsNewMeta sig metas tokens decl × (t ≡ word decl.name) × AllByRecursion (λ c. c.name ≢ decl.name) found)

-- what stands behind a word in brackets
abbrev pub TellsBehind : Signature → List Token → List (List ℕ) → List ℕ → Type 0
TellsBehind sig [] ws cs = ⊥
TellsBehind sig (t ∷ rest) ws cs =
    ((t ≡ punctuation 44) × TellsWords sig rest ws cs) ⊎ ((t ≡ punctuation 93) × TellsBrackets sig rest ws cs)

-- the words and categories that are told, after those that were told before, where any are
abbrev pub IsToldAfter : (Tells : List (List ℕ) → List ℕ → Type 0) → (before : Told) → Option Told → Type 0
IsToldAfter Tells before found =
    MatchOption found ((ws : List (List ℕ)) (cs : List ℕ) → Tells ws cs → ⊥)
    (λ after. (ws : List (List ℕ)) × (cs : List ℕ) × Tells ws cs × (after.words ≡ before.words ++ ws)
    × (map (λ c. c.0) after.cats ≡ map (λ c. c.0) before.cats ++ cs))
