-- The metavariables that the forms of a rule or a statement write. To be held against docs/notation.md, 'Grammar' and 'Rules and statements'.
use Rattle.std.specs.Prelude.{◌≡◌, ◌≤◌, ℕ, List, length, map}
use Rattle.std.specs.List.{AllByRecursion}
use Rattle.binding_terms.specs.Numbered.{AnyByRecursion}
use Rattle.binding_terms.specs.Signature.{Signature}
use Rattle.scheme_terms.specs.SchemeScope.{AreDifferentNames}
use Rattle.scheme_terms.specs.declared.scheme.MetaDecl.{MetaDecl}
use Rattle.rule_schemes.specs.Reading.{Token, word}
use Rattle.rule_schemes.specs.NewNames.{HasParameters, IsPlainSpelling}

-- the word stands in one of the forms
abbrev pub IsWordOf : List (List Token) → List ℕ → Type 0
IsWordOf forms w = AnyByRecursion (AnyByRecursion (λ t. t ≡ word w)) forms

-- how many parameters a metavariable has at most
abbrev pub PARAMETERS : ℕ
PARAMETERS = 8

-- a metavariable of the forms: a spelling of its category, with the parameters that the forms tell
pub record IsNamed (sig : Signature) (forms : List (List Token)) (decl : MetaDecl) : Type 0 where
  pub written : IsWordOf forms decl.name
  pub cat : IsPlainSpelling sig decl.cat.0 decl.name
  pub params : HasParameters sig decl.name forms (map (λ p. p.0) decl.params)
  pub few : length decl.params ≤ PARAMETERS

-- All metavariables of the forms, each once: every word of them that is a spelling of a plain category is among the names.
pub record AreNamesOf (sig : Signature) (forms : List (List Token)) (metas : List MetaDecl) : Type 0 where
  pub each : AllByRecursion (IsNamed sig forms) metas
  pub all : (w : List ℕ) (c : ℕ) → IsWordOf forms w → IsPlainSpelling sig c w → AnyByRecursion (λ decl. decl.name ≡ w) metas
  pub differ : AreDifferentNames (map (λ decl. decl.name) metas)
