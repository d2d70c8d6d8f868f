-- What the tokens of a rule or a statement tell of its metavariables' parameters, whether or not its forms read. To be held against
-- 'Grammar' of docs/notation.md.
use Rattle.std.specs.Prelude.{◌≡◌, ◌<◌, ◌==◌, ℕ, List, ◌∷◌, ◌++◌, length, map, flat_map, count_by}
use Rattle.std.specs.List.{AllByRecursion}
use Rattle.binding_terms.specs.Numbered.{AnyByRecursion}
use Rattle.binding_terms.specs.Signature.{Signature}
use Rattle.sy_base.specs.Tokens.{PlainToken}
use Rattle.scheme_terms.specs.SchemeScope.{AreDifferentNames}
use Rattle.scheme_terms.specs.declared.scheme.MetaDecl.{MetaDecl}
use Rattle.rule_schemes.specs.Reading.{Token, word}
use Rattle.rule_schemes.specs.NewNames.{IsTelling, TellsNothing, HasParameters, IsPlainSpelling}
use Rattle.phase_faults.specs.Written.{as_read, all_as_read}

-- how many parameters a metavariable has at most
abbrev pub PARAMETERS : ℕ
PARAMETERS = 8

-- the word stands in one of the forms
abbrev pub IsWordOf : List (List Token) → List ℕ → Type 0
IsWordOf forms text = AnyByRecursion (AnyByRecursion (λ token. token ≡ word text)) forms

-- a metavariable of the forms: a spelling of its category, with the parameters that the forms tell, however many
pub record IsNameOf (sig : Signature) (forms : List (List Token)) (decl : MetaDecl) : Type 0 where
  pub written : IsWordOf forms decl.name
  pub cat : IsPlainSpelling sig decl.cat.0 decl.name
  pub params : HasParameters sig decl.name forms (map (λ param. param.0) decl.params)

-- The names over which the forms are read, each once: every word of them that is a spelling of a plain category and has parameters. Where
-- none of its occurrences tells any, it is no name, and no form with it reads.
pub record AreNamesOf (sig : Signature) (forms : List (List Token)) (metas : List MetaDecl) : Type 0 where
  pub each : AllByRecursion (IsNameOf sig forms) metas
  pub all : (text : List ℕ) (cat : ℕ) (params : List ℕ) → IsWordOf forms text → IsPlainSpelling sig cat text → HasParameters sig text forms params →
      AnyByRecursion (λ decl. decl.name ≡ text) metas
  pub differ : AreDifferentNames (map (λ decl. decl.name) metas)

-- the token is a metavariable of the forms none of whose occurrences tells its parameters
pub record IsUntold (sig : Signature) (forms : List (List PlainToken)) (token : PlainToken) : Type 0 where
  pub cat : ℕ
  pub is_word : token.kind ≡ 0
  pub spelled : IsPlainSpelling sig cat token.text
  pub untold : (params : List ℕ) → HasParameters sig token.text (all_as_read forms) params → ⊥

-- the first such token in the text of the forms, with its text
pub record IsFirstUntold (sig : Signature) (forms : List (List PlainToken)) (text : List ℕ) : Type 0 where
  pub front : List PlainToken
  pub token : PlainToken
  pub rest : List PlainToken
  pub split : flat_map (λ form. form) forms ≡ front ++ token ∷ rest
  pub same : text ≡ token.text
  pub is_untold : IsUntold sig forms token
  pub first : AllByRecursion (λ earlier. IsUntold sig forms earlier → ⊥) front

-- the first telling occurrence of the text in the forms is this token, which these tokens follow in its form
pub record IsFirstTelling (sig : Signature) (forms : List (List PlainToken)) (name : PlainToken) (rest : List PlainToken) (params : List ℕ) : Type 0 where
  pub before : List (List PlainToken)
  pub front : List PlainToken
  pub after : List (List PlainToken)
  pub split : forms ≡ before ++ (front ++ name ∷ rest) ∷ after
  pub tells : IsTelling sig name.text (as_read (name ∷ rest)) params
  pub none_before : AllByRecursion (λ form. TellsNothing sig name.text (as_read form)) before
  pub none_in_front : (start behind : List PlainToken) (token : PlainToken) (others : List ℕ) → front ≡ start ++ token ∷ behind →
      IsTelling sig name.text (as_read (token ∷ (behind ++ name ∷ rest))) others → ⊥

-- The token is the ninth word in the brackets of the first telling occurrence of a metavariable: words stand there, with brackets and
-- commas between them.
pub record IsNinthWord (sig : Signature) (forms : List (List PlainToken)) (token : PlainToken) : Type 0 where
  pub name : PlainToken
  pub cat : ℕ
  pub spelled : IsPlainSpelling sig cat name.text
  pub between : List PlainToken
  pub behind : List PlainToken
  pub params : List ℕ
  pub first : IsFirstTelling sig forms name (between ++ token ∷ behind) params
  pub many : PARAMETERS < length params
  pub is_word : token.kind ≡ 0
  pub eight_before : count_by (λ other. other.kind == 0) between ≡ PARAMETERS
