-- What the readings of forms over bare theories say, as laws for the crates above.
use Rattle.std.specs.Prelude.{◌≡◌, List, []}
use Rattle.std.specs.List.{AllByRecursion}
use Rattle.scheme_terms.specs.Forms.{Names}
use Rattle.rule_schemes.specs.Reading.{Token, AreSpelledApart}
use Rattle.rule_schemes.specs.Rules.{JudgmentScheme, Theory, IsJudgmentScheme}
use Rattle.judgments.specs.Bare.{IsBareTheory}
use Rattle.binding_terms.specs.Signature.{Signature}
use Rattle.outline_reader.specs.Plain.{PlainPortion}
use Rattle.user_grammar.specs.Grammar.{IsSignatureOf}
use Rattle.judgments.specs.Written.{ReadsOnlyAs}

-- names without known variables and parameters
pub record AreBareNames (names : Names) : Type 0 where
  pub knowns : names.knowns ≡ []
  pub parameters : AllByRecursion (λ decl. decl.params ≡ []) names.metas

-- the one reading of a form is a judgment over its names
abbrev pub ReadingsAreInScope : Type 0
ReadingsAreInScope =
    (th : Theory) (names : Names) (form : List Token) (j : JudgmentScheme) → IsBareTheory th → AreBareNames names → ReadsOnlyAs th.sig th.judgments names form j → IsJudgmentScheme th names j

-- over the signature of a file no word is a spelling of two categories
abbrev pub SignaturesSpellApart : Type 0
SignaturesSpellApart = (portions : List PlainPortion) (sig : Signature) → IsSignatureOf portions sig → AreSpelledApart sig
