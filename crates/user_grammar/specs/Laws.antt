-- What holds of all files.
use Rattle.std.specs.Prelude.{◌≡◌, ℕ, List}
use Rattle.binding_terms.specs.Signature.{Signature}
use Rattle.sy_base.specs.Tokens.{PlainToken}
use Rattle.sy_base.specs.declared.fault.Code.{Code}
use Rattle.outline_reader.specs.Plain.{PlainPortion}
use Rattle.user_grammar.specs.Grammar.{IsSignatureOf}
use Rattle.rule_schemes.specs.NewNames.{IsPlainSpelling}
use Rattle.rule_schemes.specs.Reading.{IsVariableWord}
use Rattle.user_grammar.specs.Fault.{IsFault, HasNoFault}

-- a file stands for one signature at most
abbrev pub SignaturesAreUnique : Type 0
SignaturesAreUnique = (portions : List PlainPortion) (sig other : Signature) → IsSignatureOf portions sig → IsSignatureOf portions other → sig ≡ other

-- a file whose grammar has a fault stands for none
abbrev pub FaultyFilesHaveNoSignature : Type 0
FaultyFilesHaveNoSignature =
    (portions : List PlainPortion) (sig : Signature) (found : Code) (token : PlainToken) (detail : List ℕ) →
    IsSignatureOf portions sig → IsFault portions found token detail → ⊥

-- A file whose grammar has no fault stands for a signature. In it no word is a spelling of two plain categories, and none of the variables
-- of two categories.
abbrev pub FaultlessFilesHaveASignature : Type 0
FaultlessFilesHaveASignature =
    (portions : List PlainPortion) → HasNoFault portions →
    (sig : Signature) × IsSignatureOf portions sig
    × ((c d : ℕ) (word : List ℕ) → IsPlainSpelling sig c word → IsPlainSpelling sig d word → c ≡ d)
    × ((c d : ℕ) (word : List ℕ) → IsVariableWord sig c word → IsVariableWord sig d word → c ≡ d)
