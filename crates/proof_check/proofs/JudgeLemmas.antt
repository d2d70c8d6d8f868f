-- What is said of a file.
use Rattle.std.proofs.Common.{◌≡◌, ◌⊎◌, ℕ, List, Option, Some, None, inl, inr, subst}
use Rattle.std.specs.List.{AllByRecursion}
use Rattle.binding_terms.specs.Signature.{Signature}
use Rattle.sy_base.specs.CodeName.{code_name}
use Rattle.sy_base.specs.declared.fault.Fault.{Fault}
use Rattle.outline_reader.specs.Plain.{PlainPortion, HasPortions}
use Rattle.outline_reader.proofs.UniqueLemmas.{portions_unique}
use Rattle.core_proofs.specs.Kept.{Kept}
use Rattle.user_grammar.specs.Grammar.{IsSignatureOf}
use Rattle.user_grammar.specs.Laws.{FaultyFilesHaveNoSignature}
use Rattle.proof_check.specs.Faults.{TellsFirst, HasNoFaultYet, IsFaultText, fault_lines}
use Rattle.proof_check.specs.File.{IsBuiltFileOf, IsRightSoFar, IsOnlyFile, IsGrammarPortion, IsGrammarFile, IsSomeRight, IsRightFile}
use Rattle.proof_check.specs.NotBuilt.{HasNotBuilt}
use Rattle.proof_check.proofs.FaultLemmas.{faulty_is_wrong}
use Rattle.proof_check.proofs.RightFiles.{only_as, right_there, right_back}

-- a file with a first fault is told by it, and is not right
pub faulty_judged : (source text : List ℕ) (fault : Fault) → FaultyFilesHaveNoSignature → TellsFirst source fault → text ≡ fault_lines source fault.line (code_name fault.code) fault.detail →
    IsFaultText source text × (IsRightFile source → ⊥)
faulty_judged source text fault law first lines = (
  record { line = fault.line; spelling = code_name fault.code; detail = fault.detail; first = first; lines = lines },
  faulty_is_wrong source fault.line (code_name fault.code) fault.detail law first,
)

module _ (source : List ℕ) (portions : List PlainPortion) (has : HasPortions source portions) where
  -- what the portions stand for is what the source does
  pub of_source : (found : Option Kept) → IsOnlyFile (IsBuiltFileOf portions) found → IsOnlyFile (IsRightSoFar source) found
  of_source found is =
      only_as (IsBuiltFileOf portions) (IsRightSoFar source) found (right_there source portions has)
      (right_back source portions (λ others there. portions_unique source others portions there has)) is

  pub right_judged : (kept : Kept) → (HasNotBuilt source → ⊥) → IsOnlyFile (IsBuiltFileOf portions) (Some kept) → (HasNotBuilt source → ⊥) × IsOnlyFile (IsRightSoFar source) (Some kept)
  right_judged kept built is = (built, of_source (Some kept) is)

  -- a grammar alone
  pub grammar_judged : (sig : Signature) → IsSignatureOf portions sig → (HasNotBuilt source → ⊥) → AllByRecursion IsGrammarPortion portions → IsOnlyFile (IsBuiltFileOf portions) None →
      IsRightFile source × IsOnlyFile (IsRightSoFar source) None
  grammar_judged sig signature built alone none = (
    record { built = built; right = inr (record { portions = portions; has = has; grammar_alone = alone; sig = sig; signature = signature }) },
    of_source None none,
  )

  not_right : IsOnlyFile (IsBuiltFileOf portions) None → (AllByRecursion IsGrammarPortion portions → ⊥) → IsSomeRight source ⊎ IsGrammarFile source → ⊥
  not_right none more (inl some) = of_source None none some.th some.statements some.steps some.right
  not_right none more (inr alone) =
      more (subst (AllByRecursion IsGrammarPortion) (portions_unique source alone.portions portions alone.has has) alone.grammar_alone)

  -- neither
  pub wrong_judged : HasNoFaultYet source → IsOnlyFile (IsBuiltFileOf portions) None → (AllByRecursion IsGrammarPortion portions → ⊥) → HasNoFaultYet source × (IsRightFile source → ⊥)
  wrong_judged no_fault none more = (no_fault, (λ right. not_right none more right.right))
