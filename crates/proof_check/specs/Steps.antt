-- The core steps for which the proofs of a file stand. To be held against docs/notation.md, 'Outline' and 'Steps'. So far a step stands for
-- a core step only where it goes by a rule: for all other steps the relation has no case yet.
use Rattle.std.specs.Prelude.{◌≡◌, ◌⊎◌, ℕ, suc, List, [], ◌∷◌, ◌++◌, length, map, Option, Some, None, slice_get, unwrap_or}
use Rattle.std.specs.List.{AllZip}
use Rattle.scheme_terms.specs.Forms.{Names}
use Rattle.rule_schemes.specs.Rules.{JudgmentScheme, Theory}
use Rattle.rule_schemes.specs.Statement.{Theorem}
use Rattle.core_proofs.specs.Step.{Step, begin_theorem, end_theorem, by_rule}
use Rattle.proof_trees.specs.Right.{IsProofScope}
use Rattle.sy_base.specs.Tokens.{PlainToken}
use Rattle.outline_reader.specs.declared.fault.Part.{Part}
use Rattle.outline_reader.specs.declared.fault.Part.TheVariants as parts
use Rattle.outline_reader.specs.Plain.{PlainArgument, PlainJustification, by_rule_of, PlainPortion, terminals, syntax_word, category, judgment_of, rule_of, theorem_of, step_of, end_line}
use Rattle.proof_check.specs.Cited.{IsNumberOf, IsCitedAs, given_names}
use Rattle.proof_check.specs.Written.{Says}

-- The core step of a step with this first token, justification and form, where these names are in scope. A rule is the first of its name.
pub data IsStepOf (th : Theory) (named : List (List ℕ)) (first : PlainToken) (why : PlainJustification) (form : JudgmentScheme) (step : Step) : Type 0 where
  by_its_rule : (name : PlainToken) (arguments : List PlainArgument) (r : ℕ) (on : List ℕ) →
      why ≡ by_rule_of name arguments → IsNumberOf name.text (map (λ rule. rule.name) th.rules) r → AllZip (IsCitedAs named) arguments on →
      step ≡ by_rule first.line form r on → IsStepOf th named first why form step

-- what a written step makes: the name that it gives, its line and its core step
pub record MadeStep : Type 0 where
  pub name : List ℕ
  pub line : ℕ
  pub step : Step

-- what a portion of a proof makes that is a step; no other portion makes one so far
abbrev pub StandsFor : Theory → Theorem → Names → (named : List (List ℕ)) → PlainPortion → MadeStep → Type 0
StandsFor th st scope named (step_of first names forms why) made =
    (made.line ≡ first.line) × ((form : JudgmentScheme) × Says th st scope named names forms made.name form × IsStepOf th named first why form made.step)
StandsFor th st scope named _ made = ⊥

-- what ends a proof: the end of a theorem or lemma
abbrev pub EndsProof : Part → Type 0
EndsProof parts.Theorem = Unit {0}
EndsProof parts.Lemma = Unit {0}
EndsProof _ = ⊥

-- the portion is the `end` line of a theorem or lemma, and stands on that line
abbrev pub IsProofEnd : PlainPortion → (line : ℕ) → Type 0
IsProofEnd (end_line first part) line = EndsProof part × (line ≡ first.line)
IsProofEnd _ line = ⊥

-- a portion that stands outside of proofs
abbrev pub HoldsNoProof : PlainPortion → Type 0
HoldsNoProof (terminals first items) = Unit {0}
HoldsNoProof (syntax_word first) = Unit {0}
HoldsNoProof (category name mark productions) = Unit {0}
HoldsNoProof (judgment_of first name form assumes) = Unit {0}
HoldsNoProof (rule_of premises name conclusion) = Unit {0}
HoldsNoProof _ = ⊥

-- the steps begin the proof of the statement with this number, in its own scope, and what follows is so for that statement and scope
abbrev pub BeginsProof : List Theorem → (theorem : ℕ) → (Theorem → Names → List Step → Type 0) → List Step → Type 0
BeginsProof sts k Follows steps =
    (st : Theorem) × (scope : Names) × (rest : List Step) × (slice_get sts k ≡ Some st) × IsProofScope st scope × (steps ≡ begin_theorem k ∷ rest) × Follows st scope rest

-- The steps from a portion on. Outside of proofs, where so many theorems stand before: each theorem begins the proof of the statement with
-- its number, and at the end no statement is left. Within a proof, with the names in scope and the line of the last step, if any: each
-- portion makes a step, up to the `end` line, which ends the proof on the line of the last step, or on its own where there is none.
abbrev mutual
  pub AreStepsFrom : Theory → List Theorem → (theorem : ℕ) → List PlainPortion → List Step → Type 0
  AreStepsFrom th sts k [] steps = (k ≡ length sts) × (steps ≡ [])
  AreStepsFrom th sts k (theorem_of first joined kind name assumes inputs outputs targets ∷ portions) steps =
      BeginsProof sts k (λ st scope rest. AreProofSteps th sts k st scope (given_names inputs) None portions rest) steps
  AreStepsFrom th sts k (portion ∷ portions) steps = HoldsNoProof portion × AreStepsFrom th sts k portions steps

  pub AreProofSteps : Theory → List Theorem → (theorem : ℕ) → Theorem → Names → (named : List (List ℕ)) → (last : Option ℕ) → List PlainPortion → List Step → Type 0
  AreProofSteps th sts k st scope named last [] steps = ⊥
  AreProofSteps th sts k st scope named last (portion ∷ portions) steps =
      ((line : ℕ) × (rest : List Step) × IsProofEnd portion line × (steps ≡ end_theorem (unwrap_or last line) ∷ rest) × AreStepsFrom th sts (suc k) portions rest)
      ⊎ ((made : MadeStep) × (rest : List Step) × StandsFor th st scope named portion made × (steps ≡ made.step ∷ rest)
      × AreProofSteps th sts k st scope (named ++ made.name ∷ []) (Some made.line) portions rest)

-- the core steps for which the proofs of a file stand, theorem by theorem
abbrev pub AreStepsOf : List PlainPortion → Theory → List Theorem → List Step → Type 0
AreStepsOf portions th statements steps = AreStepsFrom th statements 0 portions steps
