-- Right files. To be held against docs/notation.md, 'Files'.
use Rattle.std.specs.Prelude.{◌≡◌, ◌⊎◌, ℕ, List, Option, Some, None}
use Rattle.std.specs.List.{AllByRecursion}
use Rattle.binding_terms.specs.Signature.{Signature}
use Rattle.outline_reader.specs.Plain.{PlainPortion, terminals, syntax_word, category, HasPortions}
use Rattle.user_grammar.specs.Grammar.{IsSignatureOf}
use Rattle.judgments.specs.Theory.{IsTheoryOf}
use Rattle.judgments.specs.Statements.{AreStatementsOf}
use Rattle.judgments.specs.Bare.{IsBareTheory, IsBareStatement}
use Rattle.rule_schemes.specs.Rules.{Theory}
use Rattle.rule_schemes.specs.Statement.{Theorem}
use Rattle.core_proofs.specs.Kept.{Kept, kept_theory, kept_statements, kept_steps}
use Rattle.core_proofs.specs.Step.{Step}
use Rattle.core_proofs.specs.Proof.{Proves}
use Rattle.proof_check.specs.NotBuilt.{HasNotBuilt}
use Rattle.proof_check.specs.Steps.{AreStepsOf}

-- The portions stand for a signature, a theory over it, statements and steps, and the steps are right proofs of all the statements.
pub record IsFileOf (portions : List PlainPortion) (th : Theory) (statements : List Theorem) (steps : List Step) : Type 0 where
  pub signature : IsSignatureOf portions th.sig
  pub theory : IsTheoryOf portions th
  pub are_statements : AreStatementsOf portions th statements
  pub are_steps : AreStepsOf portions th statements steps
  pub proves : Proves th statements steps

-- The condition under which files are checked so far, which is to go: a theory without variables and contexts, and statements on given
-- derivations.
pub record IsBuilt (th : Theory) (statements : List Theorem) : Type 0 where
  pub theory : IsBareTheory th
  pub are_bare : AllByRecursion IsBareStatement statements

-- a right file that is built so far, and what it stands for
pub record IsRightSoFar (source : List ℕ) (th : Theory) (statements : List Theorem) (steps : List Step) : Type 0 where
  pub portions : List PlainPortion
  pub has : HasPortions source portions
  pub file : IsFileOf portions th statements steps
  pub built : IsBuilt th statements

-- What is found is the one theory, the one list of statements and the one list of steps that are so; nothing is found where there are none.
abbrev pub IsOnlyFile : (Theory → List Theorem → List Step → Type 0) → Option Kept → Type 0
IsOnlyFile P None = (th : Theory) (statements : List Theorem) (steps : List Step) → P th statements steps → ⊥
IsOnlyFile P (Some kept) =
    P (kept_theory kept) (kept_statements kept) (kept_steps kept)
    × ((th : Theory) (statements : List Theorem) (steps : List Step) → P th statements steps →
    (th ≡ kept_theory kept) × (statements ≡ kept_statements kept) × (steps ≡ kept_steps kept))

-- the portions stand for a right file that is built so far
abbrev pub IsBuiltFileOf : List PlainPortion → Theory → List Theorem → List Step → Type 0
IsBuiltFileOf portions th statements steps = IsFileOf portions th statements steps × IsBuilt th statements

-- terminals, the word `syntax`, or a category
abbrev pub IsGrammarPortion : PlainPortion → Type 0
IsGrammarPortion (terminals first items) = Unit {0}
IsGrammarPortion (syntax_word first) = Unit {0}
IsGrammarPortion (category name mark productions) = Unit {0}
IsGrammarPortion _ = ⊥

-- a file of terminals and syntax parts alone, which stands for a signature
pub record IsGrammarFile (source : List ℕ) : Type 0 where
  pub portions : List PlainPortion
  pub has : HasPortions source portions
  pub grammar_alone : AllByRecursion IsGrammarPortion portions
  pub sig : Signature
  pub signature : IsSignatureOf portions sig

-- the source is right so far, for something
pub record IsSomeRight (source : List ℕ) : Type 0 where
  pub th : Theory
  pub statements : List Theorem
  pub steps : List Step
  pub right : IsRightSoFar source th statements steps

-- A right file of the forms that are built: no place of it is not built, and it is right so far or a grammar alone.
pub record IsRightFile (source : List ℕ) : Type 0 where
  pub built : HasNotBuilt source → ⊥
  pub right : IsSomeRight source ⊎ IsGrammarFile source
