-- What is true of the value of an accepted proof.
use Rattle.std.specs.Prelude.{◌≡◌, ℕ, List, [], ◌∷◌, Some, slice_get}
use Rattle.std.specs.List.{AllByRecursion}
use Rattle.scheme_terms.specs.Forms.{ContextValue, Instance}
use Rattle.rule_schemes.specs.Rules.{Theory}
use Rattle.rule_schemes.specs.Plain.{IsPlainSystem}
use Rattle.rule_schemes.specs.Derivation.{Derivation}
use Rattle.rule_schemes.specs.Statement.{Theorem, InputTree, Instantiates, IsInstantiation, DeriveConclusions}
use Rattle.core_proofs.specs.Step.{Step}
use Rattle.core_proofs.specs.Proof.{Proves}
use Rattle.core_proofs.specs.Provable.{IsProvable}
use Rattle.core_proofs.specs.Value.{HasValue}

-- right proofs of statements without contexts, parameters and syntax inputs, over a system without contexts
pub record ArePlainProofs (th : Theory) (sts : List Theorem) (steps : List Step) : Type 0 where
  pub system : IsPlainSystem th
  pub provable : AllByRecursion (IsProvable th) sts
  pub proves : Proves th sts steps

-- on inputs that instantiate a theorem it has a value
abbrev pub ValueExists : Type 0
ValueExists =
    (th : Theory) (sts : List Theorem) (steps : List Step) (k : ℕ) (st : Theorem) (v : ContextValue) (xs : List InputTree) →
    ArePlainProofs th sts steps → slice_get sts k ≡ Some st → Instantiates th st v xs →
    (d : Derivation) × HasValue th sts steps k v xs d

-- and only one
abbrev pub ValueIsOne : Type 0
ValueIsOne =
    (th : Theory) (sts : List Theorem) (steps : List Step) (k : ℕ) (v : ContextValue) (xs : List InputTree) (d e : Derivation) →
    ArePlainProofs th sts steps → HasValue th sts steps k v xs d → HasValue th sts steps k v xs e → e ≡ d

-- which derives the conclusion, for each instance of the statement that gives the inputs
abbrev pub ValueDerives : Type 0
ValueDerives =
    (th : Theory) (sts : List Theorem) (steps : List Step) (k : ℕ) (st : Theorem) (v : ContextValue) (xs : List InputTree) (inst : Instance) (d : Derivation) →
    ArePlainProofs th sts steps → slice_get sts k ≡ Some st → IsInstantiation th st v inst xs → HasValue th sts steps k v xs d →
    DeriveConclusions th st inst (d ∷ [])
