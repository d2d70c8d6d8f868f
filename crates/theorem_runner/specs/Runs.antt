-- What a run gives. To be held against docs/notation.md, 'Runs'.
use Rattle.std.specs.Prelude.{◌≡◌, ℕ, List, [], ◌∷◌, ◌++◌, length, Option, Some, None, slice_get, MatchOption}
use Rattle.scheme_terms.specs.Forms.{ContextValue, Names, Instance}
use Rattle.rule_schemes.specs.Rules.{JudgmentScheme, Theory}
use Rattle.rule_schemes.specs.Derivation.{Derivation}
use Rattle.rule_schemes.specs.Statement.{Theorem, InputTree, IsInstantiation, DeriveConclusions}
use Rattle.core_proofs.specs.Step.{Step}
use Rattle.core_proofs.specs.Proof.{within, outside, Leads}
use Rattle.core_proofs.specs.Value.{Makes, HasValue}

-- These derivations are the value of the theorem on the inputs, and no other derivation is: there is one, and it derives the conclusion
-- for each instance of the statement that gives the inputs.
pub record IsRun (th : Theory) (sts : List Theorem) (steps : List Step) (k : ℕ) (v : ContextValue) (xs : List InputTree) (ds : List Derivation) : Type 0 where
  pub made : Derivation
  pub alone : ds ≡ made ∷ []
  pub is_value : HasValue th sts steps k v xs made
  pub only : (other : Derivation) → HasValue th sts steps k v xs other → other ≡ made
  pub concludes : (st : Theorem) (inst : Instance) → slice_get sts k ≡ Some st → IsInstantiation th st v inst xs → DeriveConclusions th st inst ds

-- a last tree goes with a last form
abbrev pub GoesWith : Option JudgmentScheme → Option Derivation → Type 0
GoesWith None made = Unit {0}
GoesWith (Some form) made = MatchOption made ⊥ (λ d. Unit {0})

-- the last tree stands at the end
abbrev pub IsAtEnd : List Derivation → Option Derivation → Type 0
IsAtEnd made last = MatchOption last (Unit {0}) (λ d. (front : List Derivation) × (made ≡ front ++ d ∷ []))

-- Within right proofs the steps that are left go on over these trees, one for each form in scope, and what they make the whole makes
-- of the trees that were given.
pub record GoesOn (th : Theory) (sts : List Theorem) (inst : Instance) (given_trees : List Derivation) (whole : List Step) (made : List Derivation) (left : List Step) : Type 0 where
  pub theorem : ℕ
  pub scope : Names
  pub scoped : List JudgmentScheme
  pub last : Option JudgmentScheme
  pub ended : ℕ
  pub leads : Leads th sts (within theorem scope scoped last) left (outside ended)
  pub counted : length scoped ≡ length made
  pub last_tree : Option Derivation
  pub goes : GoesWith last last_tree
  pub at_end : IsAtEnd made last_tree
  pub so_far : (d : Derivation) → Makes th inst made last_tree left d → Makes th inst given_trees None whole d

-- a run begins over the trees that are given
abbrev pub Starts : Theory → List Theorem → Instance → List Derivation → List Step → Type 0
Starts th sts inst given_trees whole = GoesOn th sts inst given_trees whole given_trees whole
