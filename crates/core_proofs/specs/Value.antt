-- The value of a proof: the derivation that it makes of given derivations. To be held against docs/notation.md, 'Runs'.
use Rattle.std.specs.Prelude.{◌≡◌, ℕ, List, [], ◌∷◌, ◌++◌, Option, Some, None, slice_get}
use Rattle.std.specs.List.{AllZip}
use Rattle.scheme_terms.specs.Forms.{ContextValue, Names, Instance}
use Rattle.scheme_terms.specs.Instance.{FitsScope}
use Rattle.rule_schemes.specs.Rules.{JudgmentScheme, Rule, Theory, IsAssumption, judgment_instance}
use Rattle.rule_schemes.specs.Derivation.{Derivation, node}
use Rattle.proof_trees.specs.Value.{subtrees}
use Rattle.rule_schemes.specs.Statement.{Theorem, InputTree, derived, term, IsInstantiation}
use Rattle.core_proofs.specs.Step.{Step, begin_theorem, end_theorem, by_rule}
use Rattle.proof_trees.specs.Right.{IsProofScope}

-- the derivations of the cited steps, in order
abbrev pub AreCitedTrees : List Derivation → (on : List ℕ) → List Derivation → Type 0
AreCitedTrees scoped on cited = AllZip (λ n d. slice_get scoped n ≡ Some d) on cited

-- the given derivations, which take the first numbers
abbrev pub given_trees : List InputTree → List Derivation
given_trees [] = []
given_trees (derived d ∷ xs) = d ∷ given_trees xs
given_trees (term t ∷ xs) = given_trees xs

-- What the steps of a proof make, with an instance of its scope, a derivation for each step in scope, and that of the last step: by an
-- ordinary rule, the node with the form's instance over the cited derivations; at the end the last step's.
pub data Makes (th : Theory) (inst : Instance) : List Derivation → (last : Option Derivation) → List Step → Derivation → Type 0 where
  makes_node : {line r : ℕ} {on : List ℕ} {scoped : List Derivation} {last : Option Derivation} (cited : List Derivation) (rule : Rule) {steps : List Step} {made : Derivation} {form : JudgmentScheme} →
      slice_get th.rules r ≡ Some rule → (IsAssumption rule → ⊥) → AreCitedTrees scoped on cited →
      Makes th inst (scoped ++ node r (judgment_instance inst form) (subtrees cited) ∷ []) (Some (node r (judgment_instance inst form) (subtrees cited))) steps made →
      Makes th inst scoped last (by_rule line form r on ∷ steps) made
  makes_last : {line : ℕ} {scoped : List Derivation} {steps : List Step} {made : Derivation} →
      Makes th inst scoped (Some made) (end_theorem line ∷ steps) made

-- the value of a theorem on inputs in a context value: what its proof makes, with an instance of the proof's scope that gives the inputs
pub record HasValue (th : Theory) (statements : List Theorem) (steps : List Step) (theorem : ℕ) (v : ContextValue) (inputs : List InputTree) (made : Derivation) : Type 0 where
  pub statement : Theorem
  pub here : slice_get statements theorem ≡ Some statement
  pub before : List Step
  pub body : List Step
  pub split : steps ≡ before ++ begin_theorem theorem ∷ body
  pub scope : Names
  pub is_scope : IsProofScope statement scope
  pub inst : Instance
  pub sets : FitsScope th.sig scope inst
  pub fits : IsInstantiation th statement v inst inputs
  pub makes : Makes th inst (given_trees inputs) None body made
