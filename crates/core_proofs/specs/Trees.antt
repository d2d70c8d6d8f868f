-- The steps that are kept so far as those of proofs on trees, and that both lead alike. To be held against docs/notation.md, 'Steps'.
use Rattle.std.specs.Prelude.{◌≡◌, ◌↔◌, ℕ, List, [], ◌∷◌, map}
use Rattle.std.specs.List.{AllByRecursion}
use Rattle.rule_schemes.specs.Plain.{IsPlainSystem}
use Rattle.rule_schemes.specs.Rules.{Theory}
use Rattle.rule_schemes.specs.Statement.{Theorem, InputTree}
use Rattle.rule_schemes.specs.Derivation.{Derivation}
use Rattle.scheme_terms.specs.Forms.{ContextValue}
use Rattle.proof_trees.specs.Tree.{Proof, flattened_from}
use Rattle.proof_trees.specs.Value as values
use Rattle.core_proofs.specs.Value.{HasValue}
use Rattle.proof_trees.specs.Steps as trees
use Rattle.proof_trees.specs.Standings as standings
use Rattle.core_proofs.specs.Kept.{Kept, kept_steps}
use Rattle.core_proofs.specs.Proof.{Proves}
use Rattle.core_proofs.specs.Provable.{IsProvable}
use Rattle.core_proofs.specs.Step.{Step, begin_theorem, end_theorem, by_rule}

-- a step that can be kept so far among all steps
abbrev pub whole_step : Step → trees.Step
whole_step (begin_theorem k) = trees.begin_theorem k
whole_step (end_theorem line) = trees.end_theorem line
whole_step (by_rule line form r on) = trees.simple (trees.by_rule line form r on)

abbrev pub whole_steps : Kept → List trees.Step
whole_steps kept = map whole_step (kept_steps kept)

-- Without contexts, steps that can be kept so far prove the statements exactly where they are right proofs of them on trees.
abbrev pub ProvesAreTrees : Type 0
ProvesAreTrees =
    (th : Theory) (sts : List Theorem) (steps : List Step) → IsPlainSystem th → AllByRecursion (IsProvable th) sts →
    Proves th sts steps ↔ standings.Proves th sts (map whole_step steps)

-- Without contexts, the value of a theorem by the steps is that by the proofs whose steps they are.
abbrev pub ValuesAreOfTrees : Type 0
ValuesAreOfTrees =
    (th : Theory) (sts : List Theorem) (steps : List Step) (proofs : List Proof) (k : ℕ) (v : ContextValue) (xs : List InputTree) (d : Derivation) → IsPlainSystem th →
    map whole_step steps ≡ flattened_from 0 proofs → HasValue th sts steps k v xs d ↔ values.HasValue th sts proofs k v xs (d ∷ [])
