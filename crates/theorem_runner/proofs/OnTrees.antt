-- What a run gives is the value of the theorem by the proofs on trees.
use Rattle.std.specs.Prelude.{ℕ, List, map}
use Rattle.std.proofs.Common.{sym, subst}
use Rattle.scheme_terms.specs.Forms.{ContextValue}
use Rattle.rule_schemes.specs.Plain.{IsPlainSystem}
use Rattle.rule_schemes.specs.Rules.{Theory}
use Rattle.rule_schemes.specs.Derivation.{Derivation}
use Rattle.rule_schemes.specs.Statement.{Theorem, InputTree}
use Rattle.proof_trees.specs.Value.{HasValue}
use Rattle.core_proofs.specs.Step.{Step}
use Rattle.core_proofs.specs.Trees.{whole_step}
use Rattle.core_proofs.proofs.TreeValues.{values_are_of_trees}
use Rattle.theorem_runner.specs.Runs.{IsRun}
use Rattle.theorem_runner.specs.TreeRuns.{IsValueOnTrees}

pub run_on_trees : (th : Theory) → IsPlainSystem th → (sts : List Theorem) (steps : List Step) (k : ℕ) (v : ContextValue) (xs : List InputTree) (ds : List Derivation) →
    IsRun th sts steps k v xs ds → IsValueOnTrees th sts (map whole_step steps) k v xs ds
run_on_trees th system sts steps k v xs ds run proofs same =
    subst (HasValue th sts proofs k v xs) (sym run.alone) ((values_are_of_trees th sts steps proofs k v xs run.made system same).0 run.is_value)
