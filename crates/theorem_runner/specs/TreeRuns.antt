-- What a run gives, in the words of proofs on trees. To be held against docs/notation.md, 'Runs'.
use Rattle.std.specs.Prelude.{◌≡◌, ℕ, List}
use Rattle.scheme_terms.specs.Forms.{ContextValue}
use Rattle.rule_schemes.specs.Rules.{Theory}
use Rattle.rule_schemes.specs.Derivation.{Derivation}
use Rattle.rule_schemes.specs.Statement.{Theorem, InputTree}
use Rattle.proof_trees.specs.Steps.{Step}
use Rattle.proof_trees.specs.Tree.{Proof, flattened_from}
use Rattle.proof_trees.specs.Value.{HasValue}

-- These derivations are the value of the theorem on the inputs, by the proofs on trees whose steps these are.
abbrev pub IsValueOnTrees : Theory → List Theorem → List Step → (theorem : ℕ) → ContextValue → List InputTree → List Derivation → Type 0
IsValueOnTrees th sts steps k v xs ds = (proofs : List Proof) → steps ≡ flattened_from 0 proofs → HasValue th sts proofs k v xs ds
