-- What functions inside the crate say of the arguments of an `apply` line. No public clause cites it but for the last.
use Rattle.std.specs.Prelude.{◌≤◌, List, [], ◌∷◌, Option, Some, None}
use Rattle.std.specs.List.{AllByRecursion}
use Rattle.rule_schemes.specs.Derivation.{Derivation, sizes, height}
use Rattle.rule_schemes.specs.Rules.{Theory}
use Rattle.rule_schemes.specs.Statement.{Theorem, InputTree}
use Rattle.derivation_check.specs.Parts.{subtrees_of}
use Rattle.derivation_text.specs.Forms.{Argument, by_name, enclosed}
use Rattle.derivation_text.specs.Found.{with_first}
use Rattle.derivation_text.specs.Inputs.{GivesInputs, NODES, HEIGHT}
use Rattle.derivation_text.specs.Valid.{Contents, nothing_around, tree_named}
use Rattle.derivation_text.specs.declared.derivs.Named.{Named}

-- the trees of arguments that are names
abbrev pub given_trees : List Named → List Argument → Option (List Derivation)
given_trees known [] = Some []
given_trees known (by_name w ∷ rest) = with_first (tree_named known w) (given_trees known rest)
given_trees known (enclosed form ∷ rest) = None

-- the trees are within the limits
pub record IsWithin (ds : List Derivation) : Type 0 where
  pub nodes_are : sizes (subtrees_of ds) ≤ NODES
  pub low : AllByRecursion (λ d. height d ≤ HEIGHT) ds

-- the text gives no inputs for the statement
abbrev pub HasNoInputs : Theory → Theorem → Contents → Type 0
HasNoInputs th st c = (xs : List InputTree) → GivesInputs th st nothing_around c xs → ⊥
