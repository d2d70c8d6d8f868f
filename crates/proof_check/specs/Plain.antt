-- The condition under which proofs are read so far. It is to go: forms that bind, and contexts, are read by the same relation.
use Rattle.std.specs.Prelude.{◌≡◌, List, None}
use Rattle.std.specs.List.{AllByRecursion}
use Rattle.notation_parser.specs.Plain.{HasNoVariablesNorParameters}
use Rattle.rule_schemes.specs.Rules.{Theory}
use Rattle.rule_schemes.specs.Statement.{Theorem}

-- No judgment assumes a context. No category has variables, and in each statement no two metavariables have one name and none has
-- parameters.
pub record ArePlainStatements (th : Theory) (statements : List Theorem) : Type 0 where
  pub judgments : AllByRecursion (λ j. j.ctx ≡ None) th.judgments
  pub nothing_binds : AllByRecursion (λ st. HasNoVariablesNorParameters th.sig st.scope.metas) statements
