use Rattle.std.proofs.Common.{◌<◌, ℕ, length, map, drop}
use Rattle.std.specs.List.{AllByRecursion}
use Rattle.rule_schemes.specs.StatementFault.{given_forms, FormMayStand, IsFirstOutOfPlace}
use Rattle.rule_schemes.specs.View.{statement_input, theory}
use Rattle.rule_schemes.proofs.statement_forms.first_input.Given as goal

abbrev pub invariant-loop-input : goal.invariant-loop-input
invariant-loop-input l = record {
  first : (j : ℕ) → IsFirstOutOfPlace (theory l.system) l.root (given_forms (map statement_input (drop l.input-index l.inputs))) j
      → IsFirstOutOfPlace (theory l.system) l.root (given_forms (map statement_input l.inputs)) j;
  all : AllByRecursion (FormMayStand (theory l.system) l.root) (given_forms (map statement_input (drop l.input-index l.inputs)))
      → AllByRecursion (FormMayStand (theory l.system) l.root) (given_forms (map statement_input l.inputs));
  range : AllByRecursion (λ p. p.judgment < length l.system.judgments) (given_forms (map statement_input (drop l.input-index l.inputs)));
}
