use Rattle.std.proofs.Common.{◌<◌, ℕ, length, map, drop}
use Rattle.std.specs.List.{AllByRecursion}
use Rattle.rule_schemes.specs.StatementFault.{FormMayStand, IsFirstOutOfPlace}
use Rattle.rule_schemes.specs.View.{judgment_scheme, theory}
use Rattle.rule_schemes.proofs.statement_forms.first_form.Given as goal

abbrev pub invariant-loop-form : goal.invariant-loop-form
invariant-loop-form l = record {
  first : (j : ℕ) → IsFirstOutOfPlace (theory l.system) l.root (map judgment_scheme (drop l.form-index l.forms)) j
      → IsFirstOutOfPlace (theory l.system) l.root (map judgment_scheme l.forms) j;
  all : AllByRecursion (FormMayStand (theory l.system) l.root) (map judgment_scheme (drop l.form-index l.forms))
      → AllByRecursion (FormMayStand (theory l.system) l.root) (map judgment_scheme l.forms);
  range : AllByRecursion (λ p. p.judgment < length l.system.judgments) (map judgment_scheme (drop l.form-index l.forms));
}
