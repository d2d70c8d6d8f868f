use Rattle.std.proofs.Common.{◌↔◌, drop}
use Rattle.binding_terms.specs.Numbered.{AllNumbered}
use Rattle.rule_schemes.specs.Statement.{IsOfInputs}
use Rattle.rule_schemes.specs.View.{statement}
use Rattle.core_proofs.proofs.scoping.are_goal_names.Given as goal

abbrev pub invariant-loop-i : goal.invariant-loop-i
invariant-loop-i l =
    AllNumbered (λ m decl. IsOfInputs (statement l.of) m → ⊥) l.i (drop l.i l.of.scope.metas)
    ↔ AllNumbered (λ m decl. IsOfInputs (statement l.of) m → ⊥) l.from (drop l.from l.of.scope.metas)
