use Rattle.std.proofs.Common.{◌≡◌, ◌↔◌, map, drop, length}
use Rattle.std.specs.List.{AllByRecursion}
use Rattle.rule_schemes.specs.View.{statement}
use Rattle.proof_check.proofs.file.have_one_conclusion.Given as goal

abbrev pub invariant-loop-statement : goal.invariant-loop-statement
invariant-loop-statement l =
    AllByRecursion (λ st. length st.outputs ≡ 1) (map statement (drop l.statement-index l.statements)) ↔ AllByRecursion (λ st. length st.outputs ≡ 1) (map statement l.statements)
