use Rattle.std.proofs.Common.{drop}
use Rattle.scheme_terms.specs.View.{instance}
use Rattle.core_proofs.specs.Kept.{kept_theory, kept_statements, kept_steps}
use Rattle.theorem_runner.specs.Runs.{GoesOn}
use Rattle.theorem_runner.proofs.running.make.Given as goal

abbrev pub invariant-loop-i : goal.invariant-loop-i
invariant-loop-i l =
    GoesOn (kept_theory l.acc) (kept_statements l.acc) (instance l.inst) l.fn.given.items (drop l.fn.from (kept_steps l.acc)) l.made.items (drop l.i (kept_steps l.acc))
