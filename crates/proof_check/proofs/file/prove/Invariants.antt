use Rattle.std.proofs.Common.{◌≡◌, ◌++◌}
use Rattle.std.specs.Vec.Iter.{into_iter_items}
use Rattle.proof_check.proofs.file.prove.Given as goal

abbrev pub invariant-loop-step : goal.invariant-loop-step
invariant-loop-step l =
    (l.yielded ++ into_iter_items l.step-iterator ≡ l.fn.steps.items)
    × (l.proving ≡ record { system = l.fn.system; statements = l.fn.statements.items; steps = l.yielded })
