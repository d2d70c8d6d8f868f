use Rattle.std.proofs.Common.{◌≡◌, ◌≤◌, ◌+◌, drop}
use Rattle.outline_reader.specs.Derives.{level}
use Rattle.outline_reader.proofs.machine.level.Given as goal

abbrev pub invariant-loop-awaited : goal.invariant-loop-awaited
invariant-loop-awaited l = (l.levels ≤ l.awaited-index) × (l.levels + level (drop l.awaited-index l.stack) ≡ level l.stack)
