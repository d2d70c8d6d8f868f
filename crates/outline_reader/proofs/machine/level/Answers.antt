use Rattle.std.proofs.Common.{◌≡◌, drop, arith}
use Rattle.std.proofs.lemmas.List.{at_drop_all}
use Rattle.outline_reader.specs.Derives.{level}
use Rattle.outline_reader.proofs.StackLemmas.{level_reverse}
use Rattle.outline_reader.proofs.machine.level.Goals as goal

pub returns : goal.returns
returns c =
    let rest : level (drop c.loop-awaited.awaited-index c.args.stack.now) ≡ 0 = at_drop_all level c.args.stack.now c.loop-awaited.awaited-index c.loop-awaited-test.false in
    omega (arith, rest, c.loop-awaited.invariant.1, level_reverse c.args.stack.now)
