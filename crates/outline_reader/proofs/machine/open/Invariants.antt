use Rattle.std.proofs.Common.{◌≡◌, ◌++◌, reverse, map}
use Rattle.outline_reader.specs.Derives.{await}
use Rattle.outline_reader.proofs.machine.open.Given as goal

-- what is left and then the stack is all of it and then the stack as it was
abbrev pub invariant-loop-item : goal.invariant-loop-item
invariant-loop-item l = map (await l.within) l.item-iterator.iter.rest.now ++ reverse l.stack.items ≡ map (await l.within) l.items ++ reverse l.fn.stack.items
