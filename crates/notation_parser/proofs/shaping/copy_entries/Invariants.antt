use Rattle.std.proofs.Common.{◌≡◌, map, take}
use Rattle.notation_parser.specs.Shapes.{entry_shape}
use Rattle.notation_parser.proofs.shaping.copy_entries.Given as goal

abbrev pub invariant-loop-entry : goal.invariant-loop-entry
invariant-loop-entry l = map entry_shape l.all ≡ map entry_shape (take l.entry-index l.entries)
