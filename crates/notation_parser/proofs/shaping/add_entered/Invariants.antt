use Rattle.std.proofs.Common.{◌≡◌, ◌++◌, map, take}
use Rattle.notation_parser.specs.Shapes.{entry_shape, context_shape}
use Rattle.notation_parser.specs.ContextCases.{with_entries}
use Rattle.notation_parser.proofs.shaping.add_entered.Given as goal

abbrev pub invariant-loop-shape : goal.invariant-loop-shape
invariant-loop-shape l =
    map context_shape l.all ≡ map context_shape l.fn.all ++ with_entries (entry_shape l.entry) (map context_shape (take l.shape-index l.inner))
