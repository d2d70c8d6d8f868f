use Rattle.std.proofs.Common.{◌≡◌, map, take}
use Rattle.term_reader.specs.View.{in_scope}
use Rattle.notation_parser.specs.Shapes.{begun, entry_shape, grown, shape_variables}
use Rattle.notation_parser.specs.View.{reading_scope}
use Rattle.notation_parser.proofs.contexts.shape_scope.Given as goal

abbrev pub invariant-loop-entry : goal.invariant-loop-entry
invariant-loop-entry l =
    in_scope l.all
    ≡ shape_variables l.sheet.sig.now (reading_scope l.scope) l.fn.cat.0 (grown (begun l.shape.start) (map entry_shape (take l.entry-index l.shape.entries)))
