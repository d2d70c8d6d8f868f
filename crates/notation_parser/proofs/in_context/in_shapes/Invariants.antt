use Rattle.std.proofs.Common.{map, take}
use Rattle.rule_schemes.specs.Said.{IsBefore}
use Rattle.term_reader.specs.Firsts.{listed}
use Rattle.term_reader.specs.Splitting.{slot_range, tokens_of}
use Rattle.notation_parser.specs.Forms.{IsReadInShapes}
use Rattle.notation_parser.specs.Fronts.{AreFirstAt, placed}
use Rattle.notation_parser.specs.Shapes.{context_shape}
use Rattle.notation_parser.specs.View.{reading_scope}
use Rattle.notation_parser.proofs.in_context.in_shapes.Given as goal

abbrev pub invariant-loop-shape : goal.invariant-loop-shape
invariant-loop-shape l =
    AreFirstAt IsBefore
    (IsReadInShapes l.sheet.sig.now (reading_scope l.scope) l.sheet.metas.now (tokens_of l.sheet) l.cat l.number l.place (map slot_range l.slots)
    (map context_shape (take l.shape-index l.all)))
    (listed placed l.found)
