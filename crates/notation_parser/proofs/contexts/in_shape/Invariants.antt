use Rattle.std.proofs.Common.{◌≡◌, map, take}
use Rattle.rule_schemes.specs.Said.{IsBefore}
use Rattle.term_reader.specs.Firsts.{listed, AreFirst}
use Rattle.term_reader.specs.Splitting.{tokens_of}
use Rattle.term_reader.specs.View.{in_scope}
use Rattle.notation_parser.specs.Shapes.{ContextShape, begun, entry_shape, grown, shape_variables, ReadsInShape, written_context}
use Rattle.notation_parser.specs.View.{reading_scope}
use Rattle.notation_parser.proofs.contexts.in_shape.Given as goal

abbrev pub invariant-loop-entry : goal.invariant-loop-entry
invariant-loop-entry l =
    let front : ContextShape = grown (begun l.shape.start) (map entry_shape (take l.entry-index l.shape.entries)) in
    (in_scope l.vars ≡ shape_variables l.sheet.sig.now (reading_scope l.scope) l.fn.cat.0 front)
    × AreFirst IsBefore (ReadsInShape l.sheet.sig.now (reading_scope l.scope) l.sheet.metas.now (tokens_of l.sheet) l.fn.cat front)
    (listed written_context l.found)
