use Rattle.std.proofs.Common.{map}
use Rattle.term_reader.specs.Splitting.{tokens_of}
use Rattle.notation_parser.specs.Shapes.{context_shape}
use Rattle.notation_parser.specs.ContextCases.{IsKnownBelow, AreListed}
use Rattle.notation_parser.specs.View.{reading_scope}
use Rattle.notation_parser.proofs.known_entries.known_shapes.Given as goal

abbrev pub invariant-loop-p : goal.invariant-loop-p
invariant-loop-p l =
    AreListed l.sheet (reading_scope l.scope) l.cat
    (IsKnownBelow l.p l.sheet.sig.now (reading_scope l.scope) l.sheet.metas.now l.cat (tokens_of l.sheet) l.from l.to) (map context_shape l.all)
