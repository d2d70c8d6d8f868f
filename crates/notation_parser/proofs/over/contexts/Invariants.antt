use Rattle.std.proofs.Common.{map, take}
use Rattle.rule_schemes.specs.Said.{IsBefore}
use Rattle.term_reader.specs.Firsts.{listed, AreFirst}
use Rattle.term_reader.specs.Splitting.{tokens_of}
use Rattle.notation_parser.specs.Shapes.{context_shape}
use Rattle.notation_parser.specs.View.{outcome, reading_scope}
use Rattle.notation_parser.proofs.ContextForms.{AsContext}
use Rattle.notation_parser.proofs.Several.{InOneOf}
use Rattle.notation_parser.proofs.over.contexts.Given as goal

abbrev pub invariant-loop-shape : goal.invariant-loop-shape
invariant-loop-shape l =
    AreFirst IsBefore
    (InOneOf (AsContext l.sheet.sig.now (reading_scope l.scope) l.sheet.metas.now (tokens_of l.sheet) l.cat) (map context_shape (take l.shape-index l.shape-items)))
    (listed outcome l.found)
