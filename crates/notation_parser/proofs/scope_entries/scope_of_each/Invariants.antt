use Rattle.std.proofs.Common.{map, take}
use Rattle.scheme_terms.specs.View.{known_variable}
use Rattle.term_reader.specs.Splitting.{split}
use Rattle.notation_parser.specs.Shapes.{context_shape}
use Rattle.notation_parser.specs.ContextCases.{AreScopeShapes}
use Rattle.notation_parser.proofs.scope_entries.scope_of_each.Given as goal

abbrev pub invariant-loop-one : goal.invariant-loop-one
invariant-loop-one l = AreScopeShapes (map known_variable l.knowns) l.prod.0 (map split (take l.one-index l.found)) (map context_shape l.all)
