use Rattle.std.proofs.Common.{map, take}
use Rattle.scheme_terms.specs.View.{known_variable}
use Rattle.term_reader.specs.Splitting.{split}
use Rattle.notation_parser.specs.Shapes.{context_shape}
use Rattle.notation_parser.specs.ContextCases.{AreNewShapes}
use Rattle.notation_parser.proofs.heads.new_of_each.Given as goal

abbrev pub invariant-loop-one : goal.invariant-loop-one
invariant-loop-one l = AreNewShapes (map known_variable l.scope.scope.knowns) l.prod.0 (map split (take l.one-index l.found)) (map context_shape l.all)
