use Rattle.std.proofs.Common.{◌≡◌, map, take}
use Rattle.term_reader.specs.Splitting.{split}
use Rattle.notation_parser.specs.Shapes.{context_shape}
use Rattle.notation_parser.specs.ContextCases.{crossed}
use Rattle.notation_parser.proofs.shaping.cross.Given as goal

abbrev pub invariant-loop-found : goal.invariant-loop-found
invariant-loop-found l =
    map context_shape l.all ≡ crossed l.prod.0 l.before (map context_shape l.inner) (map split (take l.found-index l.behind))
