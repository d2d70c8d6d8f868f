use Rattle.std.proofs.Common.{map}
use Rattle.scheme_terms.specs.View.{known_variable}
use Rattle.term_reader.specs.Splitting.{split}
use Rattle.notation_parser.specs.Shapes.{entry_shape}
use Rattle.notation_parser.proofs.NewEntries.{new_shape_is}
use Rattle.notation_parser.proofs.heads.new_shape.Goals as goal

pub returns : goal.returns
returns c =
    rw (c.new.ensures, c.in_ok-number.ensures)
    (new_shape_is (map known_variable c.args.scope.now.scope.knowns) c.args.prod.0 c.known_number-known.result (split c.args.found.now) (entry_shape c.in_ok-entry.entry) c.in_ok-entry.ensures
    (rw c.as_slice.ensures at c.known_number-known.ensures))
