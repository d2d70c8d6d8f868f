use Rattle.notation_parser.specs.Shapes.{begun}
use Rattle.notation_parser.proofs.ShapeViews.{entry_last}
use Rattle.notation_parser.proofs.shaping.with_entry.Goals as goal

pub returns : goal.returns
returns c =
    rw (c.in_ok-push.ensures.ok, c.in_ok-start.ensures)
    (entry_last (begun c.args.shape.now.start) c.args.shape.now.entries _ _ c.args.entry.now (rw c.as_slice.ensures at c.in_ok-entries.ensures) c.in_ok-copy_entered.ensures)
