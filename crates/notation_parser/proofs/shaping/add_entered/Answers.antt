use Rattle.std.proofs.Common.{map}
use Rattle.notation_parser.specs.Shapes.{entry_shape, context_shape}
use Rattle.notation_parser.proofs.ShapeViews.{with_more}
use Rattle.notation_parser.proofs.shaping.add_entered.Goals as goal

pub loop-shape-preserved : goal.loop-shape-preserved
loop-shape-preserved c =
    rw c.in_ok-push.ensures.ok
    (with_more (entry_shape c.args.entry.now) c.args.inner.now c.loop-shape.shape-index c.shape-item.result (map context_shape c.args.all.now) c.loop-shape.all _
    c.loop-shape-test.true c.shape-item.is c.loop-shape.invariant c.in_ok-with_entry.ensures)
