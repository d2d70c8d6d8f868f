use Rattle.std.proofs.Common.{◌≡◌, ◌<◌, length, take, get_or, sym, subst}
use Rattle.std.proofs.lemmas.List.{take_all}
use Rattle.term_reader.specs.Splitting.{AreKnown}
use Rattle.term_reader.specs.View.{in_scope}
use Rattle.notation_parser.specs.Shapes.{begun, context_shape, shape_variables}
use Rattle.notation_parser.specs.View.{reading_scope}
use Rattle.notation_parser.proofs.ContextEntries.{known_shape}
use Rattle.notation_parser.proofs.ShapeViews.{variables_more}
use Rattle.notation_parser.proofs.contexts.shape_scope.Goals as goal

pub loop-entry-preserved : goal.loop-entry-preserved
loop-entry-preserved c =
    let lt : c.loop-entry.entry-index < length c.args.shape.now.entries = rw c.as_slice-entry-items.ensures at c.loop-entry-test.true in
    let is : c.entry-item.result ≡ get_or c.args.shape.now.entries c.loop-entry.entry-index c.entry-item.result = rw c.as_slice-entry-items.ensures at c.entry-item.is in
    rw c.in_ok-push.ensures.ok
    (variables_more c.args.sheet.now.sig.now (reading_scope c.args.scope.now) c.args.cat.0 (begun c.args.shape.now.start) c.args.shape.now.entries c.loop-entry.entry-index
    c.entry-item.result c.loop-entry.all lt is c.loop-entry.invariant)

pub returns-clause-known : goal.returns-clause-known
returns-clause-known c =
    let sheet = c.args.sheet.now in
    let scope = reading_scope c.args.scope.now in
    let shape = context_shape c.args.shape.now in
    let whole : take c.loop-entry.entry-index c.args.shape.now.entries ≡ c.args.shape.now.entries =
    take_all c.loop-entry.entry-index c.args.shape.now.entries (rw c.as_slice-entry-items.ensures at c.loop-entry-test.false) in
    let is : in_scope c.loop-entry.all ≡ shape_variables sheet.sig.now scope c.args.cat.0 shape = rw whole at c.loop-entry.invariant in
    subst (AreKnown sheet) (sym is) (known_shape sheet scope c.args.cat.0 shape c.requires.scope c.requires.usable)
