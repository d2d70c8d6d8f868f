use Rattle.std.proofs.Common.{◌++◌, ◌<◌, length, map, ap, ◌∙◌, arith}
use Rattle.std.proofs.lemmas.List.{length-map}
use Rattle.term_reader.specs.Splitting.{Divided, split}
use Rattle.term_reader.specs.View.{variable}
use Rattle.term_reader.proofs.Usable.{split_at}
use Rattle.notation_parser.specs.Shapes.{context_shape}
use Rattle.notation_parser.specs.ContextCases.{entry_of_split, with_entries}
use Rattle.notation_parser.proofs.ShapeViews.{cross_more}
use Rattle.notation_parser.proofs.shaping.cross.Goals as goal

pub entry_of-requires : goal.entry_of-requires
entry_of-requires c =
    let here = c.found-item.result in
    let some = split_at (λ (d : Divided). 0 < length d.0) c.args.behind.now c.loop-found.found-index here c.loop-found-test.true c.found-item.is c.requires in
    omega (arith, some, length-map here.own variable)

pub loop-found-preserved : goal.loop-found-preserved
loop-found-preserved c =
    let inner = map context_shape c.args.inner.now in
    c.in_ok-add_entered.ensures
    ∙ ap (λ e. map context_shape c.loop-found.all ++ with_entries e inner) c.in_ok-entry.ensures
    ∙ ap (λ ys. ys ++ with_entries (entry_of_split c.args.prod.0 c.args.before (split c.found-item.result)) inner) c.loop-found.invariant
    ∙ cross_more c.args.prod.0 c.args.before inner c.args.behind.now c.loop-found.found-index c.found-item.result c.loop-found-test.true c.found-item.is
