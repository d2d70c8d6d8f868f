use Rattle.std.proofs.Common.{ap, reverse, slice_index, refl, ◌∙◌}
use Rattle.std.proofs.lemmas.List.{take_all}
use Rattle.binding_terms.specs.Signature.{binders}
use Rattle.cell_reader.proofs.KnownWords.{last_more}
use Rattle.cell_reader.proofs.knowns.last_binder.Goals as goal

pub loop-item-init : goal.loop-item-init
loop-item-init c = refl

pub loop-item-preserved : goal.loop-item-preserved
loop-item-preserved c =
    last_more c.args.items.now c.loop-item.item-index c.item-item.result c.loop-item.cat.0 c.later-cat.result.0 c.loop-item-test.true c.item-item.is c.loop-item.invariant c.later-cat.ensures

pub returns : goal.returns
returns c = c.loop-item.invariant ∙ ap (λ xs. slice_index (reverse (binders xs)) 0) (take_all c.loop-item.item-index c.args.items.now c.loop-item-test.false)
