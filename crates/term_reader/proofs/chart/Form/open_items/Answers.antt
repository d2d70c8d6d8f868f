use Rattle.std.proofs.Common.{◌≡◌, ◌≤◌, ℕ, length, refl, arith, Some, slice_get}
use Rattle.std.proofs.lemmas.Option.{slice_get_read}
use Rattle.term_reader.specs.Chart.{IsClosed}
use Rattle.term_reader.specs.Charting.{charted, CannotGoOn}
use Rattle.term_reader.proofs.ChartSteps.{one_item_more, all_items}
use Rattle.term_reader.proofs.chart.Form.open_items.Goals.{then-tail, else-tail}
use Rattle.term_reader.proofs.chart.Form.open_items.Goals as goal

pub loop-item-preserved : goal.loop-item-preserved
loop-item-preserved c =
    let f = charted c.args.self.now in
    let now = c.loop-item.tails in
    let kept : (a b d : ℕ) → IsClosed c.if-tail.tails a b d → IsClosed now a b d = elim c.if-tail.branch [
      | then-tail w ↦ rw w.tails-is w.open.ensures.kept
      | else-tail w ↦ rw w.tails-is (λ a b d shut. shut)
    ] in
    let here : IsClosed c.if-tail.tails c.args.prod c.loop-item.item c.args.from → CannotGoOn f c.args.prod c.loop-item.item c.args.from c.args.to = elim c.if-tail.branch [
      | then-tail w ↦ rw w.tails-is (λ shut. absurd (w.open.ensures.opened shut))
      | else-tail w ↦ (λ shut. c.tail.ensures w.if-tail.false)
    ] in
    one_item_more f c.args.tails.now now c.if-tail.tails c.args.prod c.loop-item.item c.args.from c.args.to c.loop-item.invariant.0 c.loop-item.invariant.1 kept here

pub returns-clause-known : goal.returns-clause-known
returns-clause-known c =
    let prod = c.index.result.now in
    let found : slice_get c.args.self.now.sig.now.prods c.args.prod ≡ Some prod =
    slice_get_read c.args.self.now.sig.now.prods _ c.args.prod prod refl c.requires.prod (rw c.prods.ensures.value at c.index.ensures) in
    let long : length prod.items ≤ c.loop-item.item = omega (arith, c.loop-item-test.false, c.len-count.ensures) in
    all_items (charted c.args.self.now) c.loop-item.tails c.args.prod c.loop-item.item c.args.from c.args.to prod found long c.loop-item.invariant.1
