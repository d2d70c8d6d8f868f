use Rattle.std.proofs.Common.{◌≡◌, ℕ, ◌∙◌}
use Rattle.term_reader.specs.Chart.{IsClosed}
use Rattle.term_reader.specs.Charting.{charted, CannotStand}
use Rattle.term_reader.proofs.ChartSteps.{one_category_more}
use Rattle.term_reader.proofs.chart.Form.open_simple.Goals.{then-is_simple, else-is_simple}
use Rattle.term_reader.proofs.chart.Form.open_simple.Goals as goal

pub loop-cat-preserved : goal.loop-cat-preserved
loop-cat-preserved c =
    let f = charted c.args.self.now in
    let now = c.loop-cat.terms in
    let kept : (a b d : ℕ) → IsClosed c.if-is_simple.terms a b d → IsClosed now a b d = elim c.if-is_simple.branch [
      | then-is_simple w ↦ rw w.terms-is w.open.ensures.kept
      | else-is_simple w ↦ rw w.terms-is (λ a b d shut. shut)
    ] in
    let layers : c.if-is_simple.terms.layers ≡ c.args.terms.now.layers = elim c.if-is_simple.branch [
      | then-is_simple w ↦ rw w.terms-is (w.open.ensures.layers ∙ c.loop-cat.invariant.2)
      | else-is_simple w ↦ rw w.terms-is c.loop-cat.invariant.2
    ] in
    let columns : c.if-is_simple.terms.columns ≡ c.args.terms.now.columns = elim c.if-is_simple.branch [
      | then-is_simple w ↦ rw w.terms-is (w.open.ensures.columns ∙ c.loop-cat.invariant.3)
      | else-is_simple w ↦ rw w.terms-is c.loop-cat.invariant.3
    ] in
    let here : IsClosed c.if-is_simple.terms c.loop-cat.cat c.args.from c.args.to → CannotStand f c.loop-cat.cat c.args.from c.args.to = elim c.if-is_simple.branch [
      | then-is_simple w ↦ rw w.terms-is (λ shut. absurd (w.open.ensures.opened shut))
      | else-is_simple w ↦ (λ shut. c.is_simple.ensures w.if-is_simple.false)
    ] in
    let more = one_category_more f now c.if-is_simple.terms c.loop-cat.cat c.args.from c.args.to c.loop-cat.invariant.0 c.loop-cat.invariant.1 kept here in
    (more.0, more.1, layers, columns)
