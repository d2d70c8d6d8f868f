use Rattle.std.proofs.Common.{◌≡◌, ◌≤◌, ℕ, length, map, ap, ◌∙◌, arith}
use Rattle.std.proofs.lemmas.List.{length-map}
use Rattle.term_reader.specs.Chart.{IsClosed}
use Rattle.term_reader.specs.Charting.{charted, CannotGoOn}
use Rattle.term_reader.specs.View.{token}
use Rattle.term_reader.proofs.ChartSteps.{one_product_more, all_products}
use Rattle.term_reader.proofs.chart.Form.open_products.Goals.{then-tail, else-tail}
use Rattle.term_reader.proofs.chart.Form.open_products.Goals as goal

pub loop-prod-preserved : goal.loop-prod-preserved
loop-prod-preserved c =
    let f = charted c.args.self.now in
    let now = c.loop-prod.terms in
    let h : c.args.to ≤ length (map token c.args.self.now.tokens.now) = omega (arith, c.requires.range.1, length-map c.args.self.now.tokens.now token) in
    let kept : (a b d : ℕ) → IsClosed c.if-tail.terms a b d → IsClosed now a b d = elim c.if-tail.branch [
      | then-tail w ↦ rw w.terms-is w.open.ensures.kept
      | else-tail w ↦ rw w.terms-is (λ a b d shut. shut)
    ] in
    let columns : c.if-tail.terms.columns ≡ c.args.terms.now.columns = elim c.if-tail.branch [
      | then-tail w ↦ rw w.terms-is (w.open.ensures.columns ∙ c.loop-prod.invariant.2)
      | else-tail w ↦ rw w.terms-is c.loop-prod.invariant.2
    ] in
    let here : IsClosed c.if-tail.terms c.cat_of-cat.result c.args.from c.args.to → CannotGoOn f c.loop-prod.prod 0 c.args.from c.args.to = elim c.if-tail.branch [
      | then-tail w ↦ rw w.terms-is (λ shut. absurd (w.open.ensures.opened shut))
      | else-tail w ↦ (λ shut. c.tail.ensures w.if-tail.false)
    ] in
    let more = one_product_more f c.args.terms.now now c.if-tail.terms c.loop-prod.prod c.cat_of-cat.result c.args.from c.args.to c.requires.range.0 h c.cat_of-cat.ensures
    c.loop-prod.invariant.0 c.loop-prod.invariant.1 kept here in
    (more.0, more.1, columns)

pub returns-clause-here : goal.returns-clause-here
returns-clause-here c =
    let long : length c.args.self.now.sig.now.prods ≤ c.loop-prod.prod = omega (arith, c.loop-prod-test.false, ap length c.prods.ensures.value) in
    all_products (charted c.args.self.now) c.loop-prod.terms c.loop-prod.prod c.args.from c.args.to long c.loop-prod.invariant.1
