use Rattle.term_reader.specs.Charting.{charted}
use Rattle.term_reader.proofs.ChartSteps.{range_known}
use Rattle.term_reader.proofs.chart.Form.open_terms.Goals as goal

pub returns-clause-known : goal.returns-clause-known
returns-clause-known c =
    range_known (charted c.args.self.now) _ _ c.args.from c.args.to c.open_simple.ensures.known c.open_simple.ensures.here c.open_products.ensures.kept c.open_products.ensures.here
