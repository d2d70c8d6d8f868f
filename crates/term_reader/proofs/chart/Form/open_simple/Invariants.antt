use Rattle.std.proofs.Common.{◌≡◌, ◌<◌, ◌+◌, ℕ}
use Rattle.term_reader.specs.Chart.{IsClosed}
use Rattle.term_reader.specs.Charting.{charted, CannotStand, IsKnown}
use Rattle.term_reader.proofs.chart.Form.open_simple.Given as goal

-- the boxes of the categories before this one are open where the range may read without a production
abbrev pub invariant-loop-cat : goal.invariant-loop-cat
invariant-loop-cat l =
    IsKnown (charted l.self) l.terms (l.from + 1) l.to
    × ((c : ℕ) → c < l.cat → IsClosed l.terms c l.from l.to → CannotStand (charted l.self) c l.from l.to)
    × (l.terms.layers ≡ l.fn.terms.layers) × (l.terms.columns ≡ l.fn.terms.columns)
