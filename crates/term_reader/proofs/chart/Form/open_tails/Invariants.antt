use Rattle.std.proofs.Common.{◌<◌, ◌+◌, ℕ}
use Rattle.term_reader.specs.Chart.{IsClosed}
use Rattle.term_reader.specs.Charting.{charted, CannotGoOn, AreTailsKnown}
use Rattle.term_reader.proofs.chart.Form.open_tails.Given as goal

-- the boxes of the productions before this one tell the truth of the range
abbrev pub invariant-loop-prod : goal.invariant-loop-prod
invariant-loop-prod l =
    AreTailsKnown (charted l.self) l.tails (l.from + 1) l.to
    × ((p k : ℕ) → p < l.prod → 0 < k → IsClosed l.tails p k l.from → CannotGoOn (charted l.self) p k l.from l.to)
