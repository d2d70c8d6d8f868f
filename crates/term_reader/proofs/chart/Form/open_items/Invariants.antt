use Rattle.std.proofs.Common.{◌<◌, ℕ}
use Rattle.term_reader.specs.Chart.{IsClosed}
use Rattle.term_reader.specs.Charting.{charted, CannotGoOn}
use Rattle.term_reader.proofs.chart.Form.open_items.Given as goal

-- the boxes of the items before this one tell the truth of the range
abbrev pub invariant-loop-item : goal.invariant-loop-item
invariant-loop-item l =
    ((a b c : ℕ) → IsClosed l.tails a b c → IsClosed l.fn.tails a b c)
    × ((k : ℕ) → 0 < k → k < l.item → IsClosed l.tails l.prod k l.from → CannotGoOn (charted l.self) l.prod k l.from l.to)
