use Rattle.std.proofs.Common.{◌⊎◌, ◌<◌, ℕ}
use Rattle.term_reader.specs.Chart.{IsClosed}
use Rattle.term_reader.proofs.chart.splits.Given as goal

abbrev pub invariant-loop-mid : goal.invariant-loop-mid
invariant-loop-mid l = (mid : ℕ) → l.from < mid → mid < l.mid → IsClosed l.terms l.cat l.from mid ⊎ IsClosed l.tails l.prod l.item mid
