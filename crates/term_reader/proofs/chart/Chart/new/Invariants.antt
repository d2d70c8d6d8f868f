use Rattle.std.proofs.Common.{◌≡◌, ◌+◌}
use Rattle.term_reader.specs.Charting.{charted, IsKnown}
use Rattle.term_reader.proofs.chart.Chart.new.Given as goal

-- the boxes tell the truth of the ranges that end before this place
abbrev pub invariant-loop-to : goal.invariant-loop-to
invariant-loop-to l = IsKnown (charted l.form) l.terms l.to l.to × (l.terms.columns ≡ l.count + 1)
