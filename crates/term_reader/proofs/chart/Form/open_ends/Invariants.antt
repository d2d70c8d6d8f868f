use Rattle.std.proofs.Common.{◌≡◌}
use Rattle.term_reader.specs.Charting.{charted, IsKnown, AreTailsKnown}
use Rattle.term_reader.proofs.chart.Form.open_ends.Given as goal

-- all boxes tell the truth of the ranges that begin here or later
abbrev pub invariant-loop-from : goal.invariant-loop-from
invariant-loop-from l =
    IsKnown (charted l.self) l.terms l.from l.to × AreTailsKnown (charted l.self) l.tails l.from l.to × (l.terms.columns ≡ l.fn.terms.columns)
