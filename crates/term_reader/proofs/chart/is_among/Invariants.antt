use Rattle.std.proofs.Common.{◌↔◌, drop}
use Rattle.term_reader.specs.Chart.{IsAmong}
use Rattle.term_reader.proofs.chart.is_among.Given as goal

abbrev pub invariant-loop-one : goal.invariant-loop-one
invariant-loop-one l = IsAmong (drop l.one-index l.words) l.cat l.word ↔ IsAmong l.words l.cat l.word
