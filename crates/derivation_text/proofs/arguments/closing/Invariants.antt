use Rattle.std.proofs.Common.{◌≤◌, map, take, drop}
use Rattle.term_reader.specs.View.{token}
use Rattle.derivation_text.proofs.EndingLemmas.{Passes}
use Rattle.derivation_text.proofs.arguments.closing.Given as goal

abbrev pub invariant-loop-i : goal.invariant-loop-i
invariant-loop-i l = (l.depth ≤ l.i) × Passes (map token l.tokens) (map token (take l.i l.tokens)) (map token (drop l.i l.tokens)) l.depth
