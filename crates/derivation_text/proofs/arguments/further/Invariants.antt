use Rattle.std.proofs.Common.{◌≤◌, ◌-◌, map, drop, length}
use Rattle.term_reader.specs.View.{token}
use Rattle.derivation_text.specs.Contents.{argument}
use Rattle.derivation_text.proofs.EndingLemmas.{Gathers}
use Rattle.derivation_text.proofs.arguments.further.Given as goal

abbrev pub invariant-loop-at : goal.invariant-loop-at
invariant-loop-at l =
    (l.at ≤ length l.tokens)
    × Gathers l.known (map token l.tokens) (map argument l.initial.args) (map argument l.args) (map token (drop l.at l.tokens))

abbrev pub decreases-loop-at : goal.decreases-loop-at
decreases-loop-at l = length l.tokens - l.at
