use Rattle.std.proofs.Common.{List, ℕ, length, chars}
use denote.Text.{Utf8}
use denote.Shadow.{shadow}
use Rattle.proof_lexer.specs.Front.{goes_on, RunEnds}
use Rattle.proof_lexer.proofs.run.after_run.Given as goal

-- where the run of what is left ends, there ends that of the whole
abbrev pub invariant-loop-first : goal.invariant-loop-first
invariant-loop-first l = shadow (Utf8 l.rest)
    × ((end : List ℕ) → RunEnds (goes_on l.run) (chars l.rest) end → RunEnds (goes_on l.run) (chars l.text) end)

abbrev pub decreases-loop-first : goal.decreases-loop-first
decreases-loop-first l = length l.rest
