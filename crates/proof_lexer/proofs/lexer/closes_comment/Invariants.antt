use Rattle.std.proofs.Common.{◌≡◌, ℕ, suc, ◌<◌, get_or}
use Rattle.proof_lexer.proofs.lexer.closes_comment.Given as goal

abbrev pub invariant-loop-place : goal.invariant-loop-place
invariant-loop-place l = (k : ℕ) → suc k < l.place → get_or l.bytes k 0 ≡ 42 → get_or l.bytes (suc k) 0 ≡ 47 → ⊥
