use Rattle.std.proofs.Common.{length, map}
use Rattle.proof_lexer.specs.View.{token_view}
use Rattle.proof_lexer.specs.Front.{spot_of}
use Rattle.proof_lexer.proofs.LexLemmas.{Scanned}
use Rattle.proof_lexer.proofs.lexer.lex.Given as goal

-- the tokens so far are those up to the cursor
abbrev pub invariant-loop-first : goal.invariant-loop-first
invariant-loop-first l = Scanned l.text (map token_view l.tokens.items) (spot_of l.at) (length l.at.rest.now)

abbrev pub decreases-loop-first : goal.decreases-loop-first
decreases-loop-first l = length l.at.rest.now
