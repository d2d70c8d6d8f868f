use Rattle.std.proofs.Common.{◌≡◌, ◌++◌, List, length, map}
use Rattle.proof_lexer.specs.View.{token_view}
use Rattle.proof_lexer.specs.declared.token.Token.{Token}
use Rattle.proof_check.specs.Places.{IsKeptOf, NoneAmongFirst}
use Rattle.proof_check.proofs.unbuilt.first_unbuilt.Given as goal

abbrev pub invariant-loop-left : goal.invariant-loop-left
invariant-loop-left l =
    (front : List Token) × (l.tokens ≡ front ++ l.left) × IsKeptOf (map token_view front) l.before × NoneAmongFirst (map token_view l.tokens) (length (map token_view front))

abbrev pub decreases-loop-left : goal.decreases-loop-left
decreases-loop-left l = length l.left
