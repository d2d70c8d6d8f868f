use Rattle.std.proofs.Common.{◌≡◌, ℕ, suc, ◌-◌, get_or, subst, refl, arith}
use Rattle.proof_lexer.proofs.LexLemmas.{run_over, run_of_none}
use Rattle.proof_lexer.proofs.lexer.closes_comment.Goals as goal

pub returns-then-bytes-place-eq47 : goal.returns-then-bytes-place-eq47
returns-then-bytes-place-eq47 c =
    let place = c.loop-place.place in
    let next : place ≡ suc (place - 1) = omega arith in
    let slash = subst (λ (n : ℕ). get_or c.args.bytes.now n 0 ≡ 47) next c.if-bytes-place-eq47.true in
    (λ is. cc, λ longest. absurd (run_over c.args.bytes.now (place - 1) (omega arith) c.if-bytes-place-eq42.true slash longest))

pub returns : goal.returns
returns c =
    (λ _. run_of_none c.args.bytes.now (λ k within star slash. c.loop-place.invariant k (omega arith) star slash), λ _. refl)
