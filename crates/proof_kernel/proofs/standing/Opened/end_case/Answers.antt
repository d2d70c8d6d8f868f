use Rattle.std.proofs.Common.{◌-◌, max, ap, ◌∙◌, add-one, arith}
use Rattle.proof_kernel.proofs.EndedCases.{ended_case}
use Rattle.proof_kernel.proofs.standing.Opened.end_case.Goals as goal

pub returns-then-self-len : goal.returns-then-self-len
returns-then-self-len c =
    rw add-one (ended_case c.args.self.now c.args.numbers c.max-self.result (omega arith)
    (c.max-self.ensures ∙ ap (λ n. max c.args.self.now.taken n) (c.saturating_sub-own.ensures ∙ ap (λ n. c.args.numbers - n) c.len-then-self-len.ensures)))
