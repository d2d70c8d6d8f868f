use Rattle.std.proofs.Common.{ℕ, List, subst}
use Rattle.std.proofs.lemmas.Result.{IfOk-weaker, IfErr-weaker}
use Rattle.sasylf_command.specs.Reply.{RunsOn, judged}
use Rattle.sasylf_command.proofs.Replies.{refused_at}
use Rattle.sasylf_command.proofs.reply.right_reply.Goals as goal

pub returns-clause-ok : goal.returns-clause-ok
returns-clause-ok g c =
    IfOk-weaker _ _ _
    (λ reply is. judged c.in_ok-lines.lines.items c.in_ok-lines.ensures.ok
    (subst (λ (x : List ℕ). RunsOn c.args.source.now c.args.run.now.theorem.now x reply.status reply.text.items) c.deref.ensures.value is))
    c.value_reply.ensures.ok

pub returns-clause-err : goal.returns-clause-err
returns-clause-err g c =
    IfErr-weaker _ _ _
    (λ stop is. refused_at stop _ _
    (λ status text runs. judged c.in_ok-lines.lines.items c.in_ok-lines.ensures.ok
    (subst (λ (x : List ℕ). RunsOn c.args.source.now c.args.run.now.theorem.now x status text) c.deref.ensures.value runs))
    is)
    c.value_reply.ensures.err
