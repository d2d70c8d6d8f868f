use Rattle.std.proofs.Common.{◌<◌, length, sym, ◌∙◌, true≢false, arith}
use Rattle.binding_terms.proofs.Args.{same_length, same_at}
use Rattle.binding_terms.proofs.term.+same.Goals as goal

pub same_all-returns-then-xs-ys : goal.same_all-returns-then-xs-ys
same_all-returns-then-xs-ys t c = (λ e. absurd (true≢false (sym e)), λ e. absurd (c.if-xs-ys.true (same_length _ _ e)))

pub same_all-returns-then-not-same_arg : goal.same_all-returns-then-not-same_arg
same_all-returns-then-not-same_arg t c =
    let h : c.loop-i.i < length c.args.xs.now = omega arith in
    let k : c.loop-i.i < length c.args.ys.now = omega arith in (
      λ e. absurd (true≢false (sym e)),
      λ e. absurd (true≢false (sym (c.same_arg.ensures.1 (same_at _ _ _ _ _ h k e c.index-xs-i.is c.index-ys-i.is)) ∙ c.if-not-same_arg.true)),
    )
