use Rattle.std.proofs.Common.{◌<◌, length, sym, ◌∙◌, true≢false, arith}
use Rattle.scheme_terms.specs.View.{scheme_entry}
use Rattle.proof_kernel.proofs.Comparing.{agree_at}
use Rattle.proof_kernel.proofs.same.same_entries.Goals as goal

pub returns-then-not-same_entry : goal.returns-then-not-same_entry
returns-then-not-same_entry c =
    let h : c.loop-i.i < length c.args.xs.now = omega arith in
    let k : c.loop-i.i < length c.args.ys.now = omega arith in (
      λ e. absurd (true≢false (sym e)),
      λ e. absurd (true≢false (sym (c.same_entry.ensures.1 (agree_at scheme_entry scheme_entry _ _ _ _ _ h k e c.index-xs-i.is c.index-ys-i.is)) ∙ c.if-not-same_entry.true)),
    )
