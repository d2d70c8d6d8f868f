use Rattle.std.proofs.Common.{◌<◌, length, sym, ◌∙◌, true≢false, arith}
use Rattle.scheme_terms.specs.View.{scheme}
use Rattle.proof_kernel.proofs.Comparing.{agree_at}
use Rattle.proof_kernel.proofs.same.same_schemes.Goals as goal

pub returns-then-not-same_scheme : goal.returns-then-not-same_scheme
returns-then-not-same_scheme c =
    let h : c.loop-i.i < length c.args.xs.now = omega arith in
    let k : c.loop-i.i < length c.args.ys.now = omega arith in (
      λ e. absurd (true≢false (sym e)),
      λ e. absurd (true≢false (sym (c.same_scheme.ensures.1 (agree_at scheme scheme _ _ _ _ _ h k e c.index-xs-i.is c.index-ys-i.is)) ∙ c.if-not-same_scheme.true)),
    )
