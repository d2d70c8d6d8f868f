use Rattle.std.proofs.Common.{◌<◌, length, sym, ◌∙◌, true≢false, arith}
use Rattle.binding_terms.proofs.Lists.{each_map}
use Rattle.scheme_terms.specs.SchemeTree.{shifted}
use Rattle.scheme_terms.specs.View.{scheme}
use Rattle.proof_kernel.proofs.Comparing.{agree_at}
use Rattle.proof_kernel.proofs.weakening.are_shifted.Goals as goal

pub returns-then-not-same : goal.returns-then-not-same
returns-then-not-same c =
    let h : c.loop-i.i < length c.args.to.now = omega arith in
    let k : c.loop-i.i < length c.args.from.now = omega arith in (
      λ e. absurd (true≢false (sym e)),
      λ e. absurd (true≢false (sym (c.in_ok-same.ensures.1 (agree_at scheme (λ s. shifted 0 1 (scheme s)) _ _ _ _ _ h k
          (e ∙ each_map scheme (shifted 0 1) c.args.from.now) c.index-to-i.is c.index-from-i.is)) ∙ c.if-not-same.true)),
    )
