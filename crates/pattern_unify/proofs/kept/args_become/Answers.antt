use Rattle.std.proofs.Common.{◌<◌, length, sym, ◌∙◌, true≢false, arith}
use Rattle.scheme_terms.specs.Substituting.{applied}
use Rattle.scheme_terms.specs.View.{scheme, substitution}
use Rattle.binding_terms.proofs.Lists.{each_map}
use Rattle.pattern_unify.proofs.NumbersKept.{mapped_at}
use Rattle.pattern_unify.proofs.kept.args_become.Goals as goal

pub returns-then-not-same_scheme : goal.returns-then-not-same_scheme
returns-then-not-same_scheme c =
    let h : c.loop-i.i < length c.args.args.now = omega arith in
    let k : c.loop-i.i < length c.args.others.now = omega arith in (
      λ e. absurd (true≢false (sym e)),
      λ e. absurd (true≢false (sym (c.same_scheme.ensures.1
          (mapped_at scheme (λ s. applied (substitution c.args.by.now).metas (substitution c.args.by.now).knowns 0 (scheme s)) c.args.others.now c.args.args.now c.loop-i.i
          c.index-others-i.result c.index-args-i.result k h
          (e ∙ each_map scheme (applied (substitution c.args.by.now).metas (substitution c.args.by.now).knowns 0) c.args.args.now)
          c.index-others-i.is c.index-args-i.is ∙ sym c.in_ok-made.ensures)) ∙ c.if-not-same_scheme.true)),
    )
