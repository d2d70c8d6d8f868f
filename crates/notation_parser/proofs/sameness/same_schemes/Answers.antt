use Rattle.std.proofs.Common.{◌<◌, length, sym, ◌∙◌, true≢false, arith}
use Rattle.scheme_terms.specs.View.{scheme}
use Rattle.notation_parser.proofs.sameness.same_schemes.Goals as goal
use Rattle.binding_terms.proofs.Lists.{same_at, same_length}

pub returns-then-xs-ys : goal.returns-then-xs-ys
returns-then-xs-ys c = (λ e. absurd (true≢false (sym e)), λ e. absurd (c.if-xs-ys.true (same_length scheme _ _ e)))

pub returns-then-not-same_scheme : goal.returns-then-not-same_scheme
returns-then-not-same_scheme c =
    let h : c.loop-i.i < length c.args.xs.now = omega arith in
    let k : c.loop-i.i < length c.args.ys.now = omega arith in (
      λ e. absurd (true≢false (sym e)),
      λ e. absurd (true≢false (sym (c.same_scheme.ensures.1 (same_at scheme _ _ _ _ _ h k e c.index-xs-i.is c.index-ys-i.is)) ∙ c.if-not-same_scheme.true)),
    )
