use Rattle.std.proofs.Common.{◌<◌, length, sym, ◌∙◌, true≢false, arith}
use Rattle.scheme_terms.proofs.Parts.{same_length_values, same_value_at, same_length_parts, same_part_at}
use Rattle.scheme_terms.proofs.same.+same.Goals as goal

pub same_values-returns-then-xs-ys : goal.same_values-returns-then-xs-ys
same_values-returns-then-xs-ys t c = (λ e. absurd (true≢false (sym e)), λ e. absurd (c.if-xs-ys.true (same_length_values _ _ e)))

pub same_values-returns-then-not-same_scheme : goal.same_values-returns-then-not-same_scheme
same_values-returns-then-not-same_scheme t c =
    let h : c.loop-i.i < length c.args.xs.now = omega arith in
    let k : c.loop-i.i < length c.args.ys.now = omega arith in (
      λ e. absurd (true≢false (sym e)),
      λ e. absurd (true≢false (sym (c.same_scheme.ensures.1 (same_value_at _ _ _ _ _ h k e c.index-xs-i.is c.index-ys-i.is)) ∙ c.if-not-same_scheme.true)),
    )

pub same_parts-returns-then-xs-ys : goal.same_parts-returns-then-xs-ys
same_parts-returns-then-xs-ys t c = (λ e. absurd (true≢false (sym e)), λ e. absurd (c.if-xs-ys.true (same_length_parts _ _ e)))

pub same_parts-returns-then-not-same_part : goal.same_parts-returns-then-not-same_part
same_parts-returns-then-not-same_part t c =
    let h : c.loop-i.i < length c.args.xs.now = omega arith in
    let k : c.loop-i.i < length c.args.ys.now = omega arith in (
      λ e. absurd (true≢false (sym e)),
      λ e. absurd (true≢false (sym (c.same_part.ensures.1 (same_part_at _ _ _ _ _ h k e c.index-xs-i.is c.index-ys-i.is)) ∙ c.if-not-same_part.true)),
    )
