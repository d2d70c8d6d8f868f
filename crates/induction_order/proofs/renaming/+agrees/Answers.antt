use Rattle.std.proofs.Common.{◌<◌, length, sym, ◌∙◌, true≢false, arith}
use Rattle.induction_order.specs.Binders.{count}
use Rattle.induction_order.specs.Renaming.{Agrees}
use Rattle.induction_order.proofs.Likeness.{like_lengths, parts_lengths, like_from, parts_from}
use Rattle.induction_order.proofs.renaming.+agrees.Goals as goal

pub agree_values-returns-then-xs-ys : goal.agree_values-returns-then-xs-ys
agree_values-returns-then-xs-ys t c =
    (λ e. absurd (true≢false (sym e)), λ like. absurd (c.if-xs-ys.true (like_lengths _ _ _ _ _ like)))

pub agree_values-returns-then-not-agrees : goal.agree_values-returns-then-not-agrees
agree_values-returns-then-not-agrees t c =
    let h : c.loop-i.i < length c.args.xs.now = omega arith in
    let k : c.loop-i.i < length c.args.ys.now = omega arith in
    let next = like_from (Agrees c.args.pair.arg c.args.pair.part) (count c.args.outer.now) (count c.args.inner.now) c.args.xs.now c.args.ys.now c.loop-i.i _ _ h k c.index-xs-i.is c.index-ys-i.is in (
      λ e. absurd (true≢false (sym e)),
      λ like. absurd (true≢false (sym (c.agrees.ensures.1 (next.0 (c.loop-i.invariant.1 like)).0) ∙ c.if-not-agrees.true)),
    )

pub agree_values-loop-i-preserved : goal.agree_values-loop-i-preserved
agree_values-loop-i-preserved t c =
    let h : c.loop-i.i < length c.args.xs.now = omega arith in
    let k : c.loop-i.i < length c.args.ys.now = omega arith in
    let next = like_from (Agrees c.args.pair.arg c.args.pair.part) (count c.args.outer.now) (count c.args.inner.now) c.args.xs.now c.args.ys.now c.loop-i.i _ _ h k c.index-xs-i.is c.index-ys-i.is in (
      λ rest. c.loop-i.invariant.0 (next.1 (c.agrees.ensures.0 c.if-not-agrees.false, rest)),
      λ like. (next.0 (c.loop-i.invariant.1 like)).1,
    )

pub agree_parts-returns-then-xs-ys : goal.agree_parts-returns-then-xs-ys
agree_parts-returns-then-xs-ys t c =
    (λ e. absurd (true≢false (sym e)), λ like. absurd (c.if-xs-ys.true (parts_lengths _ _ _ _ _ like)))

pub agree_parts-returns-then-not-agrees_part : goal.agree_parts-returns-then-not-agrees_part
agree_parts-returns-then-not-agrees_part t c =
    let h : c.loop-i.i < length c.args.xs.now = omega arith in
    let k : c.loop-i.i < length c.args.ys.now = omega arith in
    let next = parts_from (Agrees c.args.pair.arg c.args.pair.part) (count c.args.outer.now) (count c.args.inner.now) c.args.xs.now c.args.ys.now c.loop-i.i _ _ h k c.index-xs-i.is c.index-ys-i.is in (
      λ e. absurd (true≢false (sym e)),
      λ like. absurd (true≢false (sym (c.agrees_part.ensures.1 (next.0 (c.loop-i.invariant.1 like)).0) ∙ c.if-not-agrees_part.true)),
    )

pub agree_parts-loop-i-preserved : goal.agree_parts-loop-i-preserved
agree_parts-loop-i-preserved t c =
    let h : c.loop-i.i < length c.args.xs.now = omega arith in
    let k : c.loop-i.i < length c.args.ys.now = omega arith in
    let next = parts_from (Agrees c.args.pair.arg c.args.pair.part) (count c.args.outer.now) (count c.args.inner.now) c.args.xs.now c.args.ys.now c.loop-i.i _ _ h k c.index-xs-i.is c.index-ys-i.is in (
      λ rest. c.loop-i.invariant.0 (next.1 (c.agrees_part.ensures.0 c.if-not-agrees_part.false, rest)),
      λ like. (next.0 (c.loop-i.invariant.1 like)).1,
    )
