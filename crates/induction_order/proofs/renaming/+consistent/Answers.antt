use Rattle.std.proofs.Common.{◌<◌, length, sym, ◌∙◌, true≢false, arith}
use Rattle.scheme_terms.specs.View.{scheme}
use Rattle.induction_order.specs.Binders.{count}
use Rattle.induction_order.specs.Renaming.{IsConsistent}
use Rattle.induction_order.proofs.Likeness.{like_lengths, parts_lengths, like_from, parts_from}
use Rattle.induction_order.proofs.renaming.+consistent.Goals as goal

pub are_values_consistent-returns-then-xs-ys : goal.are_values_consistent-returns-then-xs-ys
are_values_consistent-returns-then-xs-ys t c =
    (λ e. absurd (true≢false (sym e)), λ like. absurd (c.if-xs-ys.true (like_lengths _ _ _ _ _ like)))

pub are_values_consistent-returns-then-not-is_consistent : goal.are_values_consistent-returns-then-not-is_consistent
are_values_consistent-returns-then-not-is_consistent t c =
    let h : c.loop-i.i < length c.args.xs.now = omega arith in
    let k : c.loop-i.i < length c.args.ys.now = omega arith in
    let next = like_from (IsConsistent (count c.args.beside.now.outer.now) (scheme c.args.beside.now.arg.now) (scheme c.args.beside.now.part.now)) (count c.args.beside.now.outer.now) (count c.args.inner.now) c.args.xs.now c.args.ys.now c.loop-i.i _ _ h k c.index-xs-i.is c.index-ys-i.is in (
      λ e. absurd (true≢false (sym e)),
      λ like. absurd (true≢false (sym (c.is_consistent.ensures.1 (next.0 (c.loop-i.invariant.1 like)).0) ∙ c.if-not-is_consistent.true)),
    )

pub are_values_consistent-loop-i-preserved : goal.are_values_consistent-loop-i-preserved
are_values_consistent-loop-i-preserved t c =
    let h : c.loop-i.i < length c.args.xs.now = omega arith in
    let k : c.loop-i.i < length c.args.ys.now = omega arith in
    let next = like_from (IsConsistent (count c.args.beside.now.outer.now) (scheme c.args.beside.now.arg.now) (scheme c.args.beside.now.part.now)) (count c.args.beside.now.outer.now) (count c.args.inner.now) c.args.xs.now c.args.ys.now c.loop-i.i _ _ h k c.index-xs-i.is c.index-ys-i.is in (
      λ rest. c.loop-i.invariant.0 (next.1 (c.is_consistent.ensures.0 c.if-not-is_consistent.false, rest)),
      λ like. (next.0 (c.loop-i.invariant.1 like)).1,
    )

pub are_parts_consistent-returns-then-xs-ys : goal.are_parts_consistent-returns-then-xs-ys
are_parts_consistent-returns-then-xs-ys t c =
    (λ e. absurd (true≢false (sym e)), λ like. absurd (c.if-xs-ys.true (parts_lengths _ _ _ _ _ like)))

pub are_parts_consistent-returns-then-not-is_part_consistent : goal.are_parts_consistent-returns-then-not-is_part_consistent
are_parts_consistent-returns-then-not-is_part_consistent t c =
    let h : c.loop-i.i < length c.args.xs.now = omega arith in
    let k : c.loop-i.i < length c.args.ys.now = omega arith in
    let next = parts_from (IsConsistent (count c.args.beside.now.outer.now) (scheme c.args.beside.now.arg.now) (scheme c.args.beside.now.part.now)) (count c.args.beside.now.outer.now) (count c.args.inner.now) c.args.xs.now c.args.ys.now c.loop-i.i _ _ h k c.index-xs-i.is c.index-ys-i.is in (
      λ e. absurd (true≢false (sym e)),
      λ like. absurd (true≢false (sym (c.is_part_consistent.ensures.1 (next.0 (c.loop-i.invariant.1 like)).0) ∙ c.if-not-is_part_consistent.true)),
    )

pub are_parts_consistent-loop-i-preserved : goal.are_parts_consistent-loop-i-preserved
are_parts_consistent-loop-i-preserved t c =
    let h : c.loop-i.i < length c.args.xs.now = omega arith in
    let k : c.loop-i.i < length c.args.ys.now = omega arith in
    let next = parts_from (IsConsistent (count c.args.beside.now.outer.now) (scheme c.args.beside.now.arg.now) (scheme c.args.beside.now.part.now)) (count c.args.beside.now.outer.now) (count c.args.inner.now) c.args.xs.now c.args.ys.now c.loop-i.i _ _ h k c.index-xs-i.is c.index-ys-i.is in (
      λ rest. c.loop-i.invariant.0 (next.1 (c.is_part_consistent.ensures.0 c.if-not-is_part_consistent.false, rest)),
      λ like. (next.0 (c.loop-i.invariant.1 like)).1,
    )
