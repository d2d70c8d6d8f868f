use Rattle.std.proofs.Common.{◌≡◌, ◌<◌, ◌+◌, suc, take, length, sym, subst, ◌∙◌, arith}
use Rattle.notation_parser.specs.Used.{marked}
use Rattle.notation_parser.proofs.Again.{one_marked, one_unmarked}
use Rattle.notation_parser.proofs.used.chosen.Goals as goal
use Rattle.notation_parser.proofs.used.chosen.Goals.{then-marks-i+in_ok-copy_meta+in_ok-push, else-marks-i}

pub loop-i-preserved : goal.loop-i-preserved
loop-i-preserved c =
    let marks = c.args.marks.now in
    let candidates = c.args.candidates.now in
    let i = c.loop-i.i in
    let step : suc i ≡ i + 1 = omega arith in
    let lt : i < length marks = omega (arith, c.requires, c.loop-i-test.true) in
    elim c.if-marks-i.branch [
      | then-marks-i+in_ok-copy_meta+in_ok-push w ↦
          subst (λ k. c.if-marks-i.all ≡ marked (take k marks) (take k candidates)) step
          (rw (w.all-is, w.in_ok-push.ensures.ok, w.in_ok-copy_meta.ensures, w.index-candidates-i.is, c.loop-i.invariant)
          (sym (one_marked marks candidates i _ _ lt c.loop-i-test.true w.if-marks-i.true)))
      | else-marks-i w ↦
          subst (λ k. c.if-marks-i.all ≡ marked (take k marks) (take k candidates)) step
          (w.all-is ∙ c.loop-i.invariant ∙ sym (one_unmarked marks candidates i _ lt c.loop-i-test.true w.if-marks-i.false))
    ]
