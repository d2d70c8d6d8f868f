use Rattle.std.proofs.Common.{ap, ◌∙◌, sym}
use Rattle.std.specs.Option.{option_copied}
use Rattle.form_cells.specs.View.{in_scope}
use Rattle.form_cells.proofs.VariableLemmas.{bound_more, bound_none}
use Rattle.form_cells.proofs.variables.slot_scope.Goals as goal
use Rattle.form_cells.proofs.variables.slot_scope.Goals.{in-Some+in_ok-push-in-Some, in-None}

pub loop-number-preserved : goal.loop-number-preserved
loop-number-preserved c =
    elim c.match-at.branch [
      | in-Some+in_ok-push-in-Some w ↦ rw (w.all-is, w.in_ok-push-in-Some.ensures.ok)
          (bound_more c.args.own.now c.args.binds.now c.loop-number.number-index c.loop-number.all (in_scope c.args.vars.now) _ c.loop-number-test.true
          (sym c.at.ensures ∙ ap option_copied w.in-Some.is) c.loop-number.invariant)
      | in-None w ↦ rw w.all-is
          (bound_none c.args.own.now c.args.binds.now c.loop-number.number-index c.loop-number.all (in_scope c.args.vars.now) c.loop-number-test.true
          (sym c.at.ensures ∙ ap option_copied w.in-None.is) c.loop-number.invariant)
    ]
