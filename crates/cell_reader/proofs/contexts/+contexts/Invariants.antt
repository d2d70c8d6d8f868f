use Rattle.std.proofs.Common.{◌+◌, ◌-◌, ◌*◌, [], length}
use Rattle.rule_schemes.specs.Said.{IsBefore}
use Rattle.ordered_readings.specs.FirstTwo.{AreFirst}
use Rattle.ordered_readings.specs.AnswerView.{answers}
use Rattle.ordered_readings.specs.Cells.{TakesFewer}
use Rattle.form_cells.specs.Cells.{range_of, IsTable}
use Rattle.form_cells.specs.View.{in_scope}
use Rattle.cell_reader.specs.View.{reading_scope}
use Rattle.cell_reader.specs.Contexts.{IsEntryOf, IsContextBelow}
use Rattle.cell_reader.proofs.contexts.+contexts.Given as goal

abbrev pub decreases-context : goal.decreases-context
decreases-context l = 4 * length l.vars.now + 3

abbrev pub decreases-by_production : goal.decreases-by_production
decreases-by_production l = 4 * length l.vars.now + 2

abbrev pub decreases-entered : goal.decreases-entered
decreases-entered l = 4 * length l.vars.now + 1

abbrev pub decreases-entered_at : goal.decreases-entered_at
decreases-entered_at l = 4 * length l.vars.now

abbrev pub invariant-entered-loop-place : goal.invariant-entered-loop-place
invariant-entered-loop-place l =
    AreFirst IsBefore
    (λ w s. IsEntryOf l.sheet.sig.now (reading_scope l.outside.scope.now) l.sheet.metas.now l.p l.outside.cat.0 l.items (in_scope l.vars) [] (range_of l.sheet l.from l.to) w s
    × TakesFewer (l.place - l.from) w)
    (answers l.found)
    × IsTable l.sheet l.table

abbrev pub invariant-context-loop-p : goal.invariant-context-loop-p
invariant-context-loop-p l =
    AreFirst IsBefore
    (IsContextBelow l.sheet.sig.now (reading_scope l.outside.scope.now) l.sheet.metas.now l.p l.outside.cat.0 (in_scope l.vars) [] (range_of l.sheet l.from l.to)) (answers l.found)
    × IsTable l.sheet l.table
