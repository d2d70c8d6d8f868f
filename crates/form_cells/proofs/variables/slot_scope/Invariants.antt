use Rattle.std.proofs.Common.{◌≡◌, ◌++◌, map, take}
use Rattle.rule_schemes.specs.Reading.{slot_variables}
use Rattle.form_cells.specs.View.{variable, in_scope}
use Rattle.form_cells.proofs.variables.slot_scope.Given as goal

abbrev pub invariant-loop-number : goal.invariant-loop-number
invariant-loop-number l =
    in_scope l.all ≡ slot_variables (map variable l.own) (take l.number-index l.binds) ++ in_scope l.vars
