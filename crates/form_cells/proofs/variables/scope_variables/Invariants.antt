use Rattle.std.proofs.Common.{◌≡◌, take}
use Rattle.form_cells.specs.View.{in_scope, scope_words}
use Rattle.form_cells.proofs.variables.scope_variables.Given as goal

abbrev pub invariant-loop-one : goal.invariant-loop-one
invariant-loop-one l = in_scope l.all ≡ scope_words (take l.one-index l.words)
