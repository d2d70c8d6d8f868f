use Rattle.std.proofs.Common.{◌≡◌, ◌≤◌, length, map, drop}
use Rattle.scheme_terms.specs.View.{known_variable}
use Rattle.rule_schemes.specs.Reading.{known_words}
use Rattle.form_cells.specs.View.{in_scope}
use Rattle.cell_reader.proofs.knowns.known_variables.Given as goal

abbrev pub invariant-loop-left : goal.invariant-loop-left
invariant-loop-left l = (in_scope l.all ≡ known_words l.sig l.left (map known_variable (drop l.left l.knowns))) × (l.left ≤ length l.knowns)

abbrev pub decreases-loop-left : goal.decreases-loop-left
decreases-loop-left l = l.left
