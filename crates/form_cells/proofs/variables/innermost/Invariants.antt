use Rattle.std.proofs.Common.{◌↔◌, ◌+◌, ◌≤◌, length, take}
use Rattle.scheme_terms.specs.SchemeTree.{SchemeTree}
use Rattle.rule_schemes.specs.Reading.{Means}
use Rattle.form_cells.specs.View.{in_scope}
use Rattle.form_cells.proofs.variables.innermost.Given as goal

abbrev pub invariant-loop-left : goal.invariant-loop-left
invariant-loop-left l =
    ((s : SchemeTree) → Means 0 (in_scope l.fn.vars) l.word l.cat.0 s ↔ Means l.before (in_scope (take l.left l.vars)) l.word l.cat.0 s)
    × (l.before + l.left ≤ length l.vars)

abbrev pub decreases-loop-left : goal.decreases-loop-left
decreases-loop-left l = l.left
