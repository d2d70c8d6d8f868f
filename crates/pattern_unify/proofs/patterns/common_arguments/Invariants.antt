use Rattle.std.proofs.Common.{◌≡◌, ◌++◌, map, drop}
use Rattle.scheme_terms.specs.SchemeTree.{values}
use Rattle.scheme_terms.specs.View.{scheme}
use Rattle.pattern_unify.specs.Patterns.{common_arguments}
use Rattle.pattern_unify.proofs.patterns.common_arguments.Given as goal

abbrev pub invariant-loop-i : goal.invariant-loop-i
invariant-loop-i l =
    l.marks.items ++ common_arguments (values (map scheme (drop l.i l.first))) (values (map scheme (drop l.i l.second)))
    ≡ common_arguments (values (map scheme l.first)) (values (map scheme l.second))
