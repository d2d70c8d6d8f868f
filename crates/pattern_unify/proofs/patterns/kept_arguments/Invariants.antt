use Rattle.std.proofs.Common.{◌≡◌, ◌++◌, map, drop}
use Rattle.scheme_terms.specs.SchemeTree.{values}
use Rattle.scheme_terms.specs.View.{scheme}
use Rattle.pattern_unify.specs.Patterns.{kept_arguments}
use Rattle.pattern_unify.proofs.patterns.kept_arguments.Given as goal

abbrev pub invariant-loop-other : goal.invariant-loop-other
invariant-loop-other l =
    l.marks.items ++ kept_arguments (values (map scheme l.args)) l.binders (values (map scheme (drop l.other-index l.others)))
    ≡ kept_arguments (values (map scheme l.args)) l.binders (values (map scheme l.others))
