use Rattle.std.proofs.Common.{◌≡◌, map, drop}
use Rattle.scheme_terms.specs.SchemeTree.{values}
use Rattle.scheme_terms.specs.View.{scheme}
use Rattle.pattern_unify.specs.Patterns.{is_among}
use Rattle.pattern_unify.proofs.patterns.marks_among.Given as goal

abbrev pub invariant-loop-arg : goal.invariant-loop-arg
invariant-loop-arg l = is_among l.index (values (map scheme (drop l.arg-index l.args))) ≡ is_among l.index (values (map scheme l.args))
