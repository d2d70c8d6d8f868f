use Rattle.std.proofs.Common.{◌↔◌, map, drop}
use Rattle.scheme_terms.specs.SchemeTree.{values}
use Rattle.scheme_terms.specs.View.{scheme}
use Rattle.pattern_unify.specs.Patterns.{IsAmong}
use Rattle.pattern_unify.proofs.patterns.is_among.Given as goal

abbrev pub invariant-loop-arg : goal.invariant-loop-arg
invariant-loop-arg l = IsAmong l.index (values (map scheme (drop l.arg-index l.args))) ↔ IsAmong l.index (values (map scheme l.args))
