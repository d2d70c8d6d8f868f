use Rattle.std.proofs.Common.{map, drop}
use Rattle.scheme_terms.specs.SchemeTree.{values}
use Rattle.scheme_terms.specs.View.{scheme, scheme_parts}
use Rattle.pattern_unify.specs.Pruned.{IsPrunableIn}
use Rattle.pattern_unify.proofs.pruning.+first_prunable.Given as goal

abbrev pub invariant-first_prunable_in_parts-loop-part : goal.invariant-first_prunable_in_parts-loop-part
invariant-first_prunable_in_parts-loop-part l =
    IsPrunableIn l.of.0 (values (map scheme l.args)) l.binders (scheme_parts (drop l.part-index l.parts)) (scheme_parts l.parts)
