use Rattle.std.proofs.Common.{◌↔◌, map, drop}
use Rattle.scheme_terms.specs.SchemeTree.{values, AreDistinctLocals}
use Rattle.scheme_terms.specs.View.{scheme}
use Rattle.scheme_terms.proofs.strict.are_distinct_locals.Given as goal

abbrev pub invariant-loop-at : goal.invariant-loop-at
invariant-loop-at l =
    AreDistinctLocals (values (map scheme (drop l.at l.args))) ↔ AreDistinctLocals (values (map scheme l.args))
