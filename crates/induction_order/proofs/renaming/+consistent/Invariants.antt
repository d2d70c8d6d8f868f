use Rattle.std.proofs.Common.{◌↔◌, map, drop}
use Rattle.scheme_terms.specs.SchemeTree.{values}
use Rattle.scheme_terms.specs.View.{scheme, scheme_parts}
use Rattle.induction_order.specs.Binders.{count}
use Rattle.induction_order.specs.Renaming.{IsConsistent, AreLike, PartsLike}
use Rattle.induction_order.proofs.renaming.+consistent.Given as goal

abbrev pub invariant-are_values_consistent-loop-i : goal.invariant-are_values_consistent-loop-i
invariant-are_values_consistent-loop-i l =
    AreLike (IsConsistent (count l.beside.outer.now) (scheme l.beside.arg.now) (scheme l.beside.part.now)) (count l.beside.outer.now) (count l.inner) (values (map scheme (drop l.i l.xs))) (values (map scheme (drop l.i l.ys)))
    ↔ AreLike (IsConsistent (count l.beside.outer.now) (scheme l.beside.arg.now) (scheme l.beside.part.now)) (count l.beside.outer.now) (count l.inner) (values (map scheme l.xs)) (values (map scheme l.ys))

abbrev pub invariant-are_parts_consistent-loop-i : goal.invariant-are_parts_consistent-loop-i
invariant-are_parts_consistent-loop-i l =
    PartsLike (IsConsistent (count l.beside.outer.now) (scheme l.beside.arg.now) (scheme l.beside.part.now)) (count l.beside.outer.now) (count l.inner) (scheme_parts (drop l.i l.xs)) (scheme_parts (drop l.i l.ys))
    ↔ PartsLike (IsConsistent (count l.beside.outer.now) (scheme l.beside.arg.now) (scheme l.beside.part.now)) (count l.beside.outer.now) (count l.inner) (scheme_parts l.xs) (scheme_parts l.ys)
