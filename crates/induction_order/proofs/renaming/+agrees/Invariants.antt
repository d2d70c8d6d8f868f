use Rattle.std.proofs.Common.{◌↔◌, map, drop}
use Rattle.scheme_terms.specs.SchemeTree.{values}
use Rattle.scheme_terms.specs.View.{scheme, scheme_parts}
use Rattle.induction_order.specs.Binders.{count}
use Rattle.induction_order.specs.Renaming.{Agrees, AreLike, PartsLike}
use Rattle.induction_order.proofs.renaming.+agrees.Given as goal

abbrev pub invariant-agree_values-loop-i : goal.invariant-agree_values-loop-i
invariant-agree_values-loop-i l =
    AreLike (Agrees l.pair.arg l.pair.part) (count l.outer) (count l.inner) (values (map scheme (drop l.i l.xs))) (values (map scheme (drop l.i l.ys)))
    ↔ AreLike (Agrees l.pair.arg l.pair.part) (count l.outer) (count l.inner) (values (map scheme l.xs)) (values (map scheme l.ys))

abbrev pub invariant-agree_parts-loop-i : goal.invariant-agree_parts-loop-i
invariant-agree_parts-loop-i l =
    PartsLike (Agrees l.pair.arg l.pair.part) (count l.outer) (count l.inner) (scheme_parts (drop l.i l.xs)) (scheme_parts (drop l.i l.ys))
    ↔ PartsLike (Agrees l.pair.arg l.pair.part) (count l.outer) (count l.inner) (scheme_parts l.xs) (scheme_parts l.ys)
