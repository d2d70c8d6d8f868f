use Rattle.std.proofs.Common.{◌<◌, length, subst, sym, arith}
use Rattle.binding_terms.specs.Tree.{Bounds}
use Rattle.binding_terms.proofs.Args.{more_free, bounds_max}
use Rattle.binding_terms.proofs.term.bound_all.Goals as goal

pub loop-arg-preserved : goal.loop-arg-preserved
loop-arg-preserved c =
    let within : c.loop-arg.arg-index < length c.args.args.now = omega arith in
    subst (λ n. Bounds c.max-most.result n) (sym (more_free c.args.args.now c.loop-arg.arg-index c.arg-item.result within c.arg-item.is))
    (bounds_max _ _ _ _ _ c.max-most.ensures c.loop-arg.invariant c.arg_bound.ensures)
