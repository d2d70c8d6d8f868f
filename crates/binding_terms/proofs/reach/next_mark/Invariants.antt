use Rattle.std.proofs.Common.{◌<◌, drop, length}
use Rattle.std.specs.List.{AllByRecursion}
use Rattle.binding_terms.specs.Reach.{IsClosed}
use Rattle.binding_terms.proofs.reach.next_mark.Given as goal

abbrev pub invariant-loop-prod : goal.invariant-loop-prod
invariant-loop-prod l = record {
  in_range : AllByRecursion (λ p. p.cat.0 < length l.marks) (drop l.prod-index l.prods);
  closed : IsClosed l.marks (drop l.prod-index l.prods) → IsClosed l.marks l.prods;
}
