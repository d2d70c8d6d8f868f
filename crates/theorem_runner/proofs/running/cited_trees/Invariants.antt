use Rattle.std.proofs.Common.{◌≡◌, ◌<◌, Some, length, map, drop, take, slice_get}
use Rattle.std.specs.List.{AllByRecursion}
use Rattle.theorem_runner.proofs.running.cited_trees.Given as goal

abbrev pub invariant-loop-id : goal.invariant-loop-id
invariant-loop-id l = record {
  below : AllByRecursion (λ n. n < length l.made) (map (λ id. id.0) (drop l.id-index l.on));
  so_far : map Some l.all.items ≡ map (λ n. slice_get l.made n) (map (λ id. id.0) (take l.id-index l.on));
}
