use Rattle.std.proofs.Common.{◌≡◌, map, take, option_map}
use Rattle.induction_order.specs.declared.relation.Rel.TheVariants.{Unknown}
use Rattle.scheme_terms.specs.View.{scheme}
use Rattle.proof_kernel.proofs.keeping.unknowns.Given as goal

abbrev pub invariant-loop-target : goal.invariant-loop-target
invariant-loop-target l = l.all ≡ map (λ target. Unknown) (map (option_map scheme) (take l._target-index l.targets))
