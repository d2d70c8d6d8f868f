use Rattle.std.proofs.Common.{◌↔◌, drop}
use Rattle.std.specs.List.{AllByRecursion}
use Rattle.proof_check.specs.Bare.{IsBareProduction}
use Rattle.proof_check.proofs.bare.are_bare_productions.Given as goal

abbrev pub invariant-loop-prod : goal.invariant-loop-prod
invariant-loop-prod l = AllByRecursion IsBareProduction (drop l.prod-index l.prods) ↔ AllByRecursion IsBareProduction l.prods
