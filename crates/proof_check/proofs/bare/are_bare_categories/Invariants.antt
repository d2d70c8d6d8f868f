use Rattle.std.proofs.Common.{◌↔◌, drop}
use Rattle.std.specs.List.{AllByRecursion}
use Rattle.proof_check.specs.Bare.{IsBareCategory}
use Rattle.proof_check.proofs.bare.are_bare_categories.Given as goal

abbrev pub invariant-loop-cat : goal.invariant-loop-cat
invariant-loop-cat l = AllByRecursion IsBareCategory (drop l.cat-index l.cats) ↔ AllByRecursion IsBareCategory l.cats
