use Rattle.std.proofs.Common.{◌↔◌, drop}
use Rattle.std.specs.List.{AllByRecursion}
use Rattle.proof_check.specs.Bare.{IsBareItem}
use Rattle.proof_check.proofs.bare.are_bare_items.Given as goal

abbrev pub invariant-loop-item : goal.invariant-loop-item
invariant-loop-item l = AllByRecursion IsBareItem (drop l.item-index l.items) ↔ AllByRecursion IsBareItem l.items
