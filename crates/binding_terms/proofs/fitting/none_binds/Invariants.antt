use Rattle.std.proofs.Common.{◌≡◌, ◌↔◌, [], drop}
use Rattle.std.specs.List.{AllByRecursion}
use Rattle.binding_terms.specs.Signature.{slots}
use Rattle.binding_terms.proofs.fitting.none_binds.Given as goal

abbrev pub invariant-loop-item : goal.invariant-loop-item
invariant-loop-item l =
    AllByRecursion (λ s. s.binds ≡ []) (slots l.items) ↔ AllByRecursion (λ s. s.binds ≡ []) (slots (drop l.item-index l.items))
