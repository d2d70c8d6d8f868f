use Rattle.std.proofs.Common.{◌↔◌, drop}
use Rattle.std.specs.List.{AllByRecursion}
use Rattle.binding_terms.specs.Draft.{drafted}
use Rattle.binding_terms.specs.Signature.{HasVariable, binders}
use Rattle.binding_terms.proofs.fitting.Draft.all_vary.Given as goal

abbrev pub invariant-loop-item : goal.invariant-loop-item
invariant-loop-item l =
    AllByRecursion (HasVariable (drafted l.self)) (binders l.items)
    ↔ AllByRecursion (HasVariable (drafted l.self)) (binders (drop l.item-index l.items))
