use Rattle.std.proofs.Common.{◌↔◌, drop}
use Rattle.std.specs.List.{AllByRecursion}
use Rattle.binding_terms.specs.Draft.{drafted}
use Rattle.binding_terms.specs.Signature.{PlaceFits, slots}
use Rattle.binding_terms.proofs.fitting.Draft.all_places_fit.Given as goal

abbrev pub invariant-loop-item : goal.invariant-loop-item
invariant-loop-item l =
    AllByRecursion (PlaceFits (drafted l.self) l.prod) (slots l.items)
    ↔ AllByRecursion (PlaceFits (drafted l.self) l.prod) (slots (drop l.item-index l.items))
