use Rattle.std.proofs.Common.{◌↔◌, drop}
use Rattle.std.specs.List.{AllByRecursion}
use Rattle.binding_terms.specs.Draft.{drafted}
use Rattle.binding_terms.specs.Signature.{IsPlain, slots}
use Rattle.binding_terms.proofs.fitting.Draft.all_plain.Given as goal

abbrev pub invariant-loop-item : goal.invariant-loop-item
invariant-loop-item l =
    AllByRecursion (λ s. IsPlain (drafted l.self) s.cat) (slots l.items)
    ↔ AllByRecursion (λ s. IsPlain (drafted l.self) s.cat) (slots (drop l.item-index l.items))
