use Rattle.std.proofs.Common.{◌↔◌, drop}
use Rattle.binding_terms.specs.Numbered.{AnyByRecursion}
use Rattle.binding_terms.specs.Signature.{Reaches, binders}
use Rattle.rule_schemes.proofs.touching.reaches_binder.Given as goal

abbrev pub invariant-loop-item : goal.invariant-loop-item
invariant-loop-item l =
    AnyByRecursion (Reaches l.sig l.cat.0) (binders (drop l.item-index l.items)) ↔ AnyByRecursion (Reaches l.sig l.cat.0) (binders l.items)
