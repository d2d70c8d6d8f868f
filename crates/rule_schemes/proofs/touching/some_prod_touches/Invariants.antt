use Rattle.std.proofs.Common.{◌≡◌, ◌↔◌, drop}
use Rattle.binding_terms.specs.Numbered.{AnyByRecursion}
use Rattle.binding_terms.specs.Signature.{Reaches, binders}
use Rattle.rule_schemes.proofs.touching.some_prod_touches.Given as goal

abbrev pub invariant-loop-prod : goal.invariant-loop-prod
invariant-loop-prod l =
    AnyByRecursion (λ p. (p.cat.0 ≡ l.context.0) × AnyByRecursion (Reaches l.sig l.cat.0) (binders p.items)) (drop l.prod-index l.prod-items)
    ↔ AnyByRecursion (λ p. (p.cat.0 ≡ l.context.0) × AnyByRecursion (Reaches l.sig l.cat.0) (binders p.items)) l.sig.prods
