use Rattle.std.proofs.Common.{◌↔◌, drop}
use Rattle.std.specs.List.{AllByRecursion}
use Rattle.binding_terms.specs.Draft.{drafted}
use Rattle.binding_terms.specs.Signature.{ProdFits}
use Rattle.binding_terms.proofs.fitting.Draft.all_prods_fit.Given as goal

abbrev pub invariant-loop-prod : goal.invariant-loop-prod
invariant-loop-prod l =
    AllByRecursion (ProdFits (drafted l.self)) l.self.prods.now
    ↔ AllByRecursion (ProdFits (drafted l.self)) (drop l.prod-index l.self.prods.now)
