use Rattle.std.proofs.Common.{◌↔◌, drop}
use Rattle.binding_terms.specs.Draft.{drafted}
use Rattle.binding_terms.specs.Numbered.{AllNumbered}
use Rattle.binding_terms.specs.Signature.{CatFits}
use Rattle.binding_terms.proofs.fitting.Draft.all_cats_fit.Given as goal

abbrev pub invariant-loop-number : goal.invariant-loop-number
invariant-loop-number l =
    AllNumbered (CatFits (drafted l.self)) 0 l.self.cats.now
    ↔ AllNumbered (CatFits (drafted l.self)) l.number (drop l.number l.self.cats.now)
