use Rattle.std.proofs.Common.{◌↔◌, map, reverse, drop}
use Rattle.binding_terms.specs.View.{tree}
use Rattle.derivation_check.specs.Judged.{AreTerms}
use Rattle.derivation_check.proofs.judged.are_terms.Given as goal

abbrev pub invariant-loop-i : goal.invariant-loop-i
invariant-loop-i l =
    AreTerms l.sig (reverse (map (λ c. c.0) l.scope)) (map (λ c. c.0) l.cats) (map tree l.terms)
    ↔ AreTerms l.sig (reverse (map (λ c. c.0) l.scope)) (map (λ c. c.0) (drop l.i l.cats)) (map tree (drop l.i l.terms))
