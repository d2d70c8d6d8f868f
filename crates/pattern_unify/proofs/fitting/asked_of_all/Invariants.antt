use Rattle.std.proofs.Common.{◌≡◌, length, map}
use Rattle.binding_terms.specs.Numbered.{AllNumbered}
use Rattle.scheme_terms.specs.View.{scheme}
use Rattle.pattern_unify.specs.Equations.{equation}
use Rattle.pattern_unify.specs.Asked.{IsAsked}
use Rattle.pattern_unify.proofs.fitting.asked_of_all.Given as goal

abbrev pub invariant-loop-place : goal.invariant-loop-place
invariant-loop-place l = (length (map scheme l.all) ≡ l.place) × AllNumbered (IsAsked (map equation l.eqs)) 0 (map scheme l.all)
