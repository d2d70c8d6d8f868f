use Rattle.std.proofs.Common.{◌≡◌, ◌++◌, map}
use Rattle.scheme_terms.specs.Substituting.{parameters}
use Rattle.scheme_terms.specs.View.{scheme}
use Rattle.scheme_terms.proofs.identity.make_parameters.Given as goal

abbrev pub invariant-loop-left : goal.invariant-loop-left
invariant-loop-left l = map scheme l.all ++ parameters l.left ≡ parameters l.count

abbrev pub decreases-loop-left : goal.decreases-loop-left
decreases-loop-left l = l.left
