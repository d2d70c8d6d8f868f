use Rattle.std.proofs.Common.{◌≡◌, map, take}
use Rattle.scheme_terms.specs.Substituting.{known_for}
use Rattle.scheme_terms.specs.View.{substitution}
use Rattle.scheme_terms.proofs.substitute.compose_knowns.Given as goal

abbrev pub invariant-loop-value : goal.invariant-loop-value
invariant-loop-value l = l.all ≡ map (known_for (substitution l.after).knowns) (take l.value-index l.knowns)
