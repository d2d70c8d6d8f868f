use Rattle.std.proofs.Common.{map, take}
use Rattle.binding_terms.specs.Numbered.{AllNumbered}
use Rattle.scheme_terms.specs.Substituting.{IsKnownValue}
use Rattle.scheme_terms.specs.View.{known_variable, substitution}
use Rattle.pattern_unify.proofs.kept.keep_numbers.Given as goal

abbrev pub invariant-loop-place : goal.invariant-loop-place
invariant-loop-place l = AllNumbered (λ k decl. IsKnownValue (substitution l.by) decl k) 0 (map known_variable (take l.place l.decls))
