use Rattle.std.proofs.Common.{◌≡◌, ◌++◌, map, reverse, drop}
use Rattle.binding_terms.specs.Signature.{binders, slots}
use Rattle.scheme_terms.specs.View.{scheme_parts}
use Rattle.pattern_unify.specs.Equations.{equation}
use Rattle.pattern_unify.specs.Move.{part_equations}
use Rattle.pattern_unify.proofs.arguments.argument_equations.Given as goal

abbrev pub invariant-loop-item : goal.invariant-loop-item
invariant-loop-item l =
    map equation l.all
    ++ part_equations (reverse (map (λ c. c.0) l.scope)) (binders l.items) (slots (drop l.item-index l.items)) (scheme_parts (drop l.next l.lefts)) (scheme_parts (drop l.next l.rights))
    ≡ part_equations (reverse (map (λ c. c.0) l.scope)) (binders l.items) (slots l.items) (scheme_parts l.lefts) (scheme_parts l.rights)
