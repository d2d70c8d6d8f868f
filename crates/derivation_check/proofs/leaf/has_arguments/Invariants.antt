use Rattle.std.proofs.Common.{◌≡◌, ◌↔◌, map, drop}
use Rattle.binding_terms.specs.Tree.{put_in}
use Rattle.binding_terms.specs.View.{tree}
use Rattle.scheme_terms.specs.Instance.{instance_of}
use Rattle.scheme_terms.specs.View.{scheme}
use Rattle.scheme_terms.specs.View.{instance as view}
use Rattle.derivation_check.proofs.leaf.has_arguments.Given as goal

abbrev pub invariant-loop-i : goal.invariant-loop-i
invariant-loop-i l =
    (map tree l.terms ≡ map (λ s. put_in 0 (tree l.variable) (instance_of (view l.inst) 1 s)) (map scheme l.schemes))
    ↔ (map tree (drop l.i l.terms) ≡ map (λ s. put_in 0 (tree l.variable) (instance_of (view l.inst) 1 s)) (map scheme (drop l.i l.schemes)))
