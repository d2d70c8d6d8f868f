use Rattle.std.proofs.Common.{◌≡◌, ◌↔◌, map, drop}
use Rattle.binding_terms.specs.View.{tree}
use Rattle.scheme_terms.specs.Instance.{instance_of}
use Rattle.scheme_terms.specs.View.{scheme, instance}
use Rattle.scheme_match.proofs.equal.become_terms.Given as goal

abbrev pub invariant-loop-i : goal.invariant-loop-i
invariant-loop-i l =
    (map (instance_of (instance l.inst) l.locals) (map scheme l.patterns) ≡ map tree l.targets)
    ↔ (map (instance_of (instance l.inst) l.locals) (map scheme (drop l.i l.patterns)) ≡ map tree (drop l.i l.targets))
