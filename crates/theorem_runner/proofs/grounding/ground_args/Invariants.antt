use Rattle.std.proofs.Common.{◌≡◌, map, take}
use Rattle.binding_terms.specs.View.{tree}
use Rattle.scheme_terms.specs.Instance.{instance_of}
use Rattle.scheme_terms.specs.View.{scheme, instance}
use Rattle.theorem_runner.proofs.grounding.ground_args.Given as goal

abbrev pub invariant-loop-arg : goal.invariant-loop-arg
invariant-loop-arg l = map tree l.all ≡ map (instance_of (instance l.inst) l.locals) (map scheme (take l.arg-index l.args))
