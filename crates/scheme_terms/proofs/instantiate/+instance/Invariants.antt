use Rattle.std.proofs.Common.{◌≡◌, map, take}
use Rattle.binding_terms.specs.View.{tree, arg_tree}
use Rattle.scheme_terms.specs.Instance.{instance_of}
use Rattle.scheme_terms.specs.View.{scheme, scheme_part, instance}
use Rattle.scheme_terms.proofs.Lists.{part_instance}
use Rattle.scheme_terms.proofs.instantiate.+instance.Given as goal

abbrev pub invariant-instances-loop-arg : goal.invariant-instances-loop-arg
invariant-instances-loop-arg l =
    map tree l.all.items ≡ map (instance_of (instance l.inst) l.locals) (map scheme (take l.arg-index l.args))

abbrev pub invariant-part_instances-loop-part : goal.invariant-part_instances-loop-part
invariant-part_instances-loop-part l =
    map arg_tree l.all.items ≡ map (part_instance (instance l.inst) l.locals) (map scheme_part (take l.part-index l.parts))
