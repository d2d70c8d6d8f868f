use Rattle.std.proofs.Common.{◌≡◌, map, take}
use Rattle.binding_terms.specs.View.{tree}
use Rattle.scheme_terms.specs.Instance.{instance_of}
use Rattle.scheme_terms.specs.View.{scheme, instance}
use Rattle.derivation_text.proofs.reading.terms_of.Given as goal

abbrev pub invariant-loop-one : goal.invariant-loop-one
invariant-loop-one l = map tree l.all ≡ map (instance_of (instance l.inst) 0) (map scheme (take l.one-index l.schemes))
