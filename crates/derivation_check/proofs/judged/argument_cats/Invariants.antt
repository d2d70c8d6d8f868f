use Rattle.std.proofs.Common.{◌≡◌, ◌++◌, map, drop}
use Rattle.binding_terms.specs.Signature.{slots}
use Rattle.rule_schemes.specs.Rules.{argument_slots}
use Rattle.derivation_check.proofs.judged.argument_cats.Given as goal

abbrev pub invariant-loop-item : goal.invariant-loop-item
invariant-loop-item l =
    map (λ c. c.0) l.all.items ++ map (λ s. s.cat) (argument_slots l.left (slots (drop l.item-index l.items))) ≡ map (λ s. s.cat) (argument_slots l.initial.left (slots l.items))
