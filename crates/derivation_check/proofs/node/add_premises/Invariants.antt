use Rattle.std.proofs.Common.{◌≡◌, map, drop}
use Rattle.std.specs.List.{AllZip}
use Rattle.rule_schemes.specs.View.{judgment_scheme}
use Rattle.derivation_check.specs.Pairs.{PremiseFits, with_premises}
use Rattle.derivation_check.proofs.node.add_premises.Given as goal

abbrev pub invariant-loop-i : goal.invariant-loop-i
invariant-loop-i l =
    (with_premises l.matcher (map judgment_scheme (drop l.i l.premises)) (drop l.i l.trees) ≡ with_premises l.initial.matcher (map judgment_scheme l.premises) l.trees)
    × AllZip (PremiseFits l.matcher.sig l.matcher.metas) (map judgment_scheme (drop l.i l.premises)) (drop l.i l.trees)
