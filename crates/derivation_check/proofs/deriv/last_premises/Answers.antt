use Rattle.std.proofs.Common.{sym, subst, ◌<◌}
use Rattle.rule_schemes.specs.Derivation.{Derivation, size, sizes}
use Rattle.derivation_check.specs.Parts.{subtrees_of}
use Rattle.derivation_check.specs.declared.deriv.Node.{Node}
use Rattle.derivation_check.proofs.Sums.{sizes_fall}
use Rattle.derivation_check.proofs.deriv.last_premises.Goals as goal

pub returns-in-Some : goal.returns-in-Some
returns-in-Some c =
    let fall = sizes_fall _ c.open.ensures.counted in
    subst (λ (n : Node). sizes (subtrees_of n.premises.items) < size c.args.tree) (sym c.in-Some.ensures)
    (subst (λ (d : Derivation). sizes (subtrees_of c.open.result.value.premises.items) < size d) c.open.ensures.tree fall)
