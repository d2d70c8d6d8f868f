use Rattle.rule_schemes.specs.View.{theory}
use Rattle.derivation_check.proofs.Walking.{none_wrong}
use Rattle.derivation_check.proofs.check.check_deriv.Goals as goal

pub returns-in-Some-clause-none : goal.returns-in-Some-clause-none
returns-in-Some-clause-none c =
    let first = rw c.in-Some.is at c.in_ok-path.ensures in
    λ path is derives. none_wrong (theory c.args.sys.now) c.args.tree.now c.in-Some.path derives first.wrong
