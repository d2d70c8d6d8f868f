-- Over numbers no category has a variable, so none reaches any.
use Rattle.rule_schemes.specs.Raising.{TestsReach}
use Rattle.rule_schemes.specs.Sums.{nat}
use Rattle.theorem_calls.proofs.CallFacts.{nothing_tests}
use Rattle.proof_trees.specs.Worked.{never}

pub never_tests : TestsReach nat never
never_tests = nothing_tests
