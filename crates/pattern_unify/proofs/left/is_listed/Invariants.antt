use Rattle.std.proofs.Common.{◌≡◌, drop}
use Rattle.pattern_unify.specs.LeftNames.{is_listed}
use Rattle.pattern_unify.proofs.left.is_listed.Given as goal

abbrev pub invariant-loop-k : goal.invariant-loop-k
invariant-loop-k l = is_listed (drop l.k-index l.all) l.wanted ≡ is_listed l.all l.wanted
