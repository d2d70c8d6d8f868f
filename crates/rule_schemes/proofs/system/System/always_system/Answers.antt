use Rattle.std.proofs.Common.{subst}
use Rattle.rule_schemes.specs.Parts.{Parts}
use Rattle.rule_schemes.specs.Rules.{IsSystemSoFar}
use Rattle.rule_schemes.specs.View.{theory}
use Rattle.rule_schemes.proofs.system.System.always_system.Goals as goal

pub returns : goal.returns
returns c = subst (λ (p : Parts). IsSystemSoFar (theory p)) c.self.view_is c.self.invariant.so_far
