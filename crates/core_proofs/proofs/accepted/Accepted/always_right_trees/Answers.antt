use Rattle.std.specs.Prelude.{length}
use Rattle.std.proofs.Common.{subst}
use Rattle.rule_schemes.specs.Parts.{Parts}
use Rattle.rule_schemes.specs.Plain.{IsPlainSystem}
use Rattle.rule_schemes.specs.Rules.{IsSystemSoFar}
use Rattle.rule_schemes.specs.View.{theory}
use Rattle.rule_schemes.proofs.PlainLemmas.{plain_system}
use Rattle.proof_trees.proofs.LeadsTrees.{whole_steps_are_trees}
use Rattle.core_proofs.specs.Kept.{kept_theory, kept_statements, kept_steps}
use Rattle.core_proofs.specs.Trees.{whole_steps}
use Rattle.core_proofs.proofs.TreeSteps.{proves_are_trees}
use Rattle.core_proofs.proofs.accepted.Accepted.always_right_trees.Goals as goal

pub returns : goal.returns
returns c =
    let system : IsPlainSystem (kept_theory c.args.self.now) =
    plain_system (subst (λ (s : Parts). IsSystemSoFar (theory s)) c.system-system.ensures c.always_system.ensures) c.always_accepted.ensures.plain in
    (whole_steps_are_trees (kept_theory c.args.self.now) (kept_statements c.args.self.now) (length (kept_statements c.args.self.now)) (whole_steps c.args.self.now)).0
    ((proves_are_trees (kept_theory c.args.self.now) (kept_statements c.args.self.now) (kept_steps c.args.self.now) system c.always_accepted.ensures.provable).0
    c.always_accepted.ensures.proves)
