use Rattle.rule_schemes.specs.View.{statement}
use Rattle.core_proofs.proofs.Keeping.{where_scope_ends}
use Rattle.core_proofs.proofs.scoping.has_proof_scope.Goals as goal

pub are_goal_names-requires : goal.are_goal_names-requires
are_goal_names-requires c = c.in_ok-count.ensures.in_range

pub returns : goal.returns
returns c =
    let ends = where_scope_ends (statement c.args.of.now) c.in_ok-count.count c.in_ok-count.ensures in
    (λ t. ends.0 (c.in_ok-further.ensures.0 t), λ h. c.in_ok-further.ensures.1 (ends.1 h))
