use Rattle.rule_schemes.proofs.Lambda.{typed_is_system, identity_typed_derives, first_entry, not_second_entry}
use Rattle.rule_schemes.proofs.worked.lambda_is_a_system.Goals as goal

pub returns : goal.returns
returns c = record { system = typed_is_system; identity = identity_typed_derives; first = first_entry; second = not_second_entry }
