use Rattle.std.proofs.Common.{refl}
use Rattle.rule_schemes.specs.View.{theory, rule as plain_rule}
use Rattle.judgments.proofs.GoodRules.{want_of_memory}
use Rattle.judgments.proofs.rules.add.Goals as goal

pub want_of_memory-requires : goal.want_of_memory-requires
want_of_memory-requires c =
    want_of_memory (theory c.args.sys.now) (plain_rule c.args.rule) c.in-Err.fault c.requires (λ other. (c.in-Err.ensures.refused c.in-Err.fault other).0 refl)
