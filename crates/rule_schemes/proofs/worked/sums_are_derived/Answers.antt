use Rattle.rule_schemes.proofs.Sums.{zero_sum_derives, one_sum_derives, other_sum}
use Rattle.rule_schemes.proofs.worked.sums_are_derived.Goals as goal

pub returns : goal.returns
returns c = record { zero = zero_sum_derives; one = one_sum_derives; wrong = other_sum }
