use Rattle.rule_schemes.proofs.Readings.{to_the_right, to_the_left, three_has_two}
use Rattle.rule_schemes.proofs.worked.sum_of_three_is_ambiguous.Goals as goal

pub returns : goal.returns
returns c = record { right = to_the_right; left = to_the_left; not_one = three_has_two }
