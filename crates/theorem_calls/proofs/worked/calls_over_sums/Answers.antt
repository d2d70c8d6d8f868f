use Rattle.theorem_calls.proofs.CallFacts.{total_is_called, one_is_too_few, derivation_for_a_term}
use Rattle.theorem_calls.proofs.worked.calls_over_sums.Goals as goal

pub returns : goal.returns
returns c = record { new_name = total_is_called; too_few = one_is_too_few; mismatch = derivation_for_a_term }
