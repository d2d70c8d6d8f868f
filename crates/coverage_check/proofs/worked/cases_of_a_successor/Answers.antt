use Rattle.coverage_check.proofs.SumCases.{good_case_is_most_general, n3_is_taken}
use Rattle.coverage_check.proofs.worked.cases_of_a_successor.Goals as goal

pub returns : goal.returns
returns c = record { most_general = good_case_is_most_general; taken = n3_is_taken }
