use Rattle.outline_reader.proofs.FaultLemmas.{source_fault_unique, portions_exclude_fault, fault_is_of_views}
use Rattle.outline_reader.proofs.laws.source_fault_is_unique.Goals as goal

pub returns-clause-unique : goal.returns-clause-unique
returns-clause-unique c = source_fault_unique

pub returns-clause-apart : goal.returns-clause-apart
returns-clause-apart c = portions_exclude_fault

pub returns-clause-views : goal.returns-clause-views
returns-clause-views c = fault_is_of_views
