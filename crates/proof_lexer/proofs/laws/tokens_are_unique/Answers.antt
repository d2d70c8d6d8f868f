use Rattle.proof_lexer.proofs.UniqueLemmas.{tokens_unique, fault_unique, tokens_exclude}
use Rattle.proof_lexer.proofs.laws.tokens_are_unique.Goals as goal

pub returns-clause-tokens : goal.returns-clause-tokens
returns-clause-tokens c = tokens_unique

pub returns-clause-fault : goal.returns-clause-fault
returns-clause-fault c = fault_unique

pub returns-clause-apart : goal.returns-clause-apart
returns-clause-apart c = tokens_exclude
