use Rattle.derivation_text.proofs.Chains.{two_sum_derives, wrong_chain}
use Rattle.derivation_text.proofs.worked.chain_is_derived.Goals as goal

pub returns-clause-chain : goal.returns-clause-chain
returns-clause-chain c = two_sum_derives

pub returns-clause-wrong : goal.returns-clause-wrong
returns-clause-wrong c = wrong_chain
