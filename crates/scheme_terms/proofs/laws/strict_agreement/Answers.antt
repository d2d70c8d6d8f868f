use Rattle.scheme_terms.proofs.StrictAgreements.{strict_agreement, strict_agreement_in_scope, instance_asks, substitution_asks}
use Rattle.scheme_terms.proofs.laws.strict_agreement.Goals as goal

pub returns-clause-of_locals : goal.returns-clause-of_locals
returns-clause-of_locals c = strict_agreement

pub returns-clause-in_scope : goal.returns-clause-in_scope
returns-clause-in_scope c = strict_agreement_in_scope

pub returns-clause-asked : goal.returns-clause-asked
returns-clause-asked c = instance_asks

pub returns-clause-asked_of_schemes : goal.returns-clause-asked_of_schemes
returns-clause-asked_of_schemes c = substitution_asks
