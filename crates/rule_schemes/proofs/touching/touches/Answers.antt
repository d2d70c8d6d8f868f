use Rattle.rule_schemes.proofs.touching.touches.Goals as goal

pub returns : goal.returns
returns c = (λ yes. record { bound = c.some_prod_touches.ensures.0 yes }, λ is. c.some_prod_touches.ensures.1 is.bound)
