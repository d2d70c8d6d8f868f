use Rattle.user_grammar.specs.Finding.{portions_of}
use Rattle.user_grammar.proofs.FaultFirst.{least_fault}
use Rattle.user_grammar.proofs.fault.least_fault.Goals as goal

pub returns : goal.returns
returns c =
    least_fault (portions_of c.args.names.now.lists) c.in_ok-those.those c.in_ok-contexts.contexts c.earlier.result c.earlier.ensures c.in_ok-those.ensures c.in_ok-contexts.ensures
