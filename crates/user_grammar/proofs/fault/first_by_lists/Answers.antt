use Rattle.user_grammar.specs.Finding.{portions_of}
use Rattle.user_grammar.proofs.FaultFirst.{first_told}
use Rattle.user_grammar.proofs.fault.first_by_lists.Goals as goal

pub returns : goal.returns
returns c = first_told (portions_of c.args.lists.now) c.in_ok-found.found c.in_ok-fault.fault c.in_ok-found.ensures c.in_ok-fault.ensures
