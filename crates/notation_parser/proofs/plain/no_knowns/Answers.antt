use Rattle.std.proofs.Common.{rules}
use Rattle.scheme_terms.specs.View.{known_variable}
use Rattle.notation_parser.proofs.plain.no_knowns.Goals as goal
use Rattle.binding_terms.proofs.Lists.{map_empty_test}

pub returns : goal.returns
returns c = map_empty_test _ known_variable c.args.knowns.now (search rules)
