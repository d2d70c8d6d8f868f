use Rattle.std.proofs.Common.{rules}
use Rattle.notation_parser.proofs.plain.no_words.Goals as goal
use Rattle.binding_terms.proofs.Lists.{reverse_empty_test}

pub returns : goal.returns
returns c = reverse_empty_test _ _ c.args.vars.now (search rules)
