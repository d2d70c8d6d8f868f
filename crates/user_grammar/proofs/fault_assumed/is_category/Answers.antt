use Rattle.user_grammar.proofs.FaultNames.{by_same}
use Rattle.user_grammar.proofs.fault_assumed.is_category.Goals as goal

pub returns : goal.returns
returns c = by_same c.has_name.result c.has_name.ensures (c.requires.named c.args.word.now)
