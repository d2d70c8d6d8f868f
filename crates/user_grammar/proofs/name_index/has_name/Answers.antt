use Rattle.user_grammar.proofs.NameIndexes.{by_answer, found_among}
use Rattle.user_grammar.proofs.name_index.has_name.Goals as goal

pub returns : goal.returns
returns c = by_answer c.contains.result _ _ c.contains.ensures (found_among c.args.index.now.names.keys c.args.word.now)
