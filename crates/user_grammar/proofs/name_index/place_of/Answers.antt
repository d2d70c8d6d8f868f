use Rattle.user_grammar.proofs.NameIndexes.{placed}
use Rattle.user_grammar.proofs.name_index.place_of.Goals as goal

pub returns : goal.returns
returns c = placed c.args.index.now.names.keys c.args.word.now c.get_index_of.result c.get_index_of.ensures.index
