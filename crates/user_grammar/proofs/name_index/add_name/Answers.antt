use Rattle.user_grammar.proofs.NameIndexes.{added_name}
use Rattle.user_grammar.proofs.name_index.add_name.Goals as goal

pub returns : goal.returns
returns c = added_name c.args.index.now.names.keys c.insert.new.self.keys c.args.name c.in_ok-insert.ensures.keys
