use Rattle.judgments.proofs.items.lists_text.Goals as goal

pub returns-in-Terminals : goal.returns-in-Terminals
returns-in-Terminals c = rw c.in-Terminals.is c.has_text.ensures
