use Rattle.judgments.proofs.statements.names_of.Goals as goal

pub returns : goal.returns
returns c = c.in_ok-take_all_names.ensures.collected _ c.in_ok-metas.ensures
