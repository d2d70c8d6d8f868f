use Rattle.sasylf_command.proofs.Judged.{no_run}
use Rattle.sasylf_command.proofs.judging.value_text.Goals as goal

pub named_text-requires-clause-accepted : goal.named_text-requires-clause-accepted
named_text-requires-clause-accepted c = rw c.in-Some.is at c.requires.kept.only

pub returns-in-None-clause-refused : goal.returns-in-None-clause-refused
returns-in-None-clause-refused c =
    let none = rw c.in-None.is at c.requires.kept.only in
    no_run c.args.source.now c.args.theorem.now c.args.derivs.now none
