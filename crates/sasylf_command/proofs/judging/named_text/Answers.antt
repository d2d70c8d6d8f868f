use Rattle.std.proofs.lemmas.Result.{IfOk-weaker}
use Rattle.sasylf_command.proofs.Judged.{not_named, value_of, stands_of, refused_of}
use Rattle.sasylf_command.proofs.judging.named_text.Goals as goal

pub returns-in-Some-clause-value : goal.returns-in-Some-clause-value
returns-in-Some-clause-value c =
    IfOk-weaker _ _ _ (value_of c.args.source.now c.args.theorem.now c.args.derivs.now c.args.accepted.now c.requires.accepted c.in-Some.id.0 c.in-Some.ensures.some) c.theorem_text.ensures

pub returns-in-Some-clause-stands : goal.returns-in-Some-clause-stands
returns-in-Some-clause-stands c =
    IfOk-weaker _ _ _ (stands_of c.args.source.now c.args.theorem.now c.args.derivs.now c.args.accepted.now c.requires.accepted c.in-Some.id.0 c.in-Some.ensures.some) c.theorem_text.ensures

pub returns-in-Some-clause-refused : goal.returns-in-Some-clause-refused
returns-in-Some-clause-refused c =
    IfOk-weaker _ _ _ (refused_of c.args.source.now c.args.theorem.now c.args.derivs.now c.args.accepted.now c.requires.accepted c.in-Some.id.0 c.in-Some.ensures.some) c.theorem_text.ensures

pub returns-in-None-clause-refused : goal.returns-in-None-clause-refused
returns-in-None-clause-refused c =
    let none = rw c.in-None.is at c.theorem.ensures.none in
    not_named c.args.source.now c.args.theorem.now c.args.derivs.now c.args.accepted.now c.requires.accepted none
