use Rattle.std.proofs.lemmas.Result.{IfOk-weaker}
use Rattle.sasylf_command.proofs.Given.{given_of, none_given}
use Rattle.sasylf_command.proofs.judging.given_trees.Goals as goal

pub returns-in-Some : goal.returns-in-Some
returns-in-Some c =
    let read = rw c.in-Some.is at c.in_ok-derivs.ensures in
    IfOk-weaker _ _ _
    (given_of _ _ c.args.lines.now _ c.always_system.ensures c.requires.bare c.requires.takes c.inputs_are_unique.ensures.of_text c.inputs_are_unique.ensures.of_source read.0 read.1)
    (c.inputs.ensures _)

pub returns-in-None : goal.returns-in-None
returns-in-None c =
    let none = rw c.in-None.is at c.in_ok-derivs.ensures in
    none_given _ _ c.args.lines.now none
