use Rattle.std.proofs.Common.{◌↔◌, drop, map}
use Rattle.std.specs.List.{AllByRecursion}
use Rattle.judgments.specs.Statements.{IsNamedOtherwise}
use Rattle.judgments.specs.Views.{given_text}
use Rattle.judgments.proofs.inputs.all_named_otherwise.Given as goal

abbrev pub invariant-loop-input : goal.invariant-loop-input
invariant-loop-input l =
    AllByRecursion (IsNamedOtherwise l.name) (map given_text (drop l.input-index l.inputs)) ↔ AllByRecursion (IsNamedOtherwise l.name) (map given_text l.inputs)
