use Rattle.std.proofs.Common.{◌↔◌, drop, map}
use Rattle.std.specs.List.{AllByRecursion}
use Rattle.judgments.specs.Statements.{IsNamedFreely}
use Rattle.judgments.specs.Views.{given_text}
use Rattle.judgments.proofs.inputs.all_named_freely.Given as goal

abbrev pub invariant-loop-input : goal.invariant-loop-input
invariant-loop-input l =
    AllByRecursion (IsNamedFreely l.sig) (map given_text (drop l.input-index l.inputs)) ↔ AllByRecursion (IsNamedFreely l.sig) (map given_text l.inputs)
