use Rattle.std.proofs.Common.{◌↔◌, drop, map}
use Rattle.judgments.specs.Statements.{AreNamedDifferently}
use Rattle.judgments.specs.Views.{given_text}
use Rattle.judgments.proofs.inputs.named_differently.Given as goal

abbrev pub invariant-loop-i : goal.invariant-loop-i
invariant-loop-i l = AreNamedDifferently (map given_text (drop l.i l.inputs)) ↔ AreNamedDifferently (map given_text l.inputs)
