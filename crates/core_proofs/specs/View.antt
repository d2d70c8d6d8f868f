-- The plain steps that kept steps are.
use Rattle.std.specs.Prelude.{map}
use Rattle.rule_schemes.specs.View.{judgment_scheme}
use Rattle.core_proofs.specs.Step.{Step, begin_theorem, end_theorem, by_rule}
use Rattle.core_proofs.specs.declared.step.CoreStep.{CoreStep}
use Rattle.core_proofs.specs.declared.step.CoreStep.TheVariants.{Begin, End, Rule}

abbrev pub step : CoreStep → Step
step (Begin theorem) = begin_theorem theorem.0
step (End line) = end_theorem line
step (Rule line form rule on) = by_rule line (judgment_scheme form) rule.0 (map (λ id. id.0) on)
