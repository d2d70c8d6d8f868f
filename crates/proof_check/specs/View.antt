-- What contracts see of portions, and of a step that is made.
use Rattle.std.specs.Prelude.{List, map}
use Rattle.core_proofs.specs.View.{step}
use Rattle.outline_reader.specs.declared.parts.Portion.{Portion}
use Rattle.outline_reader.specs.Views.{portion_view}
use Rattle.outline_reader.specs.Plain.{PlainPortion, plain_portion}
use Rattle.proof_check.specs.declared.step.Made.{Made}
use Rattle.proof_check.specs.Steps.{MadeStep}

abbrev pub plain_portions : List Portion → List PlainPortion
plain_portions portions = map (λ portion. plain_portion (portion_view portion)) portions

abbrev pub made_step : Made → MadeStep
made_step made = record { name = made.name; line = made.line; step = step made.step }
