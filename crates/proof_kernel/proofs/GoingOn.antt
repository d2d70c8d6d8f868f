-- Right steps move the standing as it goes on.
use Rattle.std.proofs.Common.{◌∷◌, length, sym, subst}
use Rattle.proof_trees.specs.Standings.{between, begins, ends, by_step, splits, enters, leaves, closes, GoesOn, within}
use Rattle.proof_trees.specs.Steps.{end_case}
use Rattle.proof_kernel.specs.Moves.{case_ended}
use Rattle.proof_kernel.specs.MovesGoOn.{BeginningGoesOn, EndGoesOn, StepGoesOn, SplitGoesOn, CaseGoesOn, CaseEndGoesOn, SplitEndGoesOn}

pub beginning_goes_on : BeginningGoesOn
beginning_goes_on th sts k st scope is there = begins there is

pub end_goes_on : EndGoesOn
end_goes_on th sts k line here last ends_right = ends ends_right

pub step_goes_on : StepGoesOn
step_goes_on th sts k here last blocks s right = by_step right

pub split_goes_on : SplitGoesOn
split_goes_on th sts k here last blocks head subject right = splits right

pub case_goes_on : CaseGoesOn
case_goes_on th sts k o blocks head due refine next new right = enters next new right

pub case_end_goes_on : CaseEndGoesOn
case_end_goes_on th sts k line here last o blocks choice due ends_right next =
    subst (λ d. GoesOn th sts (within k here last (o ∷ blocks)) (end_case line) (between k (case_ended o d (length here.held)) blocks))
    (sym next) (leaves ends_right next)

pub split_end_goes_on : SplitEndGoesOn
split_end_goes_on th sts k line o blocks none = closes none
