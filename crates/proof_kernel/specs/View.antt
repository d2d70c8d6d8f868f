-- What is in scope, and the standing of kept steps, as the plain records that they are.
use Rattle.std.specs.Prelude.{ℕ, ◌++◌, map, option_map, take, drop, reverse}
use Rattle.scheme_terms.specs.View.{scheme, scheme_context, names}
use Rattle.rule_schemes.specs.View.{judgment_scheme}
use Rattle.case_split.specs.declared.choice.Place.{Place}
use Rattle.proof_trees.specs.Here as trees
use Rattle.proof_trees.specs.Choices as choices
use Rattle.proof_trees.specs.Goals as goals
use Rattle.proof_trees.specs.Standings as standings
use Rattle.proof_trees.specs.Steps as steps
use Rattle.proof_kernel.specs.declared.here.Goal.{Goal}
use Rattle.proof_kernel.specs.declared.here.Held.{Held}
use Rattle.proof_kernel.specs.declared.here.Here.{Here}
use Rattle.proof_kernel.specs.declared.standing.Last.{Last}
use Rattle.proof_kernel.specs.declared.standing.Last.TheVariants as of_last
use Rattle.proof_kernel.specs.declared.standing.SubjectForm.{SubjectForm}
use Rattle.proof_kernel.specs.declared.standing.SubjectForm.TheVariants as of_form
use Rattle.proof_kernel.specs.declared.standing.Opened.{Opened}
use Rattle.proof_kernel.specs.declared.standing.Standing.{Standing}
use Rattle.proof_kernel.specs.declared.standing.Standing.TheVariants.{Outside, Within, Between}
use Rattle.proof_kernel.specs.declared.step.CallArgument.{CallArgument}
use Rattle.proof_kernel.specs.declared.step.CallArgument.TheVariants as of_argument
use Rattle.proof_kernel.specs.declared.step.Subject.{Subject}
use Rattle.proof_kernel.specs.declared.step.Subject.TheVariants as of_subject
use Rattle.proof_kernel.specs.declared.step.CaseChoice.{CaseChoice}
use Rattle.proof_kernel.specs.declared.step.SplitHead.{SplitHead}
use Rattle.proof_kernel.specs.declared.step.CaseHead.{CaseHead}
use Rattle.proof_kernel.specs.declared.step.CoreStep.{CoreStep}
use Rattle.proof_kernel.specs.declared.step.CoreStep.TheVariants as of_step

-- a goal
abbrev pub goal : Goal → trees.Goal
goal g = record { outer = g.outer; names = g.names; forms = map judgment_scheme g.forms }

-- a derivation in scope
abbrev pub held : Held → trees.Held
held h = record { judgment = judgment_scheme h.form; relations = h.relations }

-- what is in scope
abbrev pub here : Here → trees.Here
here h =
    record {
      scope = names h.scope;
      held = map (option_map held) h.held;
      targets = map (option_map scheme) h.targets;
      goal = goal h.goal;
    }

-- the choice of a case
abbrev pub choice : CaseChoice → ℕ × Place
choice c = (c.number, c.place)

-- what a block analyses, as it is written
abbrev pub subject : Subject → steps.Subject
subject (of_subject.Step n) = steps.step_subject n.0
subject (of_subject.Scheme s cat) = steps.scheme_subject (scheme s) cat.0

-- an argument of a call
abbrev pub argument : CallArgument → steps.CallArgument
argument (of_argument.Step n) = steps.step_argument n.0
argument (of_argument.Scheme s) = steps.scheme_argument (scheme s)

-- the head of a block
abbrev pub split_head : SplitHead → steps.SplitHead
split_head h = record { line = h.line; forms = map judgment_scheme h.forms; subject = subject h.subject; named = map choice h.named }

-- the head of a case
abbrev pub case_head : CaseHead → steps.CaseHead
case_head h =
    record {
      line = h.line;
      number = h.choice.number;
      place = h.choice.place;
      scope = names h.scope;
      premises = map judgment_scheme h.premises;
      conclusion = option_map judgment_scheme h.conclusion;
      term = option_map scheme h.term;
    }

-- a step
abbrev pub step : CoreStep → steps.Step
step (of_step.Begin k) = steps.begin_theorem k.0
step (of_step.End line) = steps.end_theorem line
step (of_step.Rule line form rule on) = steps.simple (steps.by_rule line (judgment_scheme form) rule.0 (map (λ n. n.0) on))
step (of_step.Call line forms callee args fresh) = steps.simple (steps.by_call line (map judgment_scheme forms) callee.0 (map argument args) fresh)
step (of_step.Again line forms of) = steps.simple (steps.by_name line (map judgment_scheme forms) (map (λ n. n.0) of))
step (of_step.Weakening line form of) = steps.simple (steps.by_weakening line (judgment_scheme form) of.0)
step (of_step.Exchange line form of) = steps.simple (steps.by_exchange line (judgment_scheme form) of.0)
step (of_step.Substitution line form of by) = steps.simple (steps.by_substitution line (judgment_scheme form) of.0 by.0)
step (of_step.Unproved line forms) = steps.simple (steps.unproved line (map judgment_scheme forms))
step (of_step.Split head) = steps.begin_split (split_head head)
step (of_step.Case head) = steps.begin_case (case_head head)
step (of_step.EndCase line) = steps.end_case line
step (of_step.EndSplit line) = steps.end_split line

-- the last step
abbrev pub last : Last → goals.Last
last of_last.NoStep = goals.no_step
last (of_last.WithForms forms) = goals.with_forms (map judgment_scheme forms)
last of_last.TheGoal = goals.the_goal

-- what a block analyses
abbrev pub subject_form : SubjectForm → choices.SubjectForm
subject_form (of_form.Judgment j) = choices.on_judgment (judgment_scheme j)
subject_form (of_form.Scheme ctx s cat) = choices.on_scheme (scheme_context ctx) (scheme s) cat.0

-- what is in scope around the next case of a block: its forms and its cases so far have numbers of nothing
abbrev pub around : Opened → trees.Here
around o =
    record {
      scope = names o.before.scope;
      held = map (option_map held) o.before.held ++ trees.nones o.taken;
      targets = map (option_map scheme) o.before.targets;
      goal = goal o.goal;
    }

-- a block that is begun
abbrev pub opened : Opened → standings.Opened
opened o =
    record {
      before = here o.before;
      head = split_head o.head;
      subject = subject_form o.subject;
      around = around o;
      due = map choice (drop o.done o.head.named);
      had = map choice (reverse (take o.done o.head.named));
    }

-- where the kept steps stand
abbrev pub standing : Standing → standings.Standing
standing (Outside n) = standings.outside n
standing (Within k h l blocks) = standings.within k (here h) (last l) (map opened (reverse blocks.items))
standing (Between k o blocks) = standings.between k (opened o) (map opened (reverse blocks.items))
