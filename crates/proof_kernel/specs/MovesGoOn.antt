-- That a right step moves the standing as it goes on. To be held against docs/notation.md, 'Steps'.
use Rattle.std.specs.Prelude.{◌≡◌, ℕ, [], ◌∷◌, List, Some, slice_get}
use Rattle.std.specs.List.{AllByRecursion}
use Rattle.scheme_terms.specs.Forms.{Names, Substitution}
use Rattle.rule_schemes.specs.Rules.{Theory}
use Rattle.rule_schemes.specs.Statement.{Theorem}
use Rattle.case_split.specs.declared.choice.Place.{Place}
use Rattle.proof_trees.specs.Steps.{Simple, SplitHead, CaseHead, begin_theorem, end_theorem, simple, begin_split, begin_case, end_case, end_split}
use Rattle.proof_trees.specs.Choices.{SubjectForm}
use Rattle.proof_trees.specs.Here.{Here, around_cases}
use Rattle.proof_trees.specs.Goals.{Last, EndsWithGoal}
use Rattle.proof_trees.specs.Right.{IsRightStep, IsRightHead, IsRightCaseHead, IsProofScope}
use Rattle.proof_trees.specs.Standings.{outside, within, between, Opened, GoesOn}
use Rattle.proof_kernel.specs.Moves as moves

-- the beginning of a proof
abbrev pub BeginningGoesOn : Type 0
BeginningGoesOn =
    (th : Theory) (sts : List Theorem) (k : ℕ) (st : Theorem) (scope : Names) (is : IsProofScope st scope) → slice_get sts k ≡ Some st →
    GoesOn th sts (outside k) (begin_theorem k) (moves.begun st scope is.goal_names (outside k))

-- its end
abbrev pub EndGoesOn : Type 0
EndGoesOn =
    (th : Theory) (sts : List Theorem) (k line : ℕ) (here : Here) (last : Last) → EndsWithGoal th here last →
    GoesOn th sts (within k here last []) (end_theorem line) (moves.ended (within k here last []))

-- a step that is justified by itself
abbrev pub StepGoesOn : Type 0
StepGoesOn =
    (th : Theory) (sts : List Theorem) (k : ℕ) (here : Here) (last : Last) (blocks : List Opened) (s : Simple) → IsRightStep th sts k here s →
    GoesOn th sts (within k here last blocks) (simple s) (moves.stepped s (within k here last blocks))

-- the beginning of a block
abbrev pub SplitGoesOn : Type 0
SplitGoesOn =
    (th : Theory) (sts : List Theorem) (k : ℕ) (here : Here) (last : Last) (blocks : List Opened) (head : SplitHead) (subject : SubjectForm) →
    IsRightHead th (around_cases here head) head subject →
    GoesOn th sts (within k here last blocks) (begin_split head) (moves.split head subject (within k here last blocks))

-- the beginning of a case
abbrev pub CaseGoesOn : Type 0
CaseGoesOn =
    (th : Theory) (sts : List Theorem) (k : ℕ) (o : Opened) (blocks : List Opened) (head : CaseHead) (due : List (ℕ × Place)) (refine : Substitution) →
    o.due ≡ (head.number, head.place) ∷ due → AllByRecursion (λ c. c ≡ (head.number, head.place) → ⊥) o.had → IsRightCaseHead th o.around o.subject head refine →
    GoesOn th sts (between k o blocks) (begin_case head) (moves.entered head refine (between k o blocks))

-- the end of a case
abbrev pub CaseEndGoesOn : Type 0
CaseEndGoesOn =
    (th : Theory) (sts : List Theorem) (k line : ℕ) (here : Here) (last : Last) (o : Opened) (blocks : List Opened) (choice : ℕ × Place) (due : List (ℕ × Place)) →
    EndsWithGoal th here last → o.due ≡ choice ∷ due →
    GoesOn th sts (within k here last (o ∷ blocks)) (end_case line) (moves.left (within k here last (o ∷ blocks)))

-- the end of a block
abbrev pub SplitEndGoesOn : Type 0
SplitEndGoesOn =
    (th : Theory) (sts : List Theorem) (k line : ℕ) (o : Opened) (blocks : List Opened) → o.due ≡ [] →
    GoesOn th sts (between k o blocks) (end_split line) (moves.closed (between k o blocks))
