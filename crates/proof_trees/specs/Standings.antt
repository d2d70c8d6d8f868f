-- Where the steps that were kept so far stand, blocks that are begun included, and which step goes on there. To be held against docs/notation.md, 'Steps'.
use Rattle.std.specs.Prelude.{◌≡◌, ℕ, suc, ◌+◌, ◌-◌, List, [], ◌∷◌, ◌++◌, length, map, Some, slice_get}
use Rattle.scheme_terms.specs.Forms.{Names, Substitution}
use Rattle.rule_schemes.specs.Rules.{Theory}
use Rattle.rule_schemes.specs.Statement.{Theorem}
use Rattle.proof_trees.specs.Steps.{Simple, SplitHead, CaseHead, Step, begin_theorem, end_theorem, simple, begin_split, begin_case, end_case, end_split}
use Rattle.proof_trees.specs.Tree.{Items, Cases, Proof, numbers_of_cases, flattened, flattened_cases, flattened_from}
use Rattle.std.specs.List.{AllByRecursion}
use Rattle.case_split.specs.declared.choice.Place.{Place}
use Rattle.proof_trees.specs.Choices.{SubjectForm, AreDifferentChoices}
use Rattle.proof_trees.specs.Here.{Here, unrelated, nones, holding, after_step, after_items, around_cases, after_case, entering, beginning}
use Rattle.proof_trees.specs.Goals.{Last, no_step, last_of_step, taking_over, EndsWithGoal}
use Rattle.proof_trees.specs.Right.{IsRightStep, IsRightHead, IsRightCaseHead, AreRight, AreRightCases, IsProofScope, AreRightProofs}

-- A block that is begun: what was in scope before it, its head, what it analyses, what is in scope around its next case, the choices that
-- are still due, and those that had their case.
pub record Opened : Type 0 where
  pub before : Here
  pub head : SplitHead
  pub subject : SubjectForm
  pub around : Here
  pub due : List (ℕ × Place)
  pub had : List (ℕ × Place)

-- After so many theorems; among the steps of a theorem or a case, within the blocks that are begun, the innermost first; or before a case
-- or the end of the innermost block.
pub data Standing : Type 0 where
  outside : (ended : ℕ) → Standing
  within : (theorem : ℕ) → Here → Last → List Opened → Standing
  between : (theorem : ℕ) → Opened → List Opened → Standing

-- a block as it begins
abbrev pub opened : Here → SplitHead → SubjectForm → Opened
opened here head subject =
    record { before = here; head = head; subject = subject; around = around_cases here head; due = head.named; had = [] }

-- after one more of its cases, at whose end so many numbers were taken
abbrev pub after_its_case : Opened → (choice : ℕ × Place) → (due : List (ℕ × Place)) → (numbers : ℕ) → Opened
after_its_case o choice due n =
    record { before = o.before; head = o.head; subject = o.subject; around = after_case o.around (n - length o.around.held); due = due; had = choice ∷ o.had }

-- after the end of a block: its forms come in scope under the numbers that they took
abbrev pub after_opened : Opened → Here
after_opened o =
    holding o.before
    (map (λ j. Some (unrelated o.before j)) o.head.forms ++ nones (length o.around.held - (length o.before.held + length o.head.forms)))

-- One right step goes on from where the steps before it stand.
pub data GoesOn (th : Theory) (sts : List Theorem) : Standing → Step → Standing → Type 0 where
  begins : {k : ℕ} {st : Theorem} {scope : Names} → slice_get sts k ≡ Some st → (is_scope : IsProofScope st scope) →
      GoesOn th sts (outside k) (begin_theorem k) (within k (beginning st scope is_scope.goal_names) no_step [])
  ends : {k line : ℕ} {here : Here} {last : Last} → EndsWithGoal th here last →
      GoesOn th sts (within k here last []) (end_theorem line) (outside (suc k))
  by_step : {k : ℕ} {here : Here} {last : Last} {blocks : List Opened} {s : Simple} → IsRightStep th sts k here s →
      GoesOn th sts (within k here last blocks) (simple s) (within k (after_step here s) (last_of_step s) blocks)
  splits : {k : ℕ} {here : Here} {last : Last} {blocks : List Opened} {head : SplitHead} {subject : SubjectForm} →
      IsRightHead th (around_cases here head) head subject →
      GoesOn th sts (within k here last blocks) (begin_split head) (between k (opened here head subject) blocks)
  enters : {k : ℕ} {o : Opened} {blocks : List Opened} {head : CaseHead} {due : List (ℕ × Place)} {refine : Substitution} →
      o.due ≡ (head.number, head.place) ∷ due → AllByRecursion (λ c. c ≡ (head.number, head.place) → ⊥) o.had → IsRightCaseHead th o.around o.subject head refine →
      GoesOn th sts (between k o blocks) (begin_case head) (within k (entering o.around o.head.subject head refine) no_step (o ∷ blocks))
  leaves : {k line : ℕ} {here : Here} {last : Last} {o : Opened} {blocks : List Opened} {choice : ℕ × Place} {due : List (ℕ × Place)} →
      EndsWithGoal th here last → o.due ≡ choice ∷ due →
      GoesOn th sts (within k here last (o ∷ blocks)) (end_case line) (between k (after_its_case o choice due (length here.held)) blocks)
  closes : {k line : ℕ} {o : Opened} {blocks : List Opened} → o.due ≡ [] →
      GoesOn th sts (between k o blocks) (end_split line) (within k (after_opened o) (taking_over o.head.forms) blocks)

-- right steps, one after another
pub data Leads (th : Theory) (sts : List Theorem) : Standing → List Step → Standing → Type 0 where
  no_more_steps : {at : Standing} → Leads th sts at [] at
  one_step : {at next to : Standing} {step : Step} {steps : List Step} →
      GoesOn th sts at step next → Leads th sts next steps to → Leads th sts at (step ∷ steps) to

-- the steps are right proofs of all the statements, in order
abbrev pub Proves : Theory → List Theorem → List Step → Type 0
Proves th sts steps = Leads th sts (outside 0) steps (outside (length sts))

-- A proof that is begun: whole steps, and then nothing yet, a case that is begun after whole cases, or whole cases of a block whose next
-- case or end is due.
pub data Begun : Type 0 where
  so_far : Items → Begun
  in_case : Items → SplitHead → Cases → CaseHead → Begun → Begun
  before_case : Items → SplitHead → Cases → Begun

-- the steps of a begun proof
abbrev pub flattened_begun : Begun → List Step
flattened_begun (so_far items) = flattened items
flattened_begun (in_case items head cases case_head inner) =
    flattened items ++ (begin_split head ∷ (flattened_cases cases ++ (begin_case case_head ∷ flattened_begun inner)))
flattened_begun (before_case items head cases) = flattened items ++ (begin_split head ∷ flattened_cases cases)

-- The begun proof is right: its whole steps, the whole cases of the blocks that are begun, and the heads of these blocks and of their cases.
abbrev pub IsRightBegun : Theory → List Theorem → (theorem : ℕ) → Here → Begun → Type 0
IsRightBegun th sts k here (so_far items) = AreRight th sts k here items
IsRightBegun th sts k here (in_case items head cases case_head inner) =
    let around = around_cases (after_items here items) head in
    let now = after_case around (numbers_of_cases cases) in
    AreRight th sts k here items
    × ((subject : SubjectForm) × (done due : List (ℕ × Place)) × (refine : Substitution) × IsRightHead th around head subject
    × (head.named ≡ done ++ ((case_head.number, case_head.place) ∷ due)) × AreDifferentChoices (done ++ ((case_head.number, case_head.place) ∷ [])) × AreRightCases th sts k around head.subject subject done cases
    × IsRightCaseHead th now subject case_head refine × IsRightBegun th sts k (entering now head.subject case_head refine) inner)
IsRightBegun th sts k here (before_case items head cases) =
    let around = around_cases (after_items here items) head in
    AreRight th sts k here items
    × ((subject : SubjectForm) × (done due : List (ℕ × Place)) × IsRightHead th around head subject
    × (head.named ≡ done ++ due) × AreDifferentChoices done × AreRightCases th sts k around head.subject subject done cases)

-- a right beginning of a proof of the theorem with this number
pub record IsBegunProof (th : Theory) (sts : List Theorem) (k : ℕ) (begun : Begun) : Type 0 where
  pub statement : Theorem
  pub there : slice_get sts k ≡ Some statement
  pub scope : Names
  pub is_scope : IsProofScope statement scope
  pub right : IsRightBegun th sts k (beginning statement scope is_scope.goal_names) begun

-- steps are those of right proofs of the first theorems
pub record AreWholeTrees (th : Theory) (sts : List Theorem) (count : ℕ) (steps : List Step) : Type 0 where
  pub proofs : List Proof
  pub counted : length proofs ≡ count
  pub right : AreRightProofs th sts 0 proofs
  pub same : steps ≡ flattened_from 0 proofs

-- steps are those of right proofs of the first theorems, and of a right beginning of the next one
pub record AreBegunTrees (th : Theory) (sts : List Theorem) (steps : List Step) : Type 0 where
  pub proofs : List Proof
  pub right : AreRightProofs th sts 0 proofs
  pub begun : Begun
  pub is_begun : IsBegunProof th sts (length proofs) begun
  pub same : steps ≡ flattened_from 0 proofs ++ (begin_theorem (length proofs) ∷ flattened_begun begun)
