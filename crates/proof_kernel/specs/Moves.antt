-- How the standing of kept steps moves with a right step. To be held against docs/notation.md, 'Steps'.
use Rattle.std.specs.Prelude.{ℕ, suc, List, [], ◌∷◌, length}
use Rattle.scheme_terms.specs.Forms.{Names, Substitution}
use Rattle.scheme_terms.specs.declared.scheme.MetaDecl.{MetaDecl}
use Rattle.rule_schemes.specs.Statement.{Theorem}
use Rattle.case_split.specs.declared.choice.Place.{Place}
use Rattle.proof_trees.specs.Steps.{Simple, SplitHead, CaseHead}
use Rattle.proof_trees.specs.Choices.{SubjectForm}
use Rattle.proof_trees.specs.Here.{beginning, entering, after_step}
use Rattle.proof_trees.specs.Goals.{no_step, last_of_step, taking_over}
use Rattle.proof_trees.specs.Standings.{Standing, outside, within, between, Opened, opened, after_its_case, after_opened}

-- the proof of a theorem begins, after those before it
abbrev pub begun : Theorem → Names → (goal_names : List MetaDecl) → Standing → Standing
begun st scope goal_names (outside k) = within k (beginning st scope goal_names) no_step []
begun st scope goal_names at = at

-- the proof of a theorem ends, outside all blocks
abbrev pub ended : Standing → Standing
ended (within k here last []) = outside (suc k)
ended at = at

-- a step that is justified by itself
abbrev pub stepped : Simple → Standing → Standing
stepped s (within k here last blocks) = within k (after_step here s) (last_of_step s) blocks
stepped s at = at

-- a block begins
abbrev pub split : SplitHead → SubjectForm → Standing → Standing
split head subject (within k here last blocks) = between k (opened here head subject) blocks
split head subject at = at

-- the next case of the innermost block begins
abbrev pub entered : CaseHead → (refine : Substitution) → Standing → Standing
entered head refine (between k o blocks) = within k (entering o.around o.head.subject head refine) no_step (o ∷ blocks)
entered head refine at = at

-- after the first of the cases that are due, at whose end so many numbers were taken
abbrev pub case_ended : Opened → (due : List (ℕ × Place)) → (numbers : ℕ) → Opened
case_ended o [] n = o
case_ended o (choice ∷ due) n = after_its_case o choice due n

-- the case ends
abbrev pub left : Standing → Standing
left (within k here last (o ∷ blocks)) = between k (case_ended o o.due (length here.held)) blocks
left at = at

-- the innermost block ends
abbrev pub closed : Standing → Standing
closed (between k o blocks) = within k (after_opened o) (taking_over o.head.forms) blocks
closed at = at
