-- Proofs as trees, and the steps that a tree is. To be held against docs/notation.md, 'Steps'.
use Rattle.std.specs.Prelude.{ℕ, suc, ◌+◌, max, List, [], ◌∷◌, ◌++◌, length}
use Rattle.rule_schemes.specs.Rules.{JudgmentScheme}
use Rattle.proof_trees.specs.Steps.{Simple, by_rule, by_call, by_name, by_weakening, by_exchange, by_substitution, unproved, SplitHead, CaseHead, Step, begin_theorem, end_theorem, simple, begin_split, begin_case, end_case, end_split}

-- steps in order, a block with its cases as one of them; each end has its line
mutual
  pub data Item : Type 0 where
    single : Simple → Item
    block : SplitHead → Cases → (end : ℕ) → Item

  pub data Items : Type 0 where
    no_items : Items
    item : Item → Items → Items

  pub data Cases : Type 0 where
    no_cases : Cases
    one_case : CaseHead → Items → (end : ℕ) → Cases → Cases

-- the steps of a tree, in the order in which they are handed in
abbrev mutual
  pub flattened_item : Item → List Step
  flattened_item (single s) = simple s ∷ []
  flattened_item (block head cases end) = begin_split head ∷ (flattened_cases cases ++ (end_split end ∷ []))

  pub flattened : Items → List Step
  flattened no_items = []
  flattened (item i rest) = flattened_item i ++ flattened rest

  pub flattened_cases : Cases → List Step
  flattened_cases no_cases = []
  flattened_cases (one_case head body end rest) = begin_case head ∷ (flattened body ++ (end_case end ∷ flattened_cases rest))

-- the proof of a theorem, with the line of its end
pub record Proof : Type 0 where
  pub body : Items
  pub end : ℕ

-- the steps of the proof of a theorem
abbrev pub flattened_proof : (theorem : ℕ) → Proof → List Step
flattened_proof k proof = begin_theorem k ∷ (flattened proof.body ++ (end_theorem proof.end ∷ []))

-- the steps of the proofs of theorems, where the first theorem has the number k
abbrev pub flattened_from : (k : ℕ) → List Proof → List Step
flattened_from k [] = []
flattened_from k (proof ∷ proofs) = flattened_proof k proof ++ flattened_from (suc k) proofs

-- the forms of a step that is justified by itself
abbrev pub forms_of : Simple → List JudgmentScheme
forms_of (by_rule line form r on) = form ∷ []
forms_of (by_call line forms callee args fresh) = forms
forms_of (by_name line forms of) = forms
forms_of (by_weakening line form of) = form ∷ []
forms_of (by_exchange line form of) = form ∷ []
forms_of (by_substitution line form of by) = form ∷ []
forms_of (unproved line forms) = forms

-- how many numbers a tree takes: one for each form of its steps and for each premise of its cases
abbrev mutual
  pub numbers_of_item : Item → ℕ
  numbers_of_item (single s) = length (forms_of s)
  numbers_of_item (block head cases end) = length head.forms + numbers_of_cases cases

  pub numbers_of : Items → ℕ
  numbers_of no_items = 0
  numbers_of (item i rest) = numbers_of_item i + numbers_of rest

  pub numbers_of_cases : Cases → ℕ
  numbers_of_cases no_cases = 0
  numbers_of_cases (one_case head body end rest) = length head.premises + (numbers_of body + numbers_of_cases rest)

-- the level of a block: one more than its cases have, where it has any
abbrev pub level_above : Cases → ℕ → ℕ
level_above no_cases below = 0
level_above (one_case head body end rest) below = suc below

-- how deep blocks stand in one another; a block without a case is not counted
abbrev mutual
  pub levels_of_item : Item → ℕ
  levels_of_item (single s) = 0
  levels_of_item (block head cases end) = level_above cases (levels_of_cases cases)

  pub levels_of : Items → ℕ
  levels_of no_items = 0
  levels_of (item i rest) = max (levels_of_item i) (levels_of rest)

  pub levels_of_cases : Cases → ℕ
  levels_of_cases no_cases = 0
  levels_of_cases (one_case head body end rest) = max (levels_of body) (levels_of_cases rest)

-- no step is unproved
abbrev pub IsProvedStep : Simple → Type 0
IsProvedStep (unproved line forms) = ⊥
IsProvedStep _ = Unit {0}

abbrev mutual
  pub IsProvedItem : Item → Type 0
  IsProvedItem (single s) = IsProvedStep s
  IsProvedItem (block head cases end) = AreProvedCases cases

  pub AreProved : Items → Type 0
  AreProved no_items = Unit {0}
  AreProved (item i rest) = IsProvedItem i × AreProved rest

  pub AreProvedCases : Cases → Type 0
  AreProvedCases no_cases = Unit {0}
  AreProvedCases (one_case head body end rest) = AreProved body × AreProvedCases rest
