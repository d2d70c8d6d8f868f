-- How much work a run is: a number that a total function computes of a theorem, its inputs and the rest of a block, for every call that falls in rank; by it a
-- runner is seen to end. Nothing here says that steps are right. To be held against docs/notation.md, 'Runs'.
use Rattle.std.specs.Prelude.{ℕ, suc, ◌+◌, List, [], ◌∷◌, ◌++◌, length, Option, Some, None}
use mathlib.Core.WellFounded.InvImage
use mathlib.Core.WellFounded.{WellFounded, fix}
use Rattle.scheme_terms.specs.Forms.{ContextValue, Instance, Substitution}
use Rattle.scheme_terms.specs.declared.scheme.MetaDecl.{MetaDecl}
use Rattle.rule_schemes.specs.Rules.{JudgmentScheme}
use Rattle.rule_schemes.specs.Derivation.{Derivation}
use Rattle.rule_schemes.specs.Statement.{Theorem, InputTree}
use Rattle.proof_trees.specs.Steps.{CallArgument, Simple, by_call, Subject, CaseHead}
use Rattle.proof_trees.specs.Tree.{Item, single, block, Items, no_items, item, Cases, no_cases, one_case, numbers_of, numbers_of_cases}
use Rattle.proof_trees.specs.Here.{Here, nones, after_item, around_cases, after_case, entering}
use Rattle.proof_trees.specs.Value.{forms_made, all_made}
use Rattle.proof_trees.specs.Ranks.{Rank, rank_at, IsLower}
use Rattle.proof_trees.specs.RanksFall.{ranks_end, lower_decided}

-- a call of a theorem: in a context value, on inputs
pub record Asked : Type 0 where
  pub theorem : ℕ
  pub context : ContextValue
  pub inputs : List InputTree

-- what a run gives, where it gives anything, and how many steps it takes
pub record Ran : Type 0 where
  pub made : Option (List Derivation)
  pub count : ℕ

-- a case that fits: what its outer names stand for, its instance, and the premises of what is analysed
pub record Entered : Type 0 where
  pub refine : Substitution
  pub inner : Instance
  pub premises : List Derivation

-- How the lower crates' functions answer a run; each answer is a function of plain data, and nothing is asked of it here.
pub record Finder : Type 0 where
  -- what a step makes that is no call: a node, a leaf, the same, or a structural step's tree
  pub makes : Here → Instance → List (Option Derivation) → Simple → Option (List Derivation)
  -- the call that a step is: the callee with its context value and inputs
  pub asks : Here → Instance → List (Option Derivation) → (forms : List JudgmentScheme) → (callee : ℕ) → List CallArgument → List MetaDecl → Option Asked
  -- the instance with the new names of a call, which make its forms the results' judgments
  pub learns : Here → Instance → (forms : List JudgmentScheme) → List MetaDecl → List Derivation → Option Instance
  -- whether a case fits what is analysed
  pub fits : Here → Instance → List (Option Derivation) → Subject → CaseHead → Option Entered
  -- in which scope and with which instance a theorem's proof begins
  pub starts : Asked → Option (Here × Instance × List (Option Derivation) × Items)

-- nothing, in no step
abbrev pub nothing_ran : Ran
nothing_ran = record { made = None; count = 0 }

-- one step more
abbrev pub one_more : Ran → Ran
one_more r = record { made = r.made; count = suc r.count }

-- so many steps more
abbrev pub counted : ℕ → Ran → Ran
counted n r = record { made = r.made; count = n + r.count }

-- one after the other, where the first gives something
abbrev pub then_from : (count : ℕ) → Option (List Derivation) → (List Derivation → Ran) → Ran
then_from n None next = record { made = None; count = n }
then_from n (Some ds) next = counted n (next ds)

-- the second run goes on with what the first gives
abbrev pub and_then : Ran → (List Derivation → Ran) → Ran
and_then r next = then_from r.count r.made next

-- goes on where there is something
abbrev pub where_some : {A : Type 0} → Option A → (A → Ran) → Ran
where_some None next = nothing_ran
where_some (Some x) next = next x

-- the rank of a call
abbrev pub rank_of : List Theorem → Asked → Rank
rank_of sts asked = rank_at sts asked.theorem asked.inputs

-- What a step makes, with the instance after it; a call is answered by what is handed in.
abbrev pub step_ran : Finder → (Asked → Ran) → Here → Instance → List (Option Derivation) → Simple → Ran
step_ran find call here inst held (by_call line forms callee args fresh) = where_some (find.asks here inst held forms callee args fresh) call
step_ran find call here inst held s = record { made = find.makes here inst held s; count = 0 }

-- the instance after a step
abbrev pub instance_after : Finder → Here → Instance → Simple → List Derivation → Option Instance
instance_after find here inst (by_call line forms callee args fresh) made = find.learns here inst forms fresh made
instance_after find here inst s made = Some inst

-- the instance after a step or a block
abbrev pub instance_after_item : Finder → Here → Instance → Item → List Derivation → Option Instance
instance_after_item find here inst (single s) made = instance_after find here inst s made
instance_after_item find here inst (block head cases end) made = Some inst

-- the derivations in scope after a step
abbrev pub held_after : List (Option Derivation) → List Derivation → Item → List (Option Derivation)
held_after held made (single s) = held ++ all_made made
held_after held made (block head cases end) = held ++ (forms_made head made ++ nones (numbers_of_cases cases))

-- within a case that fits, or else in a later one
abbrev pub in_case_or : Option Entered → (Entered → Ran) → Ran → Ran
in_case_or None inside later = later
in_case_or (Some e) inside later = inside e

-- Steps down the tree, each call answered by what is handed in.
abbrev mutual
  pub item_ran : Finder → (Asked → Ran) → Here → Instance → List (Option Derivation) → Item → Ran
  item_ran find call here inst held (single s) = step_ran find call here inst held s
  item_ran find call here inst held (block head cases end) =
      cases_ran find call (around_cases here head) inst (held ++ nones (length head.forms)) head.subject cases

  pub items_ran : Finder → (Asked → Ran) → Here → Instance → List (Option Derivation) → (last : List Derivation) → Items → Ran
  items_ran find call here inst held last no_items = record { made = Some last; count = 0 }
  items_ran find call here inst held last (item i rest) =
      one_more (and_then (item_ran find call here inst held i) (λ made.
      where_some (instance_after_item find here inst i made) (λ next. items_ran find call (after_item here i) next (held_after held made i) made rest)))

  pub cases_ran : Finder → (Asked → Ran) → Here → Instance → List (Option Derivation) → Subject → Cases → Ran
  cases_ran find call around inst held s no_cases = nothing_ran
  cases_ran find call around inst held s (one_case head body end rest) =
      in_case_or (find.fits around inst held s head)
      (λ e. one_more (items_ran find call (entering around s head e.refine) e.inner (held ++ all_made e.premises) [] body))
      (cases_ran find call (after_case around (length head.premises + numbers_of body)) inst (held ++ nones (length head.premises + numbers_of body)) s rest)

-- the proof of a theorem from its beginning
abbrev pub started : Finder → (Asked → Ran) → Asked → Ran
started find call asked = where_some (find.starts asked) (λ b. one_more (items_ran find call b.0 b.1 b.2 [] b.3))

-- what is answered where a rank is lower, and nothing where it is not
abbrev pub if_lower : {A : Type 0} → Dec A → (A → Ran) → Ran
if_lower (yes h) f = f h
if_lower (no g) f = nothing_ran

-- calls that fall in rank end
abbrev pub asked_end : (sts : List Theorem) → WellFounded (λ (x y : Asked). IsLower (rank_of sts x) (rank_of sts y))
asked_end sts = InvImage.wf (rank_of sts) ranks_end

-- One round: a theorem's proof, its calls answered by the rounds of lower rank.
abbrev pub round : Finder → (sts : List Theorem) → (x : Asked) → ((y : Asked) → IsLower (rank_of sts y) (rank_of sts x) → Ran) → Ran
round find sts x below = started find (λ y. if_lower (lower_decided (rank_of sts y) (rank_of sts x)) (below y)) x

-- the run of a theorem, whatever it is asked for
unfoldable pub theorem_ran : Finder → List Theorem → Asked → Ran
theorem_ran find sts = fix (asked_end sts) (round find sts)

-- the answer to a call within the run of a theorem: that theorem's run where its rank is lower
abbrev pub answered : Finder → List Theorem → (within call : Asked) → Ran
answered find sts x y = if_lower (lower_decided (rank_of sts y) (rank_of sts x)) (λ lower. theorem_ran find sts y)

-- the measures: of a call, and of the rest of a block within the run of one
abbrev pub work : Finder → List Theorem → Asked → ℕ
work find sts asked = (theorem_ran find sts asked).count

-- the measure of the rest of a block within the run of a call
abbrev pub work_left : Finder → List Theorem → (within : Asked) → Here → Instance → List (Option Derivation) → (last : List Derivation) → Items → ℕ
work_left find sts x here inst held last rest = (items_ran find (answered find sts x) here inst held last rest).count

-- A block that waits for the value of one of its items: for a machine that keeps its own stack.
pub record Frame : Type 0 where
  pub within : Asked
  pub here : Here
  pub inst : Instance
  pub held : List (Option Derivation)
  pub item : Item
  pub rest : Items

-- what the waiting block gives once the value is there
abbrev pub resumed : Finder → List Theorem → Frame → List Derivation → Ran
resumed find sts f made =
    where_some (instance_after_item find f.here f.inst f.item made)
    (λ next. items_ran find (answered find sts f.within) (after_item f.here f.item) next (held_after f.held made f.item) made f.rest)

-- what runs now, and then the frames, the innermost first
abbrev pub stack_ran : Finder → List Theorem → Ran → List Frame → Ran
stack_ran find sts now [] = now
stack_ran find sts now (f ∷ fs) = stack_ran find sts (one_more (and_then now (resumed find sts f))) fs

-- the measure of the machine
abbrev pub stack_work : Finder → List Theorem → Ran → List Frame → ℕ
stack_work find sts now frames = (stack_ran find sts now frames).count
