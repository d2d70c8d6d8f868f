-- Which statements can be opened for proofs. To be held against docs/notation.md, 'Rules and statements'.
use Rattle.std.specs.Prelude.{◌≡◌, ◌≢◌, ◌<◌, ◌≤◌, ◌⊎◌, ℕ, suc, List, [], ◌∷◌, length, slice_get, MatchOption}
use Rattle.std.specs.List.{AllByRecursion}
use Rattle.binding_terms.specs.Numbered.{AllNumbered}
use Rattle.scheme_terms.specs.Forms.{Names}
use Rattle.rule_schemes.specs.Rules.{Theory, NeedsNoContext}
use Rattle.rule_schemes.specs.Statement.{Theorem, IsStatement, IsTheoremScope, IsWithinEntries, HasNoFault, IsOfInputs, IsOfOutputs}
use Rattle.proof_trees.specs.Right.{IsProofScope}

-- how many conclusions a statement may have
abbrev pub CONCLUSIONS : ℕ
CONCLUSIONS = 1

-- A statement by itself: over its scope and without a fault, within the limits, each name in an input or a conclusion, and those of the
-- conclusions alone last.
pub record IsProvable (th : Theory) (st : Theorem) : Type 0 where
  pub forms : IsStatement th st
  pub entries : IsWithinEntries st
  pub scope : IsTheoremScope th st.scope
  pub no_fault : HasNoFault th st
  pub some_output : 1 ≤ length st.outputs
  pub few_outputs : length st.outputs ≤ CONCLUSIONS
  pub targets : AllByRecursion (λ target. target < length st.inputs) st.targets
  pub each_stands : AllNumbered (λ m decl. IsOfInputs st m ⊎ IsOfOutputs st m) 0 st.scope.metas
  pub goal_names_last : (scope : Names) × IsProofScope st scope

-- a statement joins the group of the one before, with as many targets, or begins the next group
abbrev pub FollowsInGroup : Theorem → Theorem → Type 0
FollowsInGroup before st = ((st.group ≡ before.group) × (length st.targets ≡ length before.targets)) ⊎ (st.group ≡ suc before.group)

-- groups follow one another without a gap, and the members of a group have as many targets
abbrev pub AreGroupedAfter : Theorem → List Theorem → Type 0
AreGroupedAfter before [] = Unit {0}
AreGroupedAfter before (st ∷ sts) = FollowsInGroup before st × AreGroupedAfter st sts

-- the first statement is of the first group, and the others follow
abbrev pub AreGrouped : List Theorem → Type 0
AreGrouped [] = Unit {0}
AreGrouped (st ∷ sts) = (st.group ≡ 0) × AreGroupedAfter st sts

-- what is asked of a system and a list of statements, before their proofs
pub record CanBeOpened (th : Theory) (sts : List Theorem) : Type 0 where
  pub whole : AllByRecursion (NeedsNoContext th) th.rules
  pub each : AllByRecursion (IsProvable th) sts
  pub groups : AreGrouped sts

-- the first statement with this name has this number
pub record IsFirstNamed (sts : List Theorem) (name : List ℕ) (k : ℕ) : Type 0 where
  pub here : MatchOption (slice_get sts k) ⊥ (λ st. st.name ≡ name)
  pub none_before : (i : ℕ) → i < k → MatchOption (slice_get sts i) ⊥ (λ st. st.name ≢ name)
