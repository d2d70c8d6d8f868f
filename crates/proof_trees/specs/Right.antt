-- Right steps and right proofs. To be held against docs/notation.md, 'Steps'.
use Rattle.std.specs.Prelude.{◌≡◌, ◌<◌, ◌≤◌, ◌⊎◌, ℕ, suc, ◌+◌, nat_lt, List, [], ◌∷◌, ◌++◌, length, Option, Some, None, option_map, slice_get, MatchOption}
use Rattle.std.specs.List.{AllByRecursion, AllZip}
use Rattle.binding_terms.specs.Numbered.{AllNumbered}
use Rattle.scheme_terms.specs.SchemeTree.{SchemeTree}
use Rattle.scheme_terms.specs.Forms.{SchemeEntry, Names, Substitution}
use Rattle.scheme_terms.specs.SchemeScope.{IsScheme, entry_variables, StandsWith, KnownsFit, NamesDiffer}
use Rattle.scheme_terms.specs.declared.scheme.MetaDecl.{MetaDecl}
use Rattle.rule_schemes.specs.Rules.{JudgmentScheme, Theory, IsJudgmentScheme, MayStand, ENTRIES}
use Rattle.rule_schemes.specs.Statement.{Theorem, IsOfInputs}
use Rattle.proof_trees.specs.Steps.{CallArgument, step_argument, scheme_argument, Subject, Simple, by_rule, by_call, by_name, by_weakening, by_exchange, by_substitution, unproved, SplitHead, CaseHead}
use Rattle.proof_trees.specs.Tree.{Item, single, block, Items, no_items, item, Cases, no_cases, one_case, Proof, numbers_of}
use Rattle.case_split.specs.declared.choice.Place.{Place}
use Rattle.case_split.specs.declared.choice.Place.TheVariants.{Plain, Known, Explicit}
use Rattle.induction_order.specs.declared.relation.Rel.{Rel}
use Rattle.induction_order.specs.declared.relation.Rel.TheVariants.{Unknown}
use Rattle.induction_order.specs.Order.{IsSmaller, IsTermRelation}
use Rattle.theorem_calls.specs.Call.{with_fresh}
use Rattle.theorem_calls.specs.Raised.{Argument, tree_of, term_of}
use Rattle.proof_trees.specs.RuleStep.{IsByRule}
use Rattle.proof_trees.specs.ContextSteps.{IsWeakened, IsExchanged, IsSubstituted}
use Rattle.proof_trees.specs.Calls.{IsCall}
use Rattle.proof_trees.specs.Choices.{SubjectForm, on_judgment, on_scheme, AreDifferentChoices, IsCovered}
use Rattle.proof_trees.specs.WrittenCases.{IsWrittenCase}
use Rattle.proof_trees.specs.Here.{Here, held_at, after_item, after_items, around_cases, after_case, entering, IsAnalysed, beginning}
use Rattle.proof_trees.specs.Goals.{no_step, last_after, EndsWithGoal}

-- a form over a scope and with its root, with no more explicit entries than the limit
pub record IsForm (th : Theory) (scope : Names) (form : JudgmentScheme) : Type 0 where
  pub in_scope : IsJudgmentScheme th scope form
  pub root : StandsWith scope.root form.context.root
  pub entries : length form.context.entries ≤ ENTRIES

-- a form of a step or a case: one of the scope, that may stand under its root
pub record IsStepForm (th : Theory) (scope : Names) (form : JudgmentScheme) : Type 0 where
  pub form_is : IsForm th scope form
  pub may_stand : MayStand th scope.root form.context.root form.judgment

-- a scope of names over the root: the names differ, and the entries of known variables are such
pub record IsScope (th : Theory) (outer scope : Names) : Type 0 where
  pub root : scope.root ≡ outer.root
  pub differ : NamesDiffer scope
  pub knowns : KnownsFit th.sig scope

-- the cited steps are in scope, and these are their judgments, in order
abbrev pub IsCited : Here → ℕ → JudgmentScheme → Type 0
IsCited here n j = option_map (λ h. h.judgment) (held_at here n) ≡ Some j

-- the judgments of the cited steps, in order
abbrev pub AreCited : Here → List ℕ → List JudgmentScheme → Type 0
AreCited here on cited = AllZip (IsCited here) on cited

-- what is handed to a call
abbrev pub IsHanded : Here → CallArgument → Argument → Type 0
IsHanded here (step_argument n) (tree_of j) = IsCited here n j
IsHanded here (scheme_argument s) (term_of t) = s ≡ t
IsHanded here _ _ = ⊥

-- the mark of an argument against the target at a place
abbrev pub HasRelation : Here → (place : ℕ) → CallArgument → Rel → Type 0
HasRelation here place (step_argument n) mark =
    MatchOption (held_at here n) ⊥ (λ h. slice_get h.relations place ≡ Some mark)
HasRelation here place (scheme_argument s) mark =
    MatchOption (slice_get here.targets place) ⊥ (λ target. MatchOption target (mark ≡ Unknown) (λ v. IsTermRelation s v mark))

-- the marks of the arguments at the callee's targets, in order, where the first target has this place
abbrev pub HaveRelations : Here → List CallArgument → (place : ℕ) → (targets : List ℕ) → List Rel → Type 0
HaveRelations here args place [] [] = Unit {0}
HaveRelations here args place (t ∷ ts) (mark ∷ marks) =
    MatchOption (slice_get args t) ⊥ (λ arg. HasRelation here place arg mark) × HaveRelations here args (suc place) ts marks
HaveRelations here args place _ _ = ⊥

-- within a group: the arguments at the callee's targets are smaller, or equal with the callee earlier
pub record IsWithinGroup (here : Here) (caller callee : ℕ) (target : Theorem) (args : List CallArgument) : Type 0 where
  pub marks : List Rel
  pub have : HaveRelations here args 0 target.targets marks
  pub smaller : IsSmaller marks (nat_lt callee caller)

-- a call goes to an earlier group, or is smaller within its own
abbrev pub IsOrdered : List Theorem → Here → (caller callee : ℕ) → List CallArgument → Type 0
IsOrdered sts here k n args =
    MatchOption (slice_get sts k) ⊥ (λ own. MatchOption (slice_get sts n) ⊥ (λ target.
    (target.group < own.group) ⊎ ((target.group ≡ own.group) × IsWithinGroup here k n target args)))

-- the variables of the entries of the first of these forms
abbrev pub variables_of_first : Theory → List JudgmentScheme → List ℕ
variables_of_first th [] = []
variables_of_first th (j ∷ js) = entry_variables th.sig [] j.context.entries

-- a scheme that is handed in is one under the entries of the call's first form
abbrev pub IsHandedScheme : Theory → Names → List JudgmentScheme → CallArgument → Type 0
IsHandedScheme th scope forms (step_argument n) = Unit {0}
IsHandedScheme th scope forms (scheme_argument s) = (cat : ℕ) × IsScheme th.sig scope (variables_of_first th forms) cat s

-- arguments and results are an instance of a theorem's statement
pub record IsByCall (th : Theory) (sts : List Theorem) (here : Here) (forms : List JudgmentScheme) (callee : ℕ) (args : List CallArgument) (fresh : List MetaDecl) : Type 0 where
  pub target : Theorem
  pub there : slice_get sts callee ≡ Some target
  pub handed : List Argument
  pub are_handed : AllZip (IsHanded here) args handed
  pub first : List SchemeEntry
  pub is_call : IsCall th here.scope fresh target handed forms first

-- the forms of a step
abbrev pub AreStepForms : Theory → Names → List JudgmentScheme → Type 0
AreStepForms th scope forms = AllByRecursion (IsStepForm th scope) forms

-- A right step, by its justification.
pub data IsRightStep (th : Theory) (sts : List Theorem) (k : ℕ) (here : Here) : Simple → Type 0 where
  right_by_rule : {line r : ℕ} {form : JudgmentScheme} {on : List ℕ} (cited : List JudgmentScheme) →
      IsStepForm th here.scope form → AreCited here on cited → IsByRule th here.scope form cited r →
      IsRightStep th sts k here (by_rule line form r on)
  right_by_call : {line callee : ℕ} {forms : List JudgmentScheme} {args : List CallArgument} {fresh : List MetaDecl} →
      NamesDiffer (with_fresh here.scope fresh) → AreStepForms th (with_fresh here.scope fresh) forms →
      AllByRecursion (IsHandedScheme th here.scope forms) args → IsByCall th sts here forms callee args fresh → IsOrdered sts here k callee args →
      IsRightStep th sts k here (by_call line forms callee args fresh)
  right_by_name : {line : ℕ} {forms : List JudgmentScheme} {of : List ℕ} →
      AreStepForms th here.scope forms → AreCited here of forms → IsRightStep th sts k here (by_name line forms of)
  right_by_weakening : {line of : ℕ} {form : JudgmentScheme} (from : JudgmentScheme) →
      IsStepForm th here.scope form → IsCited here of from → IsWeakened from form → IsRightStep th sts k here (by_weakening line form of)
  right_by_exchange : {line of : ℕ} {form : JudgmentScheme} (from : JudgmentScheme) →
      IsStepForm th here.scope form → IsCited here of from → IsExchanged from form → IsRightStep th sts k here (by_exchange line form of)
  right_by_substitution : {line of by : ℕ} {form : JudgmentScheme} (from by_form : JudgmentScheme) →
      IsStepForm th here.scope form → IsCited here of from → IsCited here by by_form → IsSubstituted th here.scope from by_form form →
      IsRightStep th sts k here (by_substitution line form of by)
  right_unproved : {line : ℕ} {forms : List JudgmentScheme} → AreStepForms th here.scope forms → IsRightStep th sts k here (unproved line forms)

-- the scheme that a block analyses is one of its category under the entries of the goal's first form
abbrev pub IsSubjectInScope : Theory → Names → SubjectForm → Type 0
IsSubjectInScope th scope (on_judgment j) = Unit {0}
IsSubjectInScope th scope (on_scheme ctx s cat) = IsScheme th.sig scope (entry_variables th.sig [] ctx.entries) cat s

-- the numbers of a choice are in range: a rule's or a production's, and an explicit entry's
abbrev pub IsPlaceIn : (entries : ℕ) → Place → Type 0
IsPlaceIn n Plain = Unit {0}
IsPlaceIn n Known = Unit {0}
IsPlaceIn n (Explicit i) = i < n

-- the numbers of a choice that a block names
abbrev pub IsNumberOf : Theory → SubjectForm → ℕ × Place → Type 0
IsNumberOf th (on_judgment j) choice = (choice.0 < length th.rules) × IsPlaceIn (length j.context.entries) choice.1
IsNumberOf th (on_scheme ctx s cat) choice = (choice.0 < length th.sig.prods) × IsPlaceIn (length ctx.entries) choice.1

-- the beginning of a block: what it analyses is in scope, and each possible choice is named; that none has two cases is said of the cases
pub record IsRightHead (th : Theory) (around : Here) (head : SplitHead) (subject : SubjectForm) : Type 0 where
  pub forms : AreStepForms th around.scope head.forms
  pub subject_is : IsAnalysed around head.subject subject
  pub in_scope : IsSubjectInScope th around.scope subject
  pub numbers : AllByRecursion (IsNumberOf th subject) head.named
  pub covered : IsCovered th around.scope subject head.named

-- a case's term is a scheme of its scope
abbrev pub IsCaseTerm : Theory → Names → SubjectForm → Option SchemeTree → Type 0
IsCaseTerm th scope (on_judgment j) term = term ≡ None
IsCaseTerm th scope (on_scheme ctx s cat) term = MatchOption term ⊥ (λ t. IsScheme th.sig scope (entry_variables th.sig [] ctx.entries) cat t)

-- the head of a case: its forms are over its scope, and it is a most general one of its choice
pub record IsRightCaseHead (th : Theory) (around : Here) (subject : SubjectForm) (head : CaseHead) (refine : Substitution) : Type 0 where
  pub scope : IsScope th around.scope head.scope
  pub premises : AreStepForms th head.scope head.premises
  pub conclusion : MatchOption head.conclusion (Unit {0}) (IsStepForm th head.scope)
  pub term : IsCaseTerm th head.scope subject head.term
  pub is_case : IsWrittenCase th around.scope subject head refine

-- the last steps have the goal, where these are all steps of a proof or a case
abbrev pub EndsRight : Theory → Here → Items → Type 0
EndsRight th here body = EndsWithGoal th (after_items here body) (last_after no_step body)

-- Right steps in order: by what is in scope before each, down the tree. Each case of a block is right, and its last step has its goal.
abbrev mutual
  pub IsRightItem : Theory → List Theorem → (theorem : ℕ) → Here → Item → Type 0
  IsRightItem th sts k here (single s) = IsRightStep th sts k here s
  IsRightItem th sts k here (block head cases end) =
      (subject : SubjectForm) × IsRightHead th (around_cases here head) head subject × AreDifferentChoices head.named
      × AreRightCases th sts k (around_cases here head) head.subject subject head.named cases

  pub AreRight : Theory → List Theorem → (theorem : ℕ) → Here → Items → Type 0
  AreRight th sts k here no_items = Unit {0}
  AreRight th sts k here (item i rest) = IsRightItem th sts k here i × AreRight th sts k (after_item here i) rest

  pub AreRightCases : Theory → List Theorem → (theorem : ℕ) → Here → Subject → SubjectForm → (named : List (ℕ × Place)) → Cases → Type 0
  AreRightCases th sts k around s subject [] no_cases = Unit {0}
  AreRightCases th sts k around s subject (choice ∷ named) no_cases = ⊥
  AreRightCases th sts k around s subject [] (one_case head body end rest) = ⊥
  AreRightCases th sts k around s subject (choice ∷ named) (one_case head body end rest) =
      ((head.number, head.place) ≡ choice)
      × ((refine : Substitution) × IsRightCaseHead th around subject head refine × AreRight th sts k (entering around s head refine) body
      × EndsRight th (entering around s head refine) body)
      × AreRightCases th sts k (after_case around (length head.premises + numbers_of body)) s subject named rest

-- The scope in which a proof begins: its statement's without the further metavariables of the conclusions, which stand last there.
pub record IsProofScope (st : Theorem) (scope : Names) : Type 0 where
  pub root : scope.root ≡ st.scope.root
  pub knowns : scope.knowns ≡ []
  pub goal_names : List MetaDecl
  pub split : st.scope.metas ≡ scope.metas ++ goal_names
  pub of_inputs : AllNumbered (λ m decl. IsOfInputs st m) 0 scope.metas
  pub further : AllNumbered (λ m decl. IsOfInputs st m → ⊥) (length scope.metas) goal_names

-- a right proof of the theorem with this number
pub record IsRightProof (th : Theory) (sts : List Theorem) (k : ℕ) (proof : Proof) : Type 0 where
  pub statement : Theorem
  pub there : slice_get sts k ≡ Some statement
  pub scope : Names
  pub is_scope : IsProofScope statement scope
  pub right : AreRight th sts k (beginning statement scope is_scope.goal_names) proof.body
  pub ends : EndsRight th (beginning statement scope is_scope.goal_names) proof.body

-- right proofs of theorems in order, where the first has this number
abbrev pub AreRightProofs : Theory → List Theorem → (first : ℕ) → List Proof → Type 0
AreRightProofs th sts k [] = Unit {0}
AreRightProofs th sts k (proof ∷ proofs) = IsRightProof th sts k proof × AreRightProofs th sts (suc k) proofs
