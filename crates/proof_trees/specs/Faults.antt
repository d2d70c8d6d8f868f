-- With which line, code and detail a step is refused. To be held against docs/faults.md.
use Rattle.std.specs.Prelude.{◌≡◌, ◌≢◌, ◌<◌, ◌≤◌, ◌⊎◌, ℕ, List, [], ◌∷◌, ◌++◌, length, Option, Some, None, slice_get, option_map, unwrap_or, option_to_list, decimal, MatchOption}
use Rattle.std.specs.List.{AllByRecursion, AllZip}
use Rattle.binding_terms.specs.Numbered.{AnyByRecursion}
use Rattle.scheme_terms.specs.SchemeTree.{SchemeTree}
use Rattle.scheme_terms.specs.Forms.{SchemeEntry, Names, Substitution}
use Rattle.scheme_terms.specs.SchemeScope.{NamesDiffer}
use Rattle.scheme_terms.specs.declared.scheme.MetaDecl.{MetaDecl}
use Rattle.scheme_terms.specs.declared.scheme.Root.TheVariants.{Closed}
use Rattle.rule_schemes.specs.Rules.{JudgmentScheme, Rule, Theory, MayStand}
use Rattle.rule_schemes.specs.Statement.{Theorem}
use Rattle.sy_base.specs.declared.fault.Code.{Code}
use Rattle.sy_base.specs.declared.fault.Code.TheVariants.{NameTaken, BadConclusion, NeedsContext, NoTheorem, WrongCount, RootMismatch, ArgMismatch, ResultMismatch, NotInstance, BadStep, NoContext, NotLast, NoAssumptionRule, NotTheAssumption, Depends, NotSmaller, Outside, MissingCase, DuplicateCase, ImpossibleCase, NotMostGeneral, NotTheGoal}
use Rattle.sy_base.specs.declared.fault.Fault.{Fault}
use Rattle.proof_trees.specs.Steps.{CallArgument, Simple, by_rule, by_call, by_name, by_weakening, by_exchange, by_substitution, unproved, SplitHead, CaseHead, Step, begin_theorem, end_theorem, simple, begin_split, begin_case, end_case, end_split}
use Rattle.proof_trees.specs.Tree.{forms_of}
use Rattle.proof_trees.specs.RuleStep.{IsByRule}
use Rattle.proof_trees.specs.ContextSteps.{IsWeakened, IsExchanged, IsSubstituted, IsAssumptionOfLast, LastMentions, HasNoAssumptionRule}
use Rattle.case_split.specs.declared.choice.Place.{Place}
use Rattle.pattern_unify.specs.Equations.{SchemeEquation}
use Rattle.theorem_calls.specs.Call.{with_fresh}
use Rattle.theorem_calls.specs.Raised.{Argument}
use Rattle.theorem_calls.specs.Answers as call_answers
use Rattle.theorem_calls.specs.Answers.{IsCallAnswer}
use Rattle.proof_trees.specs.Calls.{IsCall}
use Rattle.proof_trees.specs.Choices.{SubjectForm, on_judgment, on_scheme, ChoiceOf, IsChoiceFor, IsPossibleChoice, IsStuckChoice, StandsBefore}
use Rattle.proof_trees.specs.WrittenCases.{IsWrittenCase, IsFirstTakenBy}
use Rattle.proof_trees.specs.Here.{Here, held_at, scope_with, around_cases, IsAnalysed}
use Rattle.proof_trees.specs.Goals.{Last, EndsWithGoal}
use Rattle.proof_trees.specs.Right.{IsForm, IsScope, IsCited, AreCited, IsHanded, IsHandedScheme, IsOrdered, IsSubjectInScope, IsNumberOf, IsCaseTerm}
use Rattle.proof_trees.specs.Standings.{Standing, outside, within, between, Opened, Leads}

-- What is not yet said exactly: texts.
pub record Judges : Type 1 where
  -- the stuck system of a choice printed after the name of its rule or production
  pub is_system_text : Theory → Names → SubjectForm → (number : ℕ) → Place → (left : List SchemeEquation) → List ℕ → Type 0
  -- the name of a choice's rule, or the first item of its production or variable
  pub is_choice_name : Theory → SubjectForm → (number : ℕ) → Place → List ℕ → Type 0

-- the name of a rule, a judgment and a theorem by its number, where there is one
abbrev pub rule_name : Theory → ℕ → List ℕ
rule_name th r = unwrap_or (option_map (λ rule. rule.name) (slice_get th.rules r)) []

-- the name of a judgment
abbrev pub judgment_name : Theory → ℕ → List ℕ
judgment_name th j = unwrap_or (option_map (λ form. form.name) (slice_get th.judgments j)) []

-- the name of a theorem
abbrev pub theorem_name : List Theorem → ℕ → List ℕ
theorem_name sts k = unwrap_or (option_map (λ st. st.name) (slice_get sts k)) []

-- the numbers that a step cites are in scope
abbrev pub IsInScope : Here → ℕ → Type 0
IsInScope here n = MatchOption (held_at here n) ⊥ (λ h. Unit {0})

-- what a call is handed is in scope
abbrev pub IsArgumentInScope : Here → CallArgument → Type 0
IsArgumentInScope here arg = (form : Argument) × IsHanded here arg form

-- a step can stand among the steps of a proof: its forms are over the scope, what it cites is in scope, and its numbers are in range
abbrev pub HaveForms : Theory → Here → Simple → Type 0
HaveForms th here s = AllByRecursion (IsForm th (scope_with here.scope s)) (forms_of s)

-- what a step cites is in scope, and its numbers are in range
abbrev pub CitesHeld : Theory → List Theorem → Here → Simple → Type 0
CitesHeld th sts here (by_rule line form r on) = AllByRecursion (IsInScope here) on × MatchOption (slice_get th.rules r) ⊥ (λ rule. Unit {0})
CitesHeld th sts here (by_call line forms callee args fresh) =
    AllByRecursion (IsArgumentInScope here) args × AllByRecursion (IsHandedScheme th here.scope forms) args
    × NamesDiffer (with_fresh here.scope fresh) × MatchOption (slice_get sts callee) ⊥ (λ st. Unit {0})
CitesHeld th sts here (by_name line forms of) = AllByRecursion (IsInScope here) of
CitesHeld th sts here (by_weakening line form of) = IsInScope here of
CitesHeld th sts here (by_exchange line form of) = IsInScope here of
CitesHeld th sts here (by_substitution line form of by) = IsInScope here of × IsInScope here by
CitesHeld th sts here (unproved line forms) = Unit {0}

-- a step that opens no block can stand
abbrev pub CanStandSimple : Theory → List Theorem → Here → Simple → Type 0
CanStandSimple th sts here s = HaveForms th here s × CitesHeld th sts here s

-- the beginning of a block can stand: what it analyses is in scope, and the numbers of the cases that it names are in range
pub record CanSplit (th : Theory) (around : Here) (head : SplitHead) (subject : SubjectForm) : Type 0 where
  pub forms : AllByRecursion (IsForm th around.scope) head.forms
  pub subject_is : IsAnalysed around head.subject subject
  pub in_scope : IsSubjectInScope th around.scope subject
  pub numbers : AllByRecursion (IsNumberOf th subject) head.named

-- a case of a judgment has a conclusion, and one of a term has none
abbrev pub IsCaseConclusion : Theory → Names → SubjectForm → Option JudgmentScheme → Type 0
IsCaseConclusion th scope (on_judgment j) conclusion = MatchOption conclusion ⊥ (IsForm th scope)
IsCaseConclusion th scope (on_scheme ctx s cat) conclusion = conclusion ≡ None

-- a case can stand: it is the next one that its block names, over a scope of its own, with a conclusion or a term as its block asks
pub record CanEnter (th : Theory) (o : Opened) (head : CaseHead) : Type 0 where
  pub due : List (ℕ × Place)
  pub next : o.due ≡ (head.number, head.place) ∷ due
  pub scope : IsScope th o.around.scope head.scope
  pub premises : AllByRecursion (IsForm th head.scope) head.premises
  pub conclusion : IsCaseConclusion th head.scope o.subject head.conclusion
  pub term : IsCaseTerm th head.scope o.subject head.term

-- the step can stand where the steps before it stand; the end of a proof or of a case always can among its steps
abbrev pub CanStand : Theory → List Theorem → Standing → Step → Type 0
CanStand th sts (outside k) (begin_theorem n) = (n ≡ k) × MatchOption (slice_get sts k) ⊥ (λ st. Unit {0})
CanStand th sts (within k here last []) (end_theorem line) = Unit {0}
CanStand th sts (within k here last (o ∷ blocks)) (end_case line) = Unit {0}
CanStand th sts (within k here last blocks) (simple s) = CanStandSimple th sts here s
CanStand th sts (within k here last blocks) (begin_split head) = (subject : SubjectForm) × CanSplit th (around_cases here head) head subject
CanStand th sts (between k o blocks) (begin_case head) = CanEnter th o head
CanStand th sts (between k o blocks) (end_split line) = o.due ≡ []
CanStand th sts _ _ = ⊥

-- the first form that may not stand under the root tells its judgment
abbrev pub FirstNeedsContext : Theory → Names → List JudgmentScheme → (detail : List ℕ) → Type 0
FirstNeedsContext th scope [] detail = ⊥
FirstNeedsContext th scope (j ∷ js) detail =
    ((MayStand th scope.root j.context.root j.judgment → ⊥) × (detail ≡ judgment_name th j.judgment))
    ⊎ (MayStand th scope.root j.context.root j.judgment × FirstNeedsContext th scope js detail)

-- A code applies to a step that is justified by itself, with a detail, in the order of the codes; the earlier codes are left to `IsFirstCode`.
pub data AppliesToSimple (is : Judges) (th : Theory) (sts : List Theorem) (k : ℕ) (here : Here) : Simple → Code → (detail : List ℕ) → Type 0 where
  needs_context : {s : Simple} {detail : List ℕ} → FirstNeedsContext th here.scope (forms_of s) detail →
      AppliesToSimple is th sts k here s NeedsContext detail
  no_theorem : {line callee : ℕ} {forms : List JudgmentScheme} {args : List CallArgument} {fresh : List MetaDecl} (own target : Theorem) →
      slice_get sts k ≡ Some own → slice_get sts callee ≡ Some target → own.group < target.group →
      AppliesToSimple is th sts k here (by_call line forms callee args fresh) NoTheorem (theorem_name sts callee)
  rule_count : {line r : ℕ} {form : JudgmentScheme} {on : List ℕ} (rule : Rule) → slice_get th.rules r ≡ Some rule → length on ≢ length rule.premises →
      AppliesToSimple is th sts k here (by_rule line form r on) WrongCount (decimal (length rule.premises))
  call_count : {line callee : ℕ} {forms : List JudgmentScheme} {args : List CallArgument} {fresh : List MetaDecl} (target : Theorem) →
      slice_get sts callee ≡ Some target → length args ≢ length target.inputs →
      AppliesToSimple is th sts k here (by_call line forms callee args fresh) WrongCount (decimal (length target.inputs))
  result_count : {line callee : ℕ} {forms : List JudgmentScheme} {args : List CallArgument} {fresh : List MetaDecl} (target : Theorem) →
      slice_get sts callee ≡ Some target → length args ≡ length target.inputs → length forms ≢ length target.outputs →
      AppliesToSimple is th sts k here (by_call line forms callee args fresh) WrongCount (decimal (length target.outputs))
  name_count : {line : ℕ} {forms : List JudgmentScheme} {of : List ℕ} → length forms ≢ length of →
      AppliesToSimple is th sts k here (by_name line forms of) WrongCount (decimal (length of))
  root_mismatch : {line callee : ℕ} {forms : List JudgmentScheme} {args : List CallArgument} {fresh : List MetaDecl} (target : Theorem) (handed : List Argument) →
      slice_get sts callee ≡ Some target → AllZip (IsHanded here) args handed → IsCallAnswer th here.scope fresh target handed forms call_answers.root_mismatch →
      AppliesToSimple is th sts k here (by_call line forms callee args fresh) RootMismatch target.name
  arg_mismatch : {line callee : ℕ} {forms : List JudgmentScheme} {args : List CallArgument} {fresh : List MetaDecl} (target : Theorem) (handed : List Argument) (n : ℕ) →
      slice_get sts callee ≡ Some target → AllZip (IsHanded here) args handed → IsCallAnswer th here.scope fresh target handed forms (call_answers.arg_mismatch n) →
      AppliesToSimple is th sts k here (by_call line forms callee args fresh) ArgMismatch (decimal n)
  call_result : {line callee : ℕ} {forms : List JudgmentScheme} {args : List CallArgument} {fresh : List MetaDecl} (target : Theorem) (handed : List Argument) →
      slice_get sts callee ≡ Some target → AllZip (IsHanded here) args handed →
      ((first : List SchemeEntry) → IsCall th here.scope fresh target handed forms first → ⊥) →
      AppliesToSimple is th sts k here (by_call line forms callee args fresh) ResultMismatch []
  name_result : {line : ℕ} {forms : List JudgmentScheme} {of : List ℕ} → (AreCited here of forms → ⊥) →
      AppliesToSimple is th sts k here (by_name line forms of) ResultMismatch []
  weakening_result : {line of : ℕ} {form : JudgmentScheme} (from : JudgmentScheme) → IsCited here of from → (IsWeakened from form → ⊥) → from.context.root ≢ Closed →
      AppliesToSimple is th sts k here (by_weakening line form of) ResultMismatch []
  exchange_result : {line of : ℕ} {form : JudgmentScheme} (from : JudgmentScheme) → IsCited here of from → (IsExchanged from form → ⊥) →
      2 ≤ length from.context.entries → (LastMentions from.context.entries → ⊥) →
      AppliesToSimple is th sts k here (by_exchange line form of) ResultMismatch []
  substitution_result : {line of by : ℕ} {form : JudgmentScheme} (from by_form given : JudgmentScheme) → IsCited here of from → IsCited here by by_form →
      IsSubstituted th here.scope from by_form given → (IsSubstituted th here.scope from by_form form → ⊥) →
      AppliesToSimple is th sts k here (by_substitution line form of by) ResultMismatch []
  not_instance : {line r : ℕ} {form : JudgmentScheme} {on : List ℕ} (cited : List JudgmentScheme) → AreCited here on cited →
      (IsByRule th here.scope form cited r → ⊥) → AppliesToSimple is th sts k here (by_rule line form r on) NotInstance (rule_name th r)
  no_context : {line of : ℕ} {form : JudgmentScheme} (from : JudgmentScheme) → IsCited here of from → from.context.root ≡ Closed →
      AppliesToSimple is th sts k here (by_weakening line form of) NoContext []
  not_last_two : {line of : ℕ} {form : JudgmentScheme} (from : JudgmentScheme) → IsCited here of from → length from.context.entries < 2 →
      AppliesToSimple is th sts k here (by_exchange line form of) NotLast []
  not_last : {line of by : ℕ} {form : JudgmentScheme} (from : JudgmentScheme) → IsCited here of from → from.context.entries ≡ [] →
      AppliesToSimple is th sts k here (by_substitution line form of by) NotLast []
  no_assumption_rule : {line of by : ℕ} {form : JudgmentScheme} (from : JudgmentScheme) (front : List SchemeEntry) (entry : SchemeEntry) →
      IsCited here of from → from.context.entries ≡ front ++ (entry ∷ []) → HasNoAssumptionRule th entry.prod →
      AppliesToSimple is th sts k here (by_substitution line form of by) NoAssumptionRule []
  not_the_assumption : {line of by : ℕ} {form : JudgmentScheme} (from by_form : JudgmentScheme) (front : List SchemeEntry) (entry : SchemeEntry) →
      IsCited here of from → IsCited here by by_form → from.context.entries ≡ front ++ (entry ∷ []) →
      ((term : SchemeTree) → IsAssumptionOfLast th here.scope front entry from.context.root by_form term → ⊥) →
      AppliesToSimple is th sts k here (by_substitution line form of by) NotTheAssumption []
  depends : {line of : ℕ} {form : JudgmentScheme} (from : JudgmentScheme) → IsCited here of from → LastMentions from.context.entries →
      AppliesToSimple is th sts k here (by_exchange line form of) Depends (decimal (length from.context.entries))
  not_smaller : {line callee : ℕ} {forms : List JudgmentScheme} {args : List CallArgument} {fresh : List MetaDecl} (own target : Theorem) →
      slice_get sts k ≡ Some own → slice_get sts callee ≡ Some target → own.group ≡ target.group → (IsOrdered sts here k callee args → ⊥) →
      AppliesToSimple is th sts k here (by_call line forms callee args fresh) NotSmaller target.name

-- a choice for what a block analyses is possible and has no written case
abbrev pub IsMissing : Theory → Names → SubjectForm → (named : List (ℕ × Place)) → ℕ × Place → Type 0
IsMissing th scope subject named choice =
    ((one : ChoiceOf subject) × IsChoiceFor th scope subject choice.0 choice.1 one × IsPossibleChoice th.sig subject one)
    × (AnyByRecursion (λ c. c ≡ choice) named → ⊥)

-- a choice whose written run ends stuck, or that is missing
abbrev pub IsBadChoice : Theory → Names → SubjectForm → (named : List (ℕ × Place)) → ℕ × Place → Type 0
IsBadChoice th scope subject named choice =
    ((left : List SchemeEquation) × IsStuckChoice th scope subject choice.0 choice.1 left) ⊎ IsMissing th scope subject named choice

-- no choice before this one is bad
abbrev pub IsFirstBad : Theory → Names → SubjectForm → (named : List (ℕ × Place)) → ℕ × Place → Type 0
IsFirstBad th scope subject named choice =
    (other : ℕ × Place) → StandsBefore th scope subject other choice → IsBadChoice th scope subject named other → ⊥

-- the codes of the beginning of a block
pub data AppliesToSplit (is : Judges) (th : Theory) (around : Here) (head : SplitHead) (subject : SubjectForm) : Code → (detail : List ℕ) → Type 0 where
  split_needs_context : {detail : List ℕ} → FirstNeedsContext th around.scope head.forms detail → AppliesToSplit is th around head subject NeedsContext detail
  outside_fragment : (n : ℕ) (place : Place) (left : List SchemeEquation) {detail : List ℕ} → IsStuckChoice th around.scope subject n place left →
      IsFirstBad th around.scope subject head.named (n, place) → is.is_system_text th around.scope subject n place left detail → AppliesToSplit is th around head subject Outside detail
  missing_case : (n : ℕ) (place : Place) {detail : List ℕ} → IsMissing th around.scope subject head.named (n, place) →
      IsFirstBad th around.scope subject head.named (n, place) → is.is_choice_name th subject n place detail →
      AppliesToSplit is th around head subject MissingCase detail

-- the judgment of a written conclusion is not the block's
abbrev pub IsOfAnotherJudgment : SubjectForm → Option JudgmentScheme → Type 0
IsOfAnotherJudgment (on_judgment j) (Some form) = form.judgment ≢ j.judgment
IsOfAnotherJudgment _ _ = ⊥

-- the codes of the head of a case
pub data AppliesToCase (is : Judges) (th : Theory) (o : Opened) (head : CaseHead) : Code → (detail : List ℕ) → Type 0 where
  name_taken : (choice : ChoiceOf o.subject) (m : ℕ) (decl : MetaDecl) → IsChoiceFor th o.around.scope o.subject head.number head.place choice →
      IsPossibleChoice th.sig o.subject choice → IsFirstTakenBy th.sig o.around.scope o.subject choice head m →
      slice_get o.around.scope.metas m ≡ Some decl → AppliesToCase is th o head NameTaken decl.name
  bad_conclusion : {detail : List ℕ} → IsOfAnotherJudgment o.subject head.conclusion → is.is_choice_name th o.subject head.number head.place detail →
      AppliesToCase is th o head BadConclusion detail
  head_needs_context : {detail : List ℕ} → FirstNeedsContext th head.scope (head.premises ++ option_to_list head.conclusion) detail → AppliesToCase is th o head NeedsContext detail
  duplicate_case : {detail : List ℕ} → AnyByRecursion (λ c. c ≡ (head.number, head.place)) o.had →
      is.is_choice_name th o.subject head.number head.place detail → AppliesToCase is th o head DuplicateCase detail
  impossible_case : (choice : ChoiceOf o.subject) {detail : List ℕ} → IsChoiceFor th o.around.scope o.subject head.number head.place choice →
      (IsPossibleChoice th.sig o.subject choice → ⊥) → is.is_choice_name th o.subject head.number head.place detail → AppliesToCase is th o head ImpossibleCase detail
  not_most_general : {detail : List ℕ} → ((refine : Substitution) → IsWrittenCase th o.around.scope o.subject head refine → ⊥) →
      is.is_choice_name th o.subject head.number head.place detail → AppliesToCase is th o head NotMostGeneral detail

-- a code applies to a step that can stand where the steps before it stand, and BadStep to one that cannot
pub data Applies (is : Judges) (th : Theory) (sts : List Theorem) : Standing → Step → Code → (detail : List ℕ) → Type 0 where
  cannot_stand : {at : Standing} {step : Step} → (CanStand th sts at step → ⊥) → Applies is th sts at step BadStep []
  to_simple : {k : ℕ} {here : Here} {last : Last} {blocks : List Opened} {s : Simple} {code : Code} {detail : List ℕ} →
      AppliesToSimple is th sts k here s code detail → Applies is th sts (within k here last blocks) (simple s) code detail
  to_split : {k : ℕ} {here : Here} {last : Last} {blocks : List Opened} {head : SplitHead} {code : Code} {detail : List ℕ} (subject : SubjectForm) →
      IsAnalysed (around_cases here head) head.subject subject → AppliesToSplit is th (around_cases here head) head subject code detail →
      Applies is th sts (within k here last blocks) (begin_split head) code detail
  to_case : {k : ℕ} {o : Opened} {blocks : List Opened} {head : CaseHead} {code : Code} {detail : List ℕ} →
      AppliesToCase is th o head code detail → Applies is th sts (between k o blocks) (begin_case head) code detail
  lacks_goal : {k line : ℕ} {here : Here} {last : Last} → (EndsWithGoal th here last → ⊥) →
      Applies is th sts (within k here last []) (end_theorem line) NotTheGoal []
  lacks_case_goal : {k line : ℕ} {here : Here} {last : Last} {o : Opened} {blocks : List Opened} → (EndsWithGoal th here last → ⊥) →
      Applies is th sts (within k here last (o ∷ blocks)) (end_case line) NotTheGoal []

-- the order of the codes that a step can have: the one of a step that cannot stand comes before any other
abbrev pub place_of_code : Code → ℕ
place_of_code BadStep = 0
place_of_code NameTaken = 1
place_of_code BadConclusion = 2
place_of_code NeedsContext = 3
place_of_code NoTheorem = 4
place_of_code WrongCount = 5
place_of_code RootMismatch = 6
place_of_code ArgMismatch = 7
place_of_code ResultMismatch = 8
place_of_code NotInstance = 9
place_of_code NoContext = 10
place_of_code NotLast = 11
place_of_code NoAssumptionRule = 12
place_of_code NotTheAssumption = 13
place_of_code Depends = 14
place_of_code NotSmaller = 15
place_of_code Outside = 16
place_of_code MissingCase = 17
place_of_code DuplicateCase = 18
place_of_code ImpossibleCase = 19
place_of_code NotMostGeneral = 20
place_of_code _ = 21

-- the first code that applies to a step where the steps before it stand, with its detail
pub record IsFirstCode (is : Judges) (th : Theory) (sts : List Theorem) (at : Standing) (step : Step) (code : Code) (detail : List ℕ) : Type 0 where
  pub applies : Applies is th sts at step code detail
  pub none_before : (other : Code) (told : List ℕ) → place_of_code other < place_of_code code → Applies is th sts at step other told → ⊥

-- the line of a step, 0 for the beginning of a theorem
abbrev pub line_of_simple : Simple → ℕ
line_of_simple (by_rule line form r on) = line
line_of_simple (by_call line forms callee args fresh) = line
line_of_simple (by_name line forms of) = line
line_of_simple (by_weakening line form of) = line
line_of_simple (by_exchange line form of) = line
line_of_simple (by_substitution line form of by) = line
line_of_simple (unproved line forms) = line

-- the line of a step
abbrev pub line_of : Step → ℕ
line_of (begin_theorem n) = 0
line_of (end_theorem line) = line
line_of (simple s) = line_of_simple s
line_of (begin_split head) = head.line
line_of (begin_case head) = head.line
line_of (end_case line) = line
line_of (end_split line) = line

-- The fault of a step that is refused after the steps that were kept: its line, the first code that applies where these stand, and the detail.
pub record IsFaultOf (is : Judges) (th : Theory) (sts : List Theorem) (kept : List Step) (step : Step) (fault : Fault) : Type 0 where
  pub at : Standing
  pub leads : Leads th sts (outside 0) kept at
  pub line : fault.line ≡ line_of step
  pub code : IsFirstCode is th sts at step fault.code fault.detail
