-- What right proofs keep: statements of laws, each to be the contract of a function with an empty body. To be held against docs/notation.md, 'Runs'.
use Rattle.std.specs.Prelude.{◌≡◌, ◌⊎◌, ◌↔◌, ℕ, Bool, IsTrue, List, ◌++◌, length, take, Option, Some, slice_get, MatchOption}
use Rattle.std.specs.List.{AllByRecursion, AllZip}
use Rattle.binding_terms.specs.Tree.{nodes}
use Rattle.scheme_terms.specs.SchemeTree.{SchemeTree}
use Rattle.scheme_terms.specs.Forms.{ContextValue, Instance, Names, SchemeEntry, Substitution}
use Rattle.scheme_terms.specs.declared.scheme.MetaDecl.{MetaDecl}
use Rattle.scheme_terms.specs.Instance.{instance_of, FitsScope}
use Rattle.scheme_terms.specs.SchemeScope.{IsSchemeContext, StandsWith, KnownsFit}
use Rattle.rule_schemes.specs.Rules.{JudgmentScheme, Theory, IsSystem, IsInstance}
use Rattle.theorem_calls.specs.Raised.{Argument}
use Rattle.proof_trees.specs.Calls.{IsCall}
use Rattle.rule_schemes.specs.Derivation.{Derivation, judgment, Derives, size}
use Rattle.rule_schemes.specs.Statement.{Theorem, InputTree, IsInstantiation, DeriveConclusions}
use Rattle.proof_trees.specs.Steps.{CallArgument, Simple, Subject, Step, SplitHead, CaseHead}
use Rattle.proof_trees.specs.Tree.{Items, Cases, one_case, Proof, forms_of, AreProved}
use Rattle.induction_order.specs.declared.relation.Rel.{Rel}
use Rattle.induction_order.specs.Order.{IsSmaller}
use Rattle.induction_order.specs.Sizes.{IsSized, AreSized}
use Rattle.proof_trees.specs.Choices.{SubjectForm, IsSubjectOf}
use Rattle.proof_trees.specs.WrittenCases.{IsWrittenCase}
use Rattle.proof_trees.specs.Here.{Here, Held, after_step, first_context}
use Rattle.proof_trees.specs.Right.{IsForm, IsHanded, IsOrdered, IsRightStep, IsRightHead, AreRightCases, AreRightProofs}
use Rattle.proof_trees.specs.Statements.{AreGrouped, CanBeOpened}
use Rattle.proof_trees.specs.Ranks.{Falls, sizes_at, rank_at, IsLower}
use Rattle.proof_trees.specs.Standings.{Standing, outside, GoesOn, Leads, AreWholeTrees, AreBegunTrees}
use Rattle.proof_trees.specs.Faults.{Judges, Applies}
use Rattle.sy_base.specs.declared.fault.Code.{Code}
use Rattle.sy_base.specs.declared.fault.Code.TheVariants.{Outside}
use Rattle.proof_trees.specs.Value.{HasValue, AreHandedTrees, all_made, MakesStep, Agrees, IsTaken}

-- the theory is a system, the statements can be opened, and these are right proofs of all of them, none with an unproved step
pub record AreProofsOf (th : Theory) (sts : List Theorem) (proofs : List Proof) : Type 0 where
  pub system : IsSystem th
  pub opened : CanBeOpened th sts
  pub counted : length proofs ≡ length sts
  pub right : AreRightProofs th sts 0 proofs
  pub proved : AllByRecursion (λ proof. AreProved proof.body) proofs

-- A theorem has a value on inputs that instantiate its statement.
abbrev pub ValueExists : Type 0
ValueExists =
    (th : Theory) (sts : List Theorem) (proofs : List Proof) (k : ℕ) (st : Theorem) (v : ContextValue) (inst : Instance) (inputs : List InputTree) →
    AreProofsOf th sts proofs → slice_get sts k ≡ Some st → IsInstantiation th st v inst inputs →
    (made : List Derivation) × HasValue th sts proofs k v inputs made

-- It has only one.
abbrev pub ValueIsOne : Type 0
ValueIsOne =
    (th : Theory) (sts : List Theorem) (proofs : List Proof) (k : ℕ) (v : ContextValue) (inputs : List InputTree) (made other : List Derivation) →
    AreProofsOf th sts proofs → HasValue th sts proofs k v inputs made → HasValue th sts proofs k v inputs other → other ≡ made

-- The value derives the instantiated conclusions.
abbrev pub ValueDerives : Type 0
ValueDerives =
    (th : Theory) (sts : List Theorem) (proofs : List Proof) (k : ℕ) (st : Theorem) (v : ContextValue) (inst : Instance) (inputs : List InputTree) (made : List Derivation) →
    AreProofsOf th sts proofs → slice_get sts k ≡ Some st → IsInstantiation th st v inst inputs →
    HasValue th sts proofs k v inputs made → DeriveConclusions th st inst made

-- derivations of the instances of what is in scope, one for each number that is
abbrev pub AreDerived : Theory → Instance → List (Option Held) → List (Option Derivation) → Type 0
AreDerived th inst hs ds =
    AllZip (λ (h : Option Held) (d : Option Derivation). MatchOption d (Unit {0}) (λ tree. MatchOption h ⊥ (λ held. Derives th tree × IsInstance inst held.judgment (judgment tree)))) hs ds

-- An ordered call has smaller sizes, or equal ones with the callee earlier.
abbrev pub OrderFalls : Type 0
OrderFalls =
    (marks : List Rel) (own targets : List ℕ) (earlier : Bool) → AreSized marks own targets → IsSmaller marks earlier →
    Falls own targets ⊎ ((own ≡ targets) × IsTrue earlier)

-- The marks of what is in scope tell the truth of the derivations, and the present values of targets have the targets' sizes.
pub record MarksHold (here : Here) (inst : Instance) (held : List (Option Derivation)) (sizes : List ℕ) : Type 0 where
  pub derivations : AllZip (λ (h : Option Held) (d : Option Derivation).
      MatchOption d (Unit {0}) (λ tree. MatchOption h ⊥ (λ known. AllZip (λ mark n. IsSized mark (size tree) n) known.relations sizes))) here.held held
  pub schemes : AllZip (λ (target : Option SchemeTree) n. MatchOption target (Unit {0}) (λ s. nodes (instance_of inst 0 s) ≡ n)) here.targets sizes

-- A right step keeps this.
abbrev pub MarksKept : Type 0
MarksKept =
    (th : Theory) (sts : List Theorem) (proofs : List Proof) (k : ℕ) (here : Here) (inst more : Instance) (held : List (Option Derivation)) (sizes : List ℕ) (s : Simple) (made : List Derivation) →
    IsSystem th → IsRightStep th sts k here s → MakesStep th sts proofs here inst held s more made →
    MarksHold here inst held sizes → MarksHold (after_step here s) more (held ++ all_made made) sizes

-- An ordered call is of lower rank, where the marks in scope tell the truth of the sizes of the caller's targets.
abbrev pub CallFalls : Type 0
CallFalls =
    (th : Theory) (sts : List Theorem) (k callee : ℕ) (own target : Theorem) (here : Here) (inst : Instance) (held : List (Option Derivation)) (inputs trees : List InputTree)
    (forms : List JudgmentScheme) (args : List CallArgument) (fresh : List MetaDecl) (handed : List Argument) (first : List SchemeEntry) →
    slice_get sts k ≡ Some own → slice_get sts callee ≡ Some target → AreGrouped sts → IsOrdered sts here k callee args → MarksHold here inst held (sizes_at inputs own.targets) →
    AllZip (IsHanded here) args handed → (is_call : IsCall th here.scope fresh target handed forms first) →
    AreHandedTrees held inst (length first) is_call.values target.inputs args trees → IsLower (rank_at sts callee trees) (rank_at sts k inputs)

-- The ground instance of a right step, under any context value of the root, makes derivations of its forms' instances.
abbrev pub StepDerives : Type 0
StepDerives =
    (th : Theory) (sts : List Theorem) (proofs : List Proof) (k : ℕ) (here : Here) (inst more : Instance) (held : List (Option Derivation)) (s : Simple) (made : List Derivation) →
    AreProofsOf th sts proofs → IsRightStep th sts k here s → FitsScope th.sig here.scope inst → AreDerived th inst here.held held →
    MakesStep th sts proofs here inst held s more made →
    FitsScope th.sig (after_step here s).scope more × AllZip (λ form d. Derives th d × IsInstance more form (judgment d)) (forms_of s) made

-- the names over which a goal is: the first of the scope, and then its own
abbrev pub names_of_goal : Here → Names
names_of_goal here =
    record { root = here.scope.root; metas = take here.goal.outer here.scope.metas ++ here.goal.names; knowns = here.scope.knowns }

-- what is in scope is over the scope, and the context of the goal's first form over the goal's names
pub record AreOverScope (th : Theory) (here : Here) : Type 0 where
  pub knowns : KnownsFit th.sig here.scope
  pub held : AllByRecursion (λ (h : Option Held). MatchOption h (Unit {0}) (λ known. IsForm th here.scope known.judgment)) here.held
  pub context : IsSchemeContext th.sig (names_of_goal here) (first_context here)
  pub root : StandsWith here.scope.root (first_context here).root

-- What a right block analyses is what its choices ask of a subject.
abbrev pub AnalysedIsSubject : Type 0
AnalysedIsSubject =
    (th : Theory) (around : Here) (head : SplitHead) (subject : SubjectForm) →
    IsSystem th → AreOverScope th around → IsRightHead th around head subject → IsSubjectOf th around.scope subject

-- one case of a block fits, with one instance of its scope and one list of premises
pub data FitsCase (th : Theory) (inst : Instance) (held : List (Option Derivation)) (s : Subject) (subject : SubjectForm) : Here → Cases → CaseHead → Instance → List Derivation → Type 0 where
  fits_here : {around : Here} {head : CaseHead} {body : Items} {end : ℕ} {rest : Cases} {inner : Instance} {premises : List Derivation} (refine : Substitution) →
      IsWrittenCase th around.scope subject head refine → Agrees th around.scope inst head.scope refine inner →
      IsTaken th around inst held head inner s premises → FitsCase th inst held s subject around (one_case head body end rest) head inner premises
  fits_later : {around : Here} {head other : CaseHead} {body : Items} {end : ℕ} {rest : Cases} {inner : Instance} {premises : List Derivation} →
      FitsCase th inst held s subject around rest other inner premises →
      FitsCase th inst held s subject around (one_case head body end rest) other inner premises

-- For every ground instance and every derivation or term of what a right block analyses, exactly one written case fits, with one instance.
abbrev pub Coverage : Type 0
Coverage =
    (th : Theory) (sts : List Theorem) (k : ℕ) (around : Here) (head : SplitHead) (subject : SubjectForm) (cases : Cases) (inst : Instance) (held : List (Option Derivation)) →
    IsSystem th → AreOverScope th around → IsRightHead th around head subject → AreRightCases th sts k around head.subject subject head.named cases →
    FitsScope th.sig around.scope inst → AreDerived th inst around.held held →
    (one : CaseHead) × (inner : Instance) × (premises : List Derivation) × FitsCase th inst held head.subject subject around cases one inner premises
    × ((other : CaseHead) (again : Instance) (ds : List Derivation) → FitsCase th inst held head.subject subject around cases other again ds →
    (other ≡ one) × (again ≡ inner) × (ds ≡ premises))

-- Kept steps are those of right trees: whole ones after each theorem, and a beginning of the next one within it.
abbrev pub WholeStepsAreTrees : Type 0
WholeStepsAreTrees =
    (th : Theory) (sts : List Theorem) (k : ℕ) (steps : List Step) →
    Leads th sts (outside 0) steps (outside k) ↔ AreWholeTrees th sts k steps

-- The same for steps that end anywhere.
abbrev pub BegunStepsAreTrees : Type 0
BegunStepsAreTrees =
    (th : Theory) (sts : List Theorem) (steps : List Step) →
    ((at : Standing) × Leads th sts (outside 0) steps at) ↔ (((k : ℕ) × AreWholeTrees th sts k steps) ⊎ AreBegunTrees th sts steps)

-- Right steps lead to one standing only.
abbrev pub LeadsToOne : Type 0
LeadsToOne =
    (th : Theory) (sts : List Theorem) (steps : List Step) (at to other : Standing) →
    CanBeOpened th sts → Leads th sts at steps to → Leads th sts at steps other → to ≡ other

-- To a step that goes on no code applies but that of a block with a stuck choice.
abbrev pub NoOtherCode : Type 1
NoOtherCode =
    (is : Judges) → (th : Theory) (sts : List Theorem) (steps : List Step) (at next : Standing) (step : Step) (code : Code) (detail : List ℕ) →
    IsSystem th → CanBeOpened th sts → Leads th sts (outside 0) steps at → GoesOn th sts at step next → Applies is th sts at step code detail → code ≡ Outside
