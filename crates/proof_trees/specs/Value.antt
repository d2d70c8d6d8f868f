-- The values of theorems: the derivations that their proofs make of inputs. To be held against docs/notation.md, 'Runs'.
use Rattle.std.specs.Prelude.{◌≡◌, ℕ, suc, ◌+◌, ◌-◌, List, [], ◌∷◌, ◌++◌, length, map, Option, Some, slice_get, MatchOption}
use Rattle.std.specs.List.{AllZip}
use Rattle.binding_terms.specs.Tree.{Tree}
use Rattle.scheme_terms.specs.SchemeTree.{SchemeTree}
use Rattle.scheme_terms.specs.Forms.{GroundEntry, SchemeEntry, ContextValue, Names, Instance, Substitution}
use Rattle.scheme_terms.specs.Instance.{instance_of, context_instance, FitsScope}
use Rattle.scheme_terms.specs.Substituting.{followed, scheme_for}
use Rattle.scheme_terms.specs.declared.scheme.MetaDecl.{MetaDecl}
use Rattle.rule_schemes.specs.Rules.{JudgmentScheme, JudgmentValue, Rule, Theory, IsAssumption, judgment_instance, IsInstance}
use Rattle.rule_schemes.specs.Derivation.{Derivation, node, leaf, judgment, Subtrees, no_more, subtree, AreInstances}
use Rattle.rule_schemes.specs.Statement.{StatementInput, given, syntax_input, Theorem, InputTree, derived, term, IsInstantiation}
use Rattle.proof_trees.specs.Steps.{CallArgument, step_argument, scheme_argument, Simple, by_rule, by_call, by_name, by_weakening, by_exchange, by_substitution, Subject, step_subject, scheme_subject, SplitHead, CaseHead}
use Rattle.proof_trees.specs.Tree.{single, block, Items, no_items, item, Cases, one_case, Proof, numbers_of, numbers_of_cases}
use Rattle.case_split.specs.declared.choice.Place.TheVariants.{Plain}
use Rattle.case_split.specs.LeafPlace.{leaf_place, IsLeafPlace}
use Rattle.theorem_calls.specs.Call.{with_fresh}
use Rattle.theorem_calls.specs.Raised.{Argument}
use Rattle.proof_trees.specs.Calls.{IsCall, callee_context}
use Rattle.proof_trees.specs.Choices.{SubjectForm}
use Rattle.proof_trees.specs.WrittenCases.{IsWrittenCase}
use Rattle.proof_trees.specs.StructuralSteps.{weakened, exchanged, substituted, IsTermFor}
use Rattle.proof_trees.specs.Here.{Here, nones, after_step, after_block, around_cases, after_case, entering, IsAnalysed, first_context, beginning}
use Rattle.proof_trees.specs.Right.{IsHanded, IsProofScope}

-- the subtrees of a node, from the first
abbrev pub subtrees : List Derivation → Subtrees
subtrees [] = no_more
subtrees (d ∷ ds) = subtree d (subtrees ds)

-- the subtrees of a node as a list
abbrev pub listed : Subtrees → List Derivation
listed no_more = []
listed (subtree d ds) = d ∷ listed ds

-- the derivation of a step in scope
abbrev pub IsMadeAt : List (Option Derivation) → ℕ → Derivation → Type 0
IsMadeAt made n d = slice_get made n ≡ Some (Some d)

-- the derivations of cited steps, in order
abbrev pub AreMadeAt : List (Option Derivation) → (on : List ℕ) → List Derivation → Type 0
AreMadeAt made on ds = AllZip (IsMadeAt made) on ds

-- derivations that are in scope
abbrev pub all_made : List Derivation → List (Option Derivation)
all_made ds = map (λ d. Some d) ds

-- the given derivations, which take the first numbers
abbrev pub given_trees : List InputTree → List (Option Derivation)
given_trees [] = []
given_trees (derived d ∷ xs) = Some d ∷ given_trees xs
given_trees (term t ∷ xs) = given_trees xs

-- a block with forms puts its value in scope under their numbers
abbrev pub made_under : List JudgmentScheme → List Derivation → List (Option Derivation)
made_under [] ds = []
made_under (j ∷ js) [] = []
made_under (j ∷ js) (d ∷ ds) = Some d ∷ made_under js ds

-- the same of the forms of a block
abbrev pub forms_made : SplitHead → List Derivation → List (Option Derivation)
forms_made head ds = made_under head.forms ds

-- What is handed to a callee for its inputs: the derivation of a step, and for a syntax input the instance of the value that the call gives to its name,
-- under the entries to which the callee is raised.
abbrev pub AreHandedTrees : List (Option Derivation) → Instance → (entries : ℕ) → (values : Substitution) → List StatementInput → List CallArgument → List InputTree → Type 0
AreHandedTrees made inst n values [] [] [] = Unit {0}
AreHandedTrees made inst n values (given j ∷ inputs) (step_argument k ∷ args) (derived d ∷ trees) =
    IsMadeAt made k d × AreHandedTrees made inst n values inputs args trees
AreHandedTrees made inst n values (syntax_input m ∷ inputs) (scheme_argument s ∷ args) (term t ∷ trees) =
    (t ≡ instance_of inst n (scheme_for values.metas m)) × AreHandedTrees made inst n values inputs args trees
AreHandedTrees made inst n values _ _ _ = ⊥

-- what a context judgment's last entry is
abbrev pub IsLastEntry : JudgmentValue → (place : ℕ) → GroundEntry → Type 0
IsLastEntry j place e = (length j.context.entries ≡ suc place) × (slice_get j.context.entries place ≡ Some e)

-- an instance of a wider scope that gives the scope's own names the same
pub record Extends (th : Theory) (wider : Names) (inst more : Instance) : Type 0 where
  pub fits : FitsScope th.sig wider more
  pub root : more.root ≡ inst.root
  pub knowns : more.knowns ≡ inst.knowns
  pub further : List (Option Tree)
  pub metas : more.metas ≡ inst.metas ++ further

-- the derivation that is analysed is a node of the case's rule, or a leaf at its place, with the case's conclusion and premises
abbrev pub IsOfCase : Theory → Instance → CaseHead → Derivation → Type 0
IsOfCase th inst head (node r j ds) =
    (r ≡ head.number) × (head.place ≡ Plain) × MatchOption head.conclusion ⊥ (λ form. IsInstance inst form j) × AreInstances inst head.premises ds
IsOfCase th inst head (leaf r j at) =
    (r ≡ head.number) × (head.premises ≡ [])
    × MatchOption head.conclusion ⊥ (λ form. IsInstance inst form j
    × MatchOption (slice_get th.rules r) ⊥ (λ rule. IsLeafPlace inst form rule head.place at))

-- the premises of the derivation, which a case puts in scope
abbrev pub premises_of : Derivation → List Derivation
premises_of (node r j ds) = listed ds
premises_of (leaf r j at) = []

-- what is analysed is an instance of the case: a derivation that is in scope, or the instance of a scheme; these are its premises
pub data IsTaken (th : Theory) (around : Here) (inst : Instance) (made : List (Option Derivation)) (head : CaseHead) (inner : Instance) : Subject → List Derivation → Type 0 where
  taken_derivation : {n : ℕ} {d : Derivation} → IsMadeAt made n d → IsOfCase th inner head d →
      IsTaken th around inst made head inner (step_subject n) (premises_of d)
  taken_scheme : {s t : SchemeTree} {cat : ℕ} → head.term ≡ Some t →
      instance_of inner (length (first_context around).entries) t ≡ instance_of inst (length (first_context around).entries) s →
      IsTaken th around inst made head inner (scheme_subject s cat) []

-- A ground instance of the case's scope over the same root, which agrees with the outer names: each outer name's value in the case has the outer
-- name's instance.
pub record Agrees (th : Theory) (outer : Names) (inst : Instance) (inner_scope : Names) (refine : Substitution) (inner : Instance) : Type 0 where
  pub fits : FitsScope th.sig inner_scope inner
  pub agrees : followed outer.metas refine inner ≡ inst

-- The value of a theorem on inputs in a context value, and what steps make, with an instance of the scope and the derivations in scope: what the
-- steps of a proof make is what its last step makes.
mutual
  pub data HasValue (th : Theory) (sts : List Theorem) (proofs : List Proof) : (theorem : ℕ) → ContextValue → List InputTree → List Derivation → Type 0 where
    value_of : {k : ℕ} {v : ContextValue} {inputs : List InputTree} {made : List Derivation} (statement : Theorem) (proof : Proof) (scope : Names) (inst : Instance) →
        slice_get sts k ≡ Some statement → slice_get proofs k ≡ Some proof → (is_scope : IsProofScope statement scope) → FitsScope th.sig scope inst →
        IsInstantiation th statement v inst inputs →
        Makes th sts proofs (beginning statement scope is_scope.goal_names) inst (given_trees inputs) [] proof.body made →
        HasValue th sts proofs k v inputs made

  pub data Makes (th : Theory) (sts : List Theorem) (proofs : List Proof) : Here → Instance → (held : List (Option Derivation)) → (last : List Derivation) → Items → List Derivation → Type 0 where
    makes_last : {here : Here} {inst : Instance} {held : List (Option Derivation)} {last : List Derivation} → Makes th sts proofs here inst held last no_items last
    makes_single : {here : Here} {inst more : Instance} {held : List (Option Derivation)} {last made ds : List Derivation} {s : Simple} {rest : Items} →
        MakesStep th sts proofs here inst held s more ds →
        Makes th sts proofs (after_step here s) more (held ++ all_made ds) ds rest made →
        Makes th sts proofs here inst held last (item (single s) rest) made
    makes_block : {here : Here} {inst : Instance} {held : List (Option Derivation)} {last made ds : List Derivation} {head : SplitHead} {cases : Cases} {end : ℕ} {rest : Items} (subject : SubjectForm) →
        IsAnalysed (around_cases here head) head.subject subject →
        MakesCase th sts proofs (around_cases here head) inst (held ++ nones (length head.forms)) head.subject subject cases ds →
        Makes th sts proofs (after_block here head cases) inst (held ++ (forms_made head ds ++ nones (numbers_of_cases cases))) ds rest made →
        Makes th sts proofs here inst held last (item (block head cases end) rest) made

  -- the value of the one case that fits, in the order of the cases
  pub data MakesCase (th : Theory) (sts : List Theorem) (proofs : List Proof) : Here → Instance → (held : List (Option Derivation)) → Subject → SubjectForm → Cases → List Derivation → Type 0 where
    this_case : {around : Here} {inst : Instance} {held : List (Option Derivation)} {s : Subject} {subject : SubjectForm} {head : CaseHead} {body : Items} {end : ℕ} {rest : Cases} {premises made : List Derivation}
        (refine : Substitution) (inner : Instance) → IsWrittenCase th around.scope subject head refine → Agrees th around.scope inst head.scope refine inner →
        IsTaken th around inst held head inner s premises →
        Makes th sts proofs (entering around s head refine) inner (held ++ all_made premises) [] body made →
        MakesCase th sts proofs around inst held s subject (one_case head body end rest) made
    later_case : {around : Here} {inst : Instance} {held : List (Option Derivation)} {s : Subject} {subject : SubjectForm} {head : CaseHead} {body : Items} {end : ℕ} {rest : Cases} {made : List Derivation} →
        MakesCase th sts proofs (after_case around (length head.premises + numbers_of body)) inst (held ++ nones (length head.premises + numbers_of body)) s subject rest made →
        MakesCase th sts proofs around inst held s subject (one_case head body end rest) made

  -- what a step makes that is justified by itself: a row each; an unproved step makes nothing
  pub data MakesStep (th : Theory) (sts : List Theorem) (proofs : List Proof) : Here → Instance → (held : List (Option Derivation)) → Simple → (more : Instance) → List Derivation → Type 0 where
    makes_node : {here : Here} {inst : Instance} {held : List (Option Derivation)} {line r : ℕ} {form : JudgmentScheme} {on : List ℕ} (rule : Rule) (cited : List Derivation) →
        slice_get th.rules r ≡ Some rule → (IsAssumption rule → ⊥) → AreMadeAt held on cited →
        MakesStep th sts proofs here inst held (by_rule line form r on) inst (node r (judgment_instance inst form) (subtrees cited) ∷ [])
    makes_leaf : {here : Here} {inst : Instance} {held : List (Option Derivation)} {line r : ℕ} {form : JudgmentScheme} (rule : Rule) →
        slice_get th.rules r ≡ Some rule → IsAssumption rule →
        MakesStep th sts proofs here inst held (by_rule line form r []) inst (leaf r (judgment_instance inst form) (leaf_place inst rule form) ∷ [])
    makes_call : {here : Here} {inst more : Instance} {held : List (Option Derivation)} {line callee : ℕ} {forms : List JudgmentScheme} {args : List CallArgument} {fresh : List MetaDecl}
        (target : Theorem) (handed : List Argument) (first : List SchemeEntry) (trees : List InputTree) (made : List Derivation) →
        slice_get sts callee ≡ Some target → AllZip (IsHanded here) args handed → (is_call : IsCall th here.scope fresh target handed forms first) →
        AreHandedTrees held inst (length first) is_call.values target.inputs args trees →
        HasValue th sts proofs callee (context_instance inst (callee_context here.scope target first)) trees made →
        Extends th (with_fresh here.scope fresh) inst more → AllZip (λ form d. IsInstance more form (judgment d)) forms made →
        MakesStep th sts proofs here inst held (by_call line forms callee args fresh) more made
    makes_same : {here : Here} {inst : Instance} {held : List (Option Derivation)} {line : ℕ} {forms : List JudgmentScheme} {of : List ℕ} (made : List Derivation) →
        AreMadeAt held of made → MakesStep th sts proofs here inst held (by_name line forms of) inst made
    makes_weakened : {here : Here} {inst : Instance} {held : List (Option Derivation)} {line of place : ℕ} {form : JudgmentScheme} (d : Derivation) (entry : GroundEntry) →
        IsMadeAt held of d → IsLastEntry (judgment_instance inst form) place entry →
        MakesStep th sts proofs here inst held (by_weakening line form of) inst (weakened place entry d ∷ [])
    makes_exchanged : {here : Here} {inst : Instance} {held : List (Option Derivation)} {line of : ℕ} {form : JudgmentScheme} (d : Derivation) →
        IsMadeAt held of d →
        MakesStep th sts proofs here inst held (by_exchange line form of) inst (exchanged (length (judgment d).context.entries - 2) d ∷ [])
    makes_substituted : {here : Here} {inst : Instance} {held : List (Option Derivation)} {line of by place : ℕ} {form : JudgmentScheme} (d given : Derivation) (entry : GroundEntry) (t : Tree) →
        IsMadeAt held of d → IsMadeAt held by given → IsLastEntry (judgment d) place entry → IsTermFor th (judgment given) entry t →
        MakesStep th sts proofs here inst held (by_substitution line form of by) inst (substituted place t given d ∷ [])
