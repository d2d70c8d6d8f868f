-- To how many entries a callee is raised, and when its root does not fit. To be held against docs/notation.md, 'Calls' (roots and entries).
use Rattle.std.specs.Prelude.{◌≡◌, ◌≤◌, ◌+◌, ℕ, List, [], ◌∷◌, ◌++◌, length, take}
use Rattle.std.specs.List.{AllByRecursion}
use Rattle.binding_terms.specs.Numbered.{AnyByRecursion}
use Rattle.binding_terms.specs.Signature.{Reaches}
use Rattle.scheme_terms.specs.SchemeTree.{OccursIn}
use Rattle.scheme_terms.specs.Forms.{Names, SchemeEntry}
use Rattle.scheme_terms.specs.declared.scheme.Root.{Root}
use Rattle.scheme_terms.specs.declared.scheme.Root.TheVariants.{Closed, Empty, Whole}
use Rattle.rule_schemes.specs.Rules.{JudgmentScheme, Theory, Binds, MayStandUnder}
use Rattle.rule_schemes.specs.Statement.{StatementInput, given, syntax_input, Theorem}
use Rattle.std.specs.Prelude.{slice_get, MatchOption}
use Rattle.theorem_calls.specs.Raised.{Argument, tree_of}

-- a form of the callee and the judgment that stands at its place in the call
pub record Pair : Type 0 where
  pub form : JudgmentScheme
  pub judgment : JudgmentScheme

-- the pair counts where the form has the callee's context
abbrev pub counted : Root → Pair → List Pair
counted (Whole c) pair = pair ∷ []
counted _ pair = []

abbrev pub counted_inputs : List StatementInput → List Argument → List Pair
counted_inputs (given j ∷ inputs) (tree_of k ∷ args) =
    counted j.context.root (record { form = j; judgment = k }) ++ counted_inputs inputs args
counted_inputs (x ∷ inputs) (y ∷ args) = counted_inputs inputs args
counted_inputs _ _ = []

abbrev pub counted_outputs : (outputs results : List JudgmentScheme) → List Pair
counted_outputs (j ∷ js) (k ∷ ks) = counted j.context.root (record { form = j; judgment = k }) ++ counted_outputs js ks
counted_outputs _ _ = []

-- the forms that count, inputs first, each with its judgment
abbrev pub counted_forms : Theorem → List Argument → (results : List JudgmentScheme) → List Pair
counted_forms callee args results = counted_inputs callee.inputs args ++ counted_outputs callee.outputs results

-- the excess of a form is this number: its judgment has so many explicit entries more than the form has
abbrev pub HasExcess : ℕ → Pair → Type 0
HasExcess k pair = length pair.judgment.context.entries ≡ k + length pair.form.context.entries

-- the number of entries to which the callee is raised: the excess of each form that counts, and 0 where none counts
abbrev pub IsExcess : ℕ → List Pair → Type 0
IsExcess k [] = k ≡ 0
IsExcess k (pair ∷ pairs) = AllByRecursion (HasExcess k) (pair ∷ pairs)

-- the first entries that the judgments have in common
abbrev pub HaveFirstEntries : List SchemeEntry → ℕ → List Pair → Type 0
HaveFirstEntries first k [] = first ≡ []
HaveFirstEntries first k (pair ∷ pairs) = AllByRecursion (λ p. take k p.judgment.context.entries ≡ first) (pair ∷ pairs)

-- none of the new names, which are numbered from here on, stands in the entries
abbrev pub HaveNoNew : (first_new : ℕ) → List SchemeEntry → Type 0
HaveNoNew n es = (m : ℕ) → n ≤ m → AnyByRecursion (λ e. AnyByRecursion (OccursIn m) e.args) es → ⊥

-- a form of a callee without a context may stand under the caller's context: its judgment has no context and takes no variable of the caller's
abbrev pub MayBeCalled : Theory → (context : ℕ) → JudgmentScheme → Type 0
MayBeCalled th c j = (j.context.root ≡ Closed) × MayStandUnder th c j.judgment

-- a syntax input of the category reaches no category of which the caller's context binds variables
abbrev pub ReachesNone : Theory → (context cat : ℕ) → Type 0
ReachesNone th c k = (v : ℕ) → Binds th.sig c v → Reaches th.sig k v → ⊥

abbrev pub InputMayBeCalled : Theory → (context : ℕ) → Theorem → StatementInput → Type 0
InputMayBeCalled th c callee (given j) = MayBeCalled th c j
InputMayBeCalled th c callee (syntax_input m) = MatchOption (slice_get callee.scope.metas m) ⊥ (λ decl. ReachesNone th c decl.cat.0)

-- a callee without a context may be called under the caller's context
pub record MayBeCalledUnder (th : Theory) (context : ℕ) (callee : Theorem) : Type 0 where
  pub inputs : AllByRecursion (InputMayBeCalled th context callee) callee.inputs
  pub outputs : AllByRecursion (MayBeCalled th context) callee.outputs

-- The roots go together: the callee's context is the caller's, or the caller has none; a callee without a context, or with the empty one, is called under none,
-- or may stand under the caller's.
abbrev pub RootsGoTogether : Theory → (caller callee : Root) → Theorem → Type 0
RootsGoTogether th (Whole c) (Whole d) callee = c.0 ≡ d.0
RootsGoTogether th (Whole c) (Empty d) callee = MayBeCalledUnder th c.0 callee
RootsGoTogether th (Whole c) Closed callee = MayBeCalledUnder th c.0 callee
RootsGoTogether th _ _ callee = Unit {0}

-- All that RootMismatch denies, with the number of entries and the entries themselves.
pub record HasRoot (th : Theory) (scope : Names) (callee : Theorem) (args : List Argument) (results : List JudgmentScheme)
    (k : ℕ) (first : List SchemeEntry) : Type 0 where
  pub excess : IsExcess k (counted_forms callee args results)
  pub entries : HaveFirstEntries first k (counted_forms callee args results)
  pub no_new : HaveNoNew (length scope.metas) first
  pub roots : RootsGoTogether th scope.root callee.scope.root callee
