-- Which judgments and terms fit the inputs of a statement, and the first that does not. To be held against docs/notation.md, 'Runs'.
use Rattle.std.specs.Prelude.{◌≡◌, ◌≤◌, ℕ, zero, suc, ◌+◌, List, [], ◌∷◌, ◌++◌, length, take, drop, Option, Some, None, slice_get, MatchOption}
use Rattle.std.specs.List.{AllByRecursion, AllZip}
use Rattle.binding_terms.specs.Numbered.{AnyByRecursion}
use Rattle.binding_terms.specs.Tree as terms
use Rattle.binding_terms.specs.Tree.{Tree, var, Args, no_args, arg}
use Rattle.binding_terms.specs.Signature.{Signature}
use Rattle.scheme_terms.specs.SchemeTree.{SchemeTree, meta, known, local, con, Values, no_values, value, Parts, no_parts, part}
use Rattle.scheme_terms.specs.Forms.{SchemeEntry, GroundEntry, ContextValue, Instance}
use Rattle.binding_terms.specs.Scope.{IsTerm}
use Rattle.scheme_terms.specs.Context.{IsValue, scope_of}
use Rattle.scheme_terms.specs.Instance.{instance_of, root_cat, IsMetaValue}
use Rattle.scheme_terms.specs.declared.scheme.MetaDecl.{MetaDecl}
use Rattle.scheme_terms.specs.declared.scheme.Root.{Root}
use Rattle.scheme_terms.specs.declared.scheme.Root.TheVariants.{Closed, Empty, Whole}
use Rattle.rule_schemes.specs.Rules.{JudgmentScheme, JudgmentValue, Theory, IsJudgment}
use Rattle.rule_schemes.specs.Statement.{StatementInput, given, syntax_input, Theorem, StrictInInput}
use Rattle.derivation_check.specs.declared.inputs.Fit.{Fit}
use Rattle.derivation_check.specs.declared.inputs.Fit.TheVariants.{Fits, Wrong}

-- what is given for an input, as far as it decides whether it fits: the judgment of a derivation, or a term
pub data GivenForm : Type 0 where
  judged : JudgmentValue → GivenForm
  written : Tree → GivenForm

-- the metavariable is settled by the inputs: it is a syntax input among them, or has a strict occurrence in one
abbrev pub IsSettled : List StatementInput → ℕ → Type 0
IsSettled inputs m = AnyByRecursion (StrictInInput m) inputs

-- each metavariable in the scheme is settled
abbrev mutual
  pub AreSettled : List StatementInput → SchemeTree → Type 0
  AreSettled inputs (meta m vs) = IsSettled inputs m × ValuesSettled inputs vs
  AreSettled inputs (known k) = Unit {0}
  AreSettled inputs (local i) = Unit {0}
  AreSettled inputs (con p xs) = PartsSettled inputs xs

  pub ValuesSettled : List StatementInput → Values → Type 0
  ValuesSettled inputs no_values = Unit {0}
  ValuesSettled inputs (value s vs) = AreSettled inputs s × ValuesSettled inputs vs

  pub PartsSettled : List StatementInput → Parts → Type 0
  PartsSettled inputs no_parts = Unit {0}
  PartsSettled inputs (part n s xs) = AreSettled inputs s × PartsSettled inputs xs

-- The ground instance of the scheme, which stands under so many locals, is the term. But a metavariable with its arguments matches
-- every term where it is not settled, or where one in its arguments is not.
abbrev mutual
  pub Matches : List StatementInput → Instance → (locals : ℕ) → SchemeTree → Tree → Type 0
  Matches inputs inst n (meta m vs) t = AreSettled inputs (meta m vs) → instance_of inst n (meta m vs) ≡ t
  Matches inputs inst n (known k) t = instance_of inst n (known k) ≡ t
  Matches inputs inst n (local i) t = instance_of inst n (local i) ≡ t
  Matches inputs inst n (con p xs) (var i) = ⊥
  Matches inputs inst n (con p xs) (terms.con q ys) = (p ≡ q) × PartsMatch inputs inst n xs ys

  pub PartsMatch : List StatementInput → Instance → (locals : ℕ) → Parts → Args → Type 0
  PartsMatch inputs inst n no_parts no_args = Unit {0}
  PartsMatch inputs inst n no_parts (arg b t ys) = ⊥
  PartsMatch inputs inst n (part a s xs) no_args = ⊥
  PartsMatch inputs inst n (part a s xs) (arg b t ys) = ((a ≡ b) × Matches inputs inst (n + a) s t) × PartsMatch inputs inst n xs ys

-- a scheme of a form, under so many locals, and the term that stands in its place
pub record Piece : Type 0 where
  pub locals : ℕ
  pub pattern : SchemeTree
  pub target : Tree

abbrev pub arg_pieces : (locals : ℕ) → List SchemeTree → List Tree → List Piece
arg_pieces n (s ∷ ss) (t ∷ ts) = record { locals = n; pattern = s; target = t } ∷ arg_pieces n ss ts
arg_pieces n _ _ = []

abbrev pub entry_pieces : (before : ℕ) → List SchemeEntry → List GroundEntry → List Piece
entry_pieces n (e ∷ es) (g ∷ gs) = arg_pieces n e.args g.args ++ entry_pieces (n + 1) es gs
entry_pieces n _ _ = []

-- the entries of the context over which a form stands
abbrev pub entries_below : ContextValue → Root → List GroundEntry
entries_below v Closed = []
entries_below v (Empty c) = []
entries_below v (Whole c) = v.entries

abbrev pub explicit_of : ContextValue → Root → ContextValue → List GroundEntry
explicit_of v root w = drop (length (entries_below v root)) w.entries

abbrev pub judgment_pieces : ContextValue → JudgmentScheme → JudgmentValue → List Piece
judgment_pieces v j w =
    entry_pieces 0 j.context.entries (explicit_of v j.context.root w.context) ++ arg_pieces (length j.context.entries) j.args w.args

-- the explicit entries are of the same productions with as many arguments, place by place
abbrev pub EntriesAlike : List SchemeEntry → List GroundEntry → Type 0
EntriesAlike [] [] = Unit {0}
EntriesAlike (e ∷ es) (g ∷ gs) = ((e.prod ≡ g.prod) × (length e.args ≡ length g.args)) × EntriesAlike es gs
EntriesAlike _ _ = ⊥

-- the form and the judgment are of one judgment, and the context begins with that over which the form stands, and goes on with
-- entries of the same productions
pub record AreAlike (v : ContextValue) (j : JudgmentScheme) (w : JudgmentValue) : Type 0 where
  pub judgment : j.judgment ≡ w.judgment
  pub category : root_cat j.context.root ≡ w.context.cat
  pub before : take (length (entries_below v j.context.root)) w.context.entries ≡ entries_below v j.context.root
  pub explicit : EntriesAlike j.context.entries (explicit_of v j.context.root w.context)
  pub as_many : length j.args ≡ length w.args

-- what is given is of the input's kind: a judgment is one of the system that is alike, a term one of the metavariable's category
abbrev pub InputAlike : Theory → List MetaDecl → ContextValue → StatementInput → GivenForm → Type 0
InputAlike th metas v (given j) (judged w) = IsJudgment th w × AreAlike v j w
InputAlike th metas v (syntax_input m) (written t) = MatchOption (slice_get metas m) ⊥ (λ decl. IsTerm th.sig (scope_of th.sig v) decl.cat.0 t)
InputAlike th metas v _ _ = ⊥

abbrev pub input_pieces : ContextValue → StatementInput → GivenForm → List Piece
input_pieces v (given j) (judged w) = judgment_pieces v j w
input_pieces v (syntax_input m) (written t) = record { locals = 0; pattern = meta m no_values; target = t } ∷ []
input_pieces v _ _ = []

abbrev pub all_pieces : ContextValue → List StatementInput → List GivenForm → List Piece
all_pieces v (i ∷ is) (x ∷ xs) = input_pieces v i x ++ all_pieces v is xs
all_pieces v _ _ = []

-- a ground instance over the context of the metavariables that are settled, and of no other
pub record IsGround (sig : Signature) (metas : List MetaDecl) (v : ContextValue) (inputs : List StatementInput) (inst : Instance) : Type 0 where
  pub root : inst.root ≡ v
  pub knowns : inst.knowns ≡ []
  pub long : length inst.metas ≡ length metas
  pub settled : (m : ℕ) (decl : MetaDecl) (o : Option Tree) → slice_get metas m ≡ Some decl → slice_get inst.metas m ≡ Some o → IsSettled inputs m → IsMetaValue sig inst decl o
  pub other : (m : ℕ) (o : Option Tree) → slice_get inst.metas m ≡ Some o → (IsSettled inputs m → ⊥) → o ≡ None

abbrev pub PieceMatches : List StatementInput → Instance → Piece → Type 0
PieceMatches inputs inst p = Matches inputs inst p.locals p.pattern p.target

-- one ground instance makes these inputs what is given
pub record MakesInputs (th : Theory) (metas : List MetaDecl) (v : ContextValue) (inputs : List StatementInput) (xs : List GivenForm) : Type 0 where
  pub alike : AllZip (InputAlike th metas v) inputs xs
  pub inst : Instance
  pub ground : IsGround th.sig metas v inputs inst
  pub all : AllByRecursion (PieceMatches inputs inst) (all_pieces v inputs xs)

-- the first so many inputs are there, are of the kinds that are given, and one ground instance makes them these
abbrev pub FitSoFar : Theory → Theorem → ContextValue → List GivenForm → (count : ℕ) → Type 0
FitSoFar th st v xs n = MakesInputs th st.scope.metas v (take n st.inputs) (take n xs)

-- the answer: 0 where the context is no value of the root, else the first input that does not fit with those before it
abbrev pub IsFit : Theory → Theorem → ContextValue → List GivenForm → Fit → Type 0
IsFit th st v xs Fits = IsValue th.sig st.scope.root v × ((n : ℕ) → FitSoFar th st v xs n)
IsFit th st v xs (Wrong zero) = IsValue th.sig st.scope.root v → ⊥
IsFit th st v xs (Wrong (suc n)) =
    IsValue th.sig st.scope.root v × ((k : ℕ) → k ≤ n → FitSoFar th st v xs k) × (FitSoFar th st v xs (suc n) → ⊥)
