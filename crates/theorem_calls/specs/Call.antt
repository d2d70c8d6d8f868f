-- When judgments are an instance of a statement. To be held against docs/notation.md, 'Calls' (an instance of a statement).
use Rattle.std.specs.Prelude.{◌≡◌, ◌⊎◌, ◌<◌, ◌≤◌, ◌+◌, ℕ, suc, Bool, List, [], ◌∷◌, ◌++◌, length, map, take}
use Rattle.std.specs.List.{AllZip}
use Rattle.binding_terms.specs.Numbered.{AnyByRecursion, AllNumbered, AreDifferent}
use Rattle.binding_terms.specs.Signature.{Signature, Reaches}
use Rattle.scheme_terms.specs.SchemeTree.{SchemeTree, meta, known, local, con, Values, no_values, value, Parts, no_parts, part, AreDistinctLocals}
use Rattle.scheme_terms.specs.Forms.{Names, SchemeEntry, SchemeContext, Substitution}
use Rattle.scheme_terms.specs.SchemeScope.{IsScheme, params_scope}
use Rattle.scheme_terms.specs.Substituting.{scheme_for, applied}
use Rattle.scheme_terms.specs.declared.scheme.MetaDecl.{MetaDecl}
use Rattle.rule_schemes.specs.Rules.{JudgmentScheme, Theory}
use Rattle.rule_schemes.specs.Raising.{raised_judgment}
use Rattle.rule_schemes.specs.Statement.{StatementInput, given, syntax_input, Theorem, IsOfInputs, IsOfOutputs, StrictInInput}
use Rattle.rule_schemes.specs.Placed.{root_in, entries_in, entry_cats}
use Rattle.pattern_unify.specs.Patterns.{IsAmong}
use Rattle.theorem_calls.specs.Raised.{Argument, tree_of, term_of, call_context, raised_metas, called_form, called_term, entries_of_first}

-- the scope with the names of the call's form after its own
abbrev pub with_fresh : Names → List MetaDecl → Names
with_fresh scope fresh = record { root = scope.root; metas = scope.metas ++ fresh; knowns = scope.knowns }

-- the metavariable is settled by these inputs: it is a syntax input among them, or has a strict occurrence in them
abbrev pub IsSettled : List StatementInput → ℕ → Type 0
IsSettled inputs m = AnyByRecursion (StrictInInput m) inputs

-- each metavariable that stands in the scheme is settled
abbrev mutual
  pub AllSettled : (ℕ → Type 0) → SchemeTree → Type 0
  AllSettled settled (meta m vs) = settled m × AllSettledInValues settled vs
  AllSettled settled (known k) = Unit {0}
  AllSettled settled (local i) = Unit {0}
  AllSettled settled (con p xs) = AllSettledInParts settled xs

  pub AllSettledInValues : (ℕ → Type 0) → Values → Type 0
  AllSettledInValues settled no_values = Unit {0}
  AllSettledInValues settled (value s vs) = AllSettled settled s × AllSettledInValues settled vs

  pub AllSettledInParts : (ℕ → Type 0) → Parts → Type 0
  AllSettledInParts settled no_parts = Unit {0}
  AllSettledInParts settled (part n s xs) = AllSettled settled s × AllSettledInParts settled xs

-- The scheme, with schemes for its names, is the other, where a metavariable that is not settled, or that has one that is not among its arguments, stands
-- for anything.
abbrev mutual
  pub MatchesLoosely : (ℕ → Type 0) → Substitution → (locals : ℕ) → (form target : SchemeTree) → Type 0
  MatchesLoosely settled by d (meta m vs) t = AllSettled settled (meta m vs) → applied by.metas by.knowns d (meta m vs) ≡ t
  MatchesLoosely settled by d (known k) t = t ≡ known k
  MatchesLoosely settled by d (local i) t = t ≡ local i
  MatchesLoosely settled by d (con p xs) (con q ys) = (p ≡ q) × PartsMatchLoosely settled by d xs ys
  MatchesLoosely settled by d (con p xs) t = ⊥

  pub PartsMatchLoosely : (ℕ → Type 0) → Substitution → (locals : ℕ) → (form target : Parts) → Type 0
  PartsMatchLoosely settled by d no_parts no_parts = Unit {0}
  PartsMatchLoosely settled by d (part m s xs) (part n t ys) =
      (m ≡ n) × MatchesLoosely settled by (d + m) s t × PartsMatchLoosely settled by d xs ys
  PartsMatchLoosely settled by d _ _ = ⊥

-- the same of entries, with so many before them
abbrev pub EntriesMatchLoosely : (ℕ → Type 0) → Substitution → (before : ℕ) → (form target : List SchemeEntry) → Type 0
EntriesMatchLoosely settled by n [] [] = Unit {0}
EntriesMatchLoosely settled by n (e ∷ es) (f ∷ fs) =
    (e.prod ≡ f.prod) × AllZip (MatchesLoosely settled by n) e.args f.args × EntriesMatchLoosely settled by (n + 1) es fs
EntriesMatchLoosely settled by n _ _ = ⊥

-- the same of a judgment: the raised form stands in the call's context
pub record JudgmentMatchesLoosely (settled : ℕ → Type 0) (ctx : SchemeContext) (by : Substitution) (form target : JudgmentScheme) : Type 0 where
  pub judgment : target.judgment ≡ form.judgment
  pub root : target.context.root ≡ root_in ctx form.context.root
  pub later : List SchemeEntry
  pub entries : target.context.entries ≡ entries_in ctx form.context.root ++ later
  pub own : EntriesMatchLoosely settled by (length (entries_in ctx form.context.root)) form.context.entries later
  pub args : AllZip (MatchesLoosely settled by (length target.context.entries)) form.args target.args

-- an input and the argument at its place
abbrev pub IsLooseInput : (ℕ → ℕ → Bool) → (settled : ℕ → Type 0) → (entry_cats : List ℕ) → Theorem → SchemeContext → (entries : ℕ) → Substitution →
    StatementInput → Argument → Type 0
IsLooseInput reaches settled cats callee ctx n by (given j) (tree_of k) =
    JudgmentMatchesLoosely settled ctx by (raised_judgment reaches callee.scope.metas cats j) k
IsLooseInput reaches settled cats callee ctx n by (syntax_input m) (term_of s) = called_term reaches cats callee n by m ≡ s
IsLooseInput reaches settled cats callee ctx n by _ _ = ⊥

-- a value of each metavariable that is settled
abbrev pub FitsSettled : Signature → Names → (ℕ → Type 0) → List MetaDecl → Substitution → Type 0
FitsSettled sig scope settled metas by =
    AllNumbered (λ m decl. settled m → IsScheme sig scope (params_scope decl) decl.cat.0 (scheme_for by.metas m)) 0 metas

-- The first so many arguments are an instance of the inputs.
pub record IsInstanceUpTo (th : Theory) (scope : Names) (reaches : ℕ → ℕ → Bool) (callee : Theorem) (first : List SchemeEntry)
    (args : List Argument) (entries count : ℕ) : Type 0 where
  pub by : Substitution
  pub fits :
      FitsSettled th.sig scope (IsSettled (take count callee.inputs)) (raised_metas reaches (entry_cats th.sig first) callee) by
  pub inputs :
      AllZip
      (IsLooseInput reaches (IsSettled (take count callee.inputs)) (entry_cats th.sig first) callee (call_context scope callee first) entries by)
      (take count callee.inputs) (take count args)

-- an input and the argument that it becomes
abbrev pub IsInput : (ℕ → ℕ → Bool) → (entry_cats : List ℕ) → Theorem → SchemeContext → (entries : ℕ) → Substitution → StatementInput → Argument → Type 0
IsInput reaches cats callee ctx n by (given j) (tree_of k) = called_form reaches cats callee ctx by j ≡ k
IsInput reaches cats callee ctx n by (syntax_input m) (term_of s) = called_term reaches cats callee n by m ≡ s
IsInput reaches cats callee ctx n by _ _ = ⊥

-- a further metavariable of the callee: it stands in an output and in no input
abbrev pub IsFurther : Theorem → ℕ → Type 0
IsFurther callee m = IsOfOutputs callee m × (IsOfInputs callee m → ⊥)

-- each parameter that the new name's category reaches is among its arguments; the last parameter is the local 0
abbrev pub HasReached : Signature → (cat : ℕ) → Values → (params : List ℕ) → Type 0
HasReached sig c vs [] = Unit {0}
HasReached sig c vs (p ∷ ps) = (Reaches sig c p → IsAmong (length ps) vs) × HasReached sig c vs ps

-- the value of a further metavariable: a new name on distinct parameters, among them each that its category reaches
abbrev pub IsNewName : Signature → (first_new : ℕ) → MetaDecl → SchemeTree → (name : ℕ) → Type 0
IsNewName sig n decl (meta m vs) name =
    (m ≡ name) × (n ≤ m) × AreDistinctLocals vs × HasReached sig decl.cat.0 vs (map (λ p. p.0) decl.params)
IsNewName sig n decl _ name = ⊥

-- the new names of the further metavariables, in order
abbrev pub AreNewNames : Signature → Theorem → (first_new : ℕ) → Substitution → (m : ℕ) → List MetaDecl → (names : List ℕ) → Type 0
AreNewNames sig callee n by m [] names = names ≡ []
AreNewNames sig callee n by m (decl ∷ decls) [] = (IsFurther callee m → ⊥) × AreNewNames sig callee n by (suc m) decls []
AreNewNames sig callee n by m (decl ∷ decls) (w ∷ ws) =
    (IsFurther callee m × IsNewName sig n decl (scheme_for by.metas m) w × AreNewNames sig callee n by (suc m) decls ws)
    ⊎ ((IsFurther callee m → ⊥) × AreNewNames sig callee n by (suc m) decls (w ∷ ws))

-- the metavariable stands in an input or an output of the callee
abbrev pub IsOfStatement : Theorem → ℕ → Type 0
IsOfStatement callee m = IsOfInputs callee m ⊎ IsOfOutputs callee m

-- The instance of the statement: one substitution of the raised names makes the inputs the arguments and the outputs the results, the further names become
-- different new names, and the form has no other new name. What a name becomes that stands nowhere is left open.
pub record IsStatementInstance (th : Theory) (scope : Names) (fresh : List MetaDecl) (reaches : ℕ → ℕ → Bool) (callee : Theorem) (first : List SchemeEntry)
    (args : List Argument) (results : List JudgmentScheme) (by : Substitution) (names : List ℕ) : Type 0 where
  pub into : by.into ≡ with_fresh scope fresh
  pub counted : length by.metas ≡ length callee.scope.metas
  pub schemes : FitsSettled th.sig by.into (IsOfStatement callee) (raised_metas reaches (entry_cats th.sig first) callee) by
  pub knowns : by.knowns ≡ []
  pub inputs :
      AllZip (IsInput reaches (entry_cats th.sig first) callee (call_context scope callee first) (entries_of_first results) by) callee.inputs args
  pub outputs : map (called_form reaches (entry_cats th.sig first) callee (call_context scope callee first) by) callee.outputs ≡ results
  pub new_names : AreNewNames th.sig callee (length scope.metas) by 0 (raised_metas reaches (entry_cats th.sig first) callee) names
  pub different : AreDifferent names
  pub no_other : (m : ℕ) → length scope.metas ≤ m → m < length scope.metas + length fresh → AnyByRecursion (λ n. n ≡ m) names
