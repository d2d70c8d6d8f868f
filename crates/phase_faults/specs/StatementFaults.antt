-- The faults of the theorems of a file up to their steps, with their targets: which code stands at which token, with which detail. To be
-- held against 'Faults of statements' and 'Phases' of docs/notation.md. Judgments and rules without a fault are presumed.
use Rattle.std.specs.Prelude.{◌≡◌, ◌≢◌, ℕ, true, false, List, [], ◌∷◌, ◌++◌, length, map, flat_map, Some, slice_get, codes}
use Rattle.std.specs.List.{AllByRecursion, Contains}
use Rattle.binding_terms.specs.Numbered.{AnyByRecursion}
use Rattle.binding_terms.specs.Signature.{Signature}
use Rattle.sy_base.specs.FirstFault.{Faults}
use Rattle.sy_base.specs.Tokens.{PlainToken}
use Rattle.sy_base.specs.declared.fault.Code.{Code}
use Rattle.sy_base.specs.declared.fault.Code.TheVariants as code
use Rattle.outline_reader.specs.Plain.{PlainPortion, PlainLabelled, PlainInput, given_form, of_syntax, PlainArgument, name_alone, enclosed}
use Rattle.scheme_terms.specs.declared.scheme.MetaDecl.{MetaDecl}
use Rattle.scheme_terms.specs.declared.scheme.Root.{Root}
use Rattle.rule_schemes.specs.Reading.{IsSpelling}
use Rattle.rule_schemes.specs.NewNames.{IsPlainSpelling}
use Rattle.rule_schemes.specs.Rules.{JudgmentScheme, Theory}
use Rattle.rule_schemes.specs.Statement.{StatementInput, given, syntax_input, Theorem}
use Rattle.rule_schemes.specs.Strict.{IsFirstUnstrictName}
use Rattle.user_grammar.specs.Names.{names}
use Rattle.phase_faults.specs.Written.{WrittenTheorem, theorems, statement_forms, telling_forms, all_as_read, IsFirstToken, IsDeclaredAgain}
use Rattle.phase_faults.specs.Telling.{AreNamesOf, IsFirstUntold, IsNinthWord}
use Rattle.phase_faults.specs.Read.{names_over, IsAssumedRoot, IsReadStatement}
use Rattle.phase_faults.specs.FormFaults.{IsFormFault}
use Rattle.phase_faults.specs.Placed.{IsFirstMisplaced}
use Rattle.phase_faults.specs.JudgmentFaults.{OverTheory}

-- ---- names of inputs

-- the word `_` (95), which may be given again and is never cited
abbrev pub IsNameless : List ℕ → Type 0
IsNameless text = text ≡ 95 ∷ []

-- the input is a derivation with this name
abbrev pub IsDerivationNamed : List ℕ → PlainInput → Type 0
IsDerivationNamed text (given_form labelled) = labelled.name.text ≡ text
IsDerivationNamed text (of_syntax name) = ⊥

-- the token names a derivation, and is a spelling of a category or a variable
pub record IsSpelledName (sig : Signature) (inputs : List PlainInput) (token : PlainToken) : Type 0 where
  pub labelled : PlainLabelled
  pub is_input : Contains inputs (given_form labelled)
  pub there : token ≡ labelled.name
  pub spelled : AnyByRecursion (λ name. IsSpelling name token.text) (names sig.cats)

-- the token names a derivation, and a derivation before it has this name, which is not `_`
pub record IsTakenName (inputs : List PlainInput) (token : PlainToken) : Type 0 where
  pub labelled : PlainLabelled
  pub before : List PlainInput
  pub after : List PlainInput
  pub split : inputs ≡ before ++ given_form labelled ∷ after
  pub there : token ≡ labelled.name
  pub named : IsNameless token.text → ⊥
  pub taken : AnyByRecursion (IsDerivationNamed token.text) before

-- ---- targets

-- The word names the input. A derivation that is named `_` is never cited.
abbrev pub IsInputNamed : List ℕ → PlainInput → Type 0
IsInputNamed text (given_form labelled) = (labelled.name.text ≡ text) × (IsNameless text → ⊥)
IsInputNamed text (of_syntax name) = name.text ≡ text

abbrev pub NamesInput : List PlainInput → List ℕ → Type 0
NamesInput inputs text = AnyByRecursion (IsInputNamed text) inputs

-- the name of an input alone
abbrev pub IsInputAlone : List PlainInput → List PlainToken → Type 0
IsInputAlone inputs (token ∷ []) = (token.kind ≡ 0) × NamesInput inputs token.text
IsInputAlone inputs _ = ⊥

-- The target is no input. It is told at its name, or at the first token within its parentheses.
abbrev pub IsNoTarget : List PlainInput → PlainToken → PlainArgument → Type 0
IsNoTarget inputs token (name_alone name) = (token ≡ name) × (NamesInput inputs name.text → ⊥)
IsNoTarget inputs token (enclosed form) = IsFirstToken form token × (IsInputAlone inputs form → ⊥)

-- the theorem has another number of targets than the first of its group
pub record IsUneven (written : List WrittenTheorem) (text : WrittenTheorem) : Type 0 where
  pub front : List WrittenTheorem
  pub head : WrittenTheorem
  pub between : List WrittenTheorem
  pub after : List WrittenTheorem
  pub split : written ≡ front ++ head ∷ (between ++ text ∷ after)
  pub begins : head.joined ≡ false
  pub one_group : AllByRecursion (λ member. member.joined ≡ true) (between ++ text ∷ [])
  pub uneven : length text.targets ≢ length head.targets

-- ---- statements

-- the forms of a statement
abbrev pub given_judgment : StatementInput → List JudgmentScheme
given_judgment (given j) = j ∷ []
given_judgment (syntax_input m) = []

abbrev pub forms_of : Theorem → List JudgmentScheme
forms_of st = flat_map given_judgment st.inputs ++ st.outputs

-- the name of a statement's first metavariable without the strict occurrence that is asked of it
pub record IsFirstUnstrictIn (st : Theorem) (name : List ℕ) : Type 0 where
  pub number : ℕ
  pub decl : MetaDecl
  pub unstrict : IsFirstUnstrictName st number
  pub declared : slice_get st.scope.metas number ≡ Some decl
  pub same : name ≡ decl.name

module _ (written : List WrittenTheorem) (th : Theory) where
  -- each form of the written theorem has at most 256 tokens and one reading, and it is judged as this statement
  pub record IsJudgedAs (text : WrittenTheorem) (st : Theorem) : Type 0 where
    pub root : Root
    pub is_written : Contains written text
    pub assumed : IsAssumedRoot th.sig text.assumes root
    pub reads : IsReadStatement th.sig th.judgments root text st

  -- A code stands in a theorem: at the ninth word in the brackets of a metavariable; at its name where a theorem before it has the name; at
  -- a syntax input that is no spelling of a plain category; at the name of a derivation that is a spelling or is taken; at the
  -- first token of a form; at the theorem's first token; or at a target that is no input. A metavariable without parameters or without
  -- a strict occurrence, a form that may not stand under the root, and another number of targets than the group's stand at the first token. What
  -- speaks of readings is judged of theorems alone each of whose forms has at most 256 tokens and one reading.
  pub data IsStatementFault (found : Code) (token : PlainToken) (detail : List ℕ) : Type 0 where
    too_many_parameters : (text : WrittenTheorem) → found ≡ code.TooMany → detail ≡ codes "parameters" →
        Contains written text → IsNinthWord th.sig (telling_forms text) token → IsStatementFault found token detail
    duplicate : found ≡ code.Duplicate → detail ≡ token.text → IsDeclaredAgain (map (λ text. text.name) written) token → IsStatementFault found token detail
    unknown_word : (text : WrittenTheorem) → found ≡ code.UnknownWord → detail ≡ token.text →
        Contains written text → Contains text.inputs (of_syntax token) → ((cat : ℕ) → IsPlainSpelling th.sig cat token.text → ⊥) →
        IsStatementFault found token detail
    spelled_name : (text : WrittenTheorem) → found ≡ code.NameTaken → detail ≡ token.text →
        Contains written text → IsSpelledName th.sig text.inputs token → IsStatementFault found token detail
    taken_name : (text : WrittenTheorem) → found ≡ code.NameTaken → detail ≡ token.text →
        Contains written text → IsTakenName text.inputs token → IsStatementFault found token detail
    of_form : (text : WrittenTheorem) (form : List PlainToken) (metas : List MetaDecl) (root : Root) →
        Contains written text → Contains (statement_forms text) form → AreNamesOf th.sig (all_as_read (telling_forms text)) metas →
        IsAssumedRoot th.sig text.assumes root →
        IsFormFault th.sig th.judgments (telling_forms text) (names_over root metas) form found token detail → IsStatementFault found token detail
    no_parameters : (text : WrittenTheorem) → found ≡ code.NotStrict → token ≡ text.first →
        Contains written text → IsFirstUntold th.sig (telling_forms text) detail → IsStatementFault found token detail
    not_strict : (text : WrittenTheorem) (st : Theorem) → found ≡ code.NotStrict → token ≡ text.first →
        IsJudgedAs text st → IsFirstUnstrictIn st detail → IsStatementFault found token detail
    needs_context : (text : WrittenTheorem) (st : Theorem) → found ≡ code.NeedsContext → token ≡ text.first →
        IsJudgedAs text st → IsFirstMisplaced th st.scope.root (forms_of st) detail → IsStatementFault found token detail
    target_count : (text : WrittenTheorem) → found ≡ code.TargetCount → detail ≡ text.name.text → token ≡ text.first →
        IsUneven written text → IsStatementFault found token detail
    no_name : (text : WrittenTheorem) → found ≡ code.NoName → detail ≡ token.text →
        Contains written text → AnyByRecursion (IsNoTarget text.inputs token) text.targets → IsStatementFault found token detail

-- the faults of the statements of a file
abbrev pub StatementFaults : List PlainPortion → Signature → Faults PlainToken
StatementFaults portions sig = OverTheory portions sig (IsStatementFault (theorems portions))
