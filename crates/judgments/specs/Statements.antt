-- The statements for which the theorems of a file stand. To be held against docs/notation.md, 'Rules and statements'.
use Rattle.std.specs.Prelude.{◌≡◌, ◌≢◌, ◌⊎◌, ℕ, List, [], ◌∷◌, length, Option, Some, None}
use Rattle.std.specs.List.{AllByRecursion, AllZip}
use Rattle.binding_terms.specs.Signature.{Signature}
use Rattle.sy_base.specs.Tokens.{PlainToken}
use Rattle.outline_reader.specs.Plain.{PlainPortion, PlainArgument, name_alone, enclosed}
use Rattle.scheme_terms.specs.declared.scheme.Root.{Root}
use Rattle.scheme_terms.specs.declared.scheme.Root.TheVariants.{Closed, Whole}
use Rattle.rule_schemes.specs.Reading.{word, IsNameOf, IsVariableWord, IsCategoryWord}
use Rattle.rule_schemes.specs.Rules.{Theory}
use Rattle.rule_schemes.specs.Statement.{Theorem, IsStatement, IsTheoremScope, IsWithinEntries, HasNoFault}
use Rattle.judgments.specs.Texts.{TheoremText, as_read, theorems_in}
use Rattle.judgments.specs.Theory.{a_theorem, AreNamedApart}
use Rattle.judgments.specs.Written.{WrittenInput, for_derivation, for_term, IsStatementOf}

-- the root of a theorem: the whole context of the category with exactly the name that it assumes, or none
abbrev pub IsAssumedRoot : Signature → Option PlainToken → Root → Type 0
IsAssumedRoot sig None Closed = Unit {0}
IsAssumedRoot sig (Some token) (Whole c) = IsNameOf sig c.0 token.text
IsAssumedRoot sig _ _ = ⊥

-- the word is no spelling of a category or of a variable
abbrev pub IsFreeName : Signature → List ℕ → Type 0
IsFreeName sig w = (c : ℕ) → (IsCategoryWord sig.cats c w → ⊥) × (IsVariableWord sig c w → ⊥)

-- the word of a target: a name, alone or in parentheses
abbrev pub IsTargetWord : PlainArgument → List ℕ → Type 0
IsTargetWord (name_alone name) w = name.text ≡ w
IsTargetWord (enclosed form) w = as_read form ≡ word w ∷ []

-- the word `_` (95), which may be given again
abbrev pub IsNameless : List ℕ → Type 0
IsNameless w = w ≡ 95 ∷ []

-- the name of an input that is a derivation may be given: it is no spelling of a category or variable
abbrev pub IsNamedFreely : Signature → WrittenInput → Type 0
IsNamedFreely sig (for_derivation name form) = IsFreeName sig name
IsNamedFreely sig (for_term w) = Unit {0}

abbrev pub IsNamedOtherwise : List ℕ → WrittenInput → Type 0
IsNamedOtherwise w (for_derivation name form) = w ≢ name
IsNamedOtherwise w (for_term v) = Unit {0}

-- no name of an input that is a derivation is given twice, but for `_`
abbrev pub AreNamedDifferently : List WrittenInput → Type 0
AreNamedDifferently [] = Unit {0}
AreNamedDifferently (for_derivation name form ∷ inputs) = (IsNameless name ⊎ AllByRecursion (IsNamedOtherwise name) inputs) × AreNamedDifferently inputs
AreNamedDifferently (for_term w ∷ inputs) = AreNamedDifferently inputs

-- the statement for which a theorem of the file stands
pub record IsTheoremOf (th : Theory) (text : TheoremText) (st : Theorem) : Type 0 where
  pub root : IsAssumedRoot th.sig text.assumes st.scope.root
  pub targets : List (List ℕ)
  pub target_words : AllZip IsTargetWord text.targets targets
  pub written : IsStatementOf th.sig th.judgments st.scope.root text.name text.inputs text.outputs targets text.group st
  pub free_names : AllByRecursion (IsNamedFreely th.sig) text.inputs
  pub different_names : AreNamedDifferently text.inputs
  pub scope : IsTheoremScope th st.scope
  pub forms : IsStatement th st
  pub entries : IsWithinEntries st
  pub no_fault : HasNoFault th st

-- the theorems of one group have as many targets
abbrev pub AreTargetsEven : List TheoremText → Type 0
AreTargetsEven [] = Unit {0}
AreTargetsEven (t ∷ ts) = AllByRecursion (λ u. u.group ≡ t.group → length u.targets ≡ length t.targets) ts × AreTargetsEven ts

-- The statements are those for which the theorems of the portions stand, in order.
pub record AreStatementsOf (portions : List PlainPortion) (th : Theory) (statements : List Theorem) : Type 0 where
  pub each : AllZip (IsTheoremOf th) (theorems_in 0 portions) statements
  pub theorem_names : AreNamedApart a_theorem portions
  pub targets : AreTargetsEven (theorems_in 0 portions)
