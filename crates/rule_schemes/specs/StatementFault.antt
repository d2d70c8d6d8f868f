-- Why a statement is at fault, the first cause that holds. To be held against docs/definitions.md, 'Statements'.
use Rattle.std.specs.Prelude.{◌≡◌, ◌⊎◌, ℕ, List, [], ◌∷◌, ◌++◌}
use Rattle.scheme_terms.specs.declared.scheme.Root.{Root}
use Rattle.rule_schemes.specs.declared.fault.StatementFault.{StatementFault}
use Rattle.rule_schemes.specs.declared.fault.StatementFault.TheVariants.{NotStrict, NeedsContext}
use Rattle.rule_schemes.specs.Rules.{JudgmentScheme, Theory, MayStand}
use Rattle.rule_schemes.specs.Statement.{StatementInput, given, syntax_input, Theorem}
use Rattle.rule_schemes.specs.Strict.{IsFirstUnstrictName, AllNamesStrict}

-- the forms of inputs that are derivations
abbrev pub given_forms : List StatementInput → List JudgmentScheme
given_forms [] = []
given_forms (given j ∷ inputs) = j ∷ given_forms inputs
given_forms (syntax_input m ∷ inputs) = given_forms inputs

-- the forms of a statement, the inputs' first
abbrev pub statement_forms : Theorem → List JudgmentScheme
statement_forms st = given_forms st.inputs ++ st.outputs

-- the form may stand under the root
abbrev pub FormMayStand : Theory → Root → JudgmentScheme → Type 0
FormMayStand th root form = MayStand th root form.context.root form.judgment

-- the first form that may not stand is of this judgment
abbrev pub IsFirstOutOfPlace : Theory → Root → List JudgmentScheme → (judgment : ℕ) → Type 0
IsFirstOutOfPlace th root [] j = ⊥
IsFirstOutOfPlace th root (form ∷ forms) j =
    ((form.judgment ≡ j) × (FormMayStand th root form → ⊥)) ⊎ (FormMayStand th root form × IsFirstOutOfPlace th root forms j)

-- a name lacks its strict occurrence, or all have theirs and a form may not stand
abbrev pub IsStatementFault : Theory → Theorem → StatementFault → Type 0
IsStatementFault th st (NotStrict m) = IsFirstUnstrictName st m.0
IsStatementFault th st (NeedsContext j) = AllNamesStrict st × IsFirstOutOfPlace th st.scope.root (statement_forms st) j.0
