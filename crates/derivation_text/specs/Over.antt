-- The context value and the inputs of a statement for which a derivation text stands. To be held against docs/notation.md, 'Derivation texts'.
use Rattle.std.specs.Prelude.{◌≡◌, ℕ, List, [], Option, Some, None}
use Rattle.scheme_terms.specs.Forms.{ContextValue}
use Rattle.scheme_terms.specs.declared.scheme.Root.{Root}
use Rattle.scheme_terms.specs.declared.scheme.Root.TheVariants.{Closed, Empty, Whole}
use Rattle.rule_schemes.specs.Rules.{Theory}
use Rattle.rule_schemes.specs.Statement.{Theorem, InputTree}
use Rattle.derivation_text.specs.Inputs.{GivesInputs}
use Rattle.derivation_text.specs.Valid.{Around, Contents, IsText}

-- the empty context, which is a value of no category
abbrev pub no_context : ContextValue
no_context = record { cat = None; entries = [] }

-- the empty form of a category
abbrev pub empty_value : (cat : ℕ) → ContextValue
empty_value c = record { cat = Some c; entries = [] }

-- the value of the context line, or the empty form of the category where there is no such line
abbrev pub line_value : (line : Option ℕ) → (value : ContextValue) → (cat : ℕ) → ContextValue
line_value None value c = empty_value c
line_value (Some d) value c = value

-- The context value for a statement with this root: for one about a context that of the context line, or the empty form; for one without,
-- the empty context.
abbrev pub value_for : Root → Around → ContextValue
value_for Closed around = no_context
value_for (Empty c) around = empty_value c.0
value_for (Whole c) around = line_value around.value.cat around.value c.0

-- a text stands for a context value and inputs of a statement
pub record StandsForInputsOver (th : Theory) (st : Theorem) (source : List ℕ) (value : ContextValue) (xs : List InputTree) : Type 0 where
  pub around : Around
  pub contents : Contents
  pub text : IsText th source around contents
  pub inputs : GivesInputs th st around contents xs
  pub value_is : value ≡ value_for st.scope.root around
