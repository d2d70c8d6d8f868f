-- What a source stands for, once and for all.
use Rattle.std.specs.Prelude.{◌≡◌, ◌↔◌, List, ℕ}
use Rattle.scheme_terms.specs.Forms.{ContextValue}
use Rattle.sy_base.specs.FirstFault.{IsFaultless}
use Rattle.sy_base.specs.Tokens.{PlainToken, AreTokens}
use Rattle.rule_schemes.specs.Rules.{Theory, IsSystemSoFar}
use Rattle.rule_schemes.specs.Statement.{Theorem, InputTree, IsTheoremRoot}
use Rattle.derivation_text.specs.Bare.{HasNoContexts, TakesDerivations}
use Rattle.derivation_text.specs.Fault.{IsLineFault}
use Rattle.derivation_text.specs.Inputs.{GivesInputs, StandsForInputs}
use Rattle.derivation_text.specs.Lines.{text_lines}
use Rattle.derivation_text.specs.Over.{no_context, StandsForInputsOver}
use Rattle.derivation_text.specs.Valid.{Around, Contents, IsText}

-- a source is a valid text in one way at most
abbrev pub TextsAreUnique : Type 0
TextsAreUnique =
    (th : Theory) (source : List ℕ) (around other : Around) (c d : Contents) → IsSystemSoFar th → HasNoContexts th → IsText th source around c → IsText th source other d
    → (around ≡ other) × (c ≡ d)

-- a valid text stands for the inputs that its `apply` line gives, and for no other
abbrev pub TextGivesInputs : Type 0
TextGivesInputs =
    (th : Theory) (st : Theorem) (source : List ℕ) (around : Around) (c : Contents) (xs : List InputTree) → IsSystemSoFar th → HasNoContexts th → IsText th source around c
    → (GivesInputs th st around c xs → StandsForInputs th st source xs) × (StandsForInputs th st source xs → GivesInputs th st around c xs)

-- a source stands for one list of inputs at most
abbrev pub InputsAreUnique : Type 0
InputsAreUnique =
    (th : Theory) (st : Theorem) (source : List ℕ) (xs ys : List InputTree) → IsSystemSoFar th → HasNoContexts th → TakesDerivations st
    → StandsForInputs th st source xs → StandsForInputs th st source ys → xs ≡ ys

-- a text stands for inputs over some context value where it stands for them at all
abbrev pub TextGivesValue : Type 0
TextGivesValue =
    (th : Theory) (st : Theorem) (source : List ℕ) (xs : List InputTree) →
    StandsForInputs th st source xs ↔ ((value : ContextValue) × StandsForInputsOver th st source value xs)

-- over a theory without contexts this is the empty context
abbrev pub ValueIsEmpty : Type 0
ValueIsEmpty =
    (th : Theory) (st : Theorem) (source : List ℕ) (value : ContextValue) (xs : List InputTree) → HasNoContexts th → IsTheoremRoot th.sig st.scope.root →
    StandsForInputsOver th st source value xs ↔ ((value ≡ no_context) × StandsForInputs th st source xs)

-- no fault stands at a line of a valid text
abbrev pub ValidLinesHaveNoFault : Type 0
ValidLinesHaveNoFault =
    (th : Theory) (source : List ℕ) (tokens : List PlainToken) (around : Around) (c : Contents) → IsSystemSoFar th → HasNoContexts th →
    AreTokens source tokens → IsText th source around c → IsFaultless (IsLineFault th (text_lines tokens))
