-- What holds of fitting inputs, as the laws of this crate state it. To be held against docs/notation.md, 'Runs'.
use Rattle.std.specs.Prelude.{◌≡◌, ◌↔◌, List, [], map}
use Rattle.std.specs.List.{AllByRecursion}
use Rattle.scheme_terms.specs.Forms.{ContextValue}
use Rattle.rule_schemes.specs.Rules.{Theory, IsSystemSoFar}
use Rattle.rule_schemes.specs.Derivation.{judgment, Derives}
use Rattle.rule_schemes.specs.Statement.{Theorem, InputTree, derived, term, IsStatement, HasNoFault, Instantiates}
use Rattle.derivation_check.specs.Fitting.{GivenForm, judged, written, IsFit}
use Rattle.derivation_check.specs.declared.inputs.Fit.TheVariants.{Fits}

-- what decides whether an input fits: the judgment that the tree carries, or the term
abbrev pub form_of_input : InputTree → GivenForm
form_of_input (derived d) = judged (judgment d)
form_of_input (term t) = written t

-- a tree that is given is a derivation of its judgment
abbrev pub IsDerivedInput : Theory → InputTree → Type 0
IsDerivedInput th (derived d) = Derives th d
IsDerivedInput th (term t) = Unit {0}

-- Where each tree is a derivation of its judgment, and the statement has no known variable, the judgments and terms fit exactly where
-- the trees and terms instantiate the statement.
abbrev pub FitsWhereInstantiated : Type 0
FitsWhereInstantiated =
    (th : Theory) (st : Theorem) (v : ContextValue) (xs : List InputTree) →
    IsSystemSoFar th → st.scope.knowns ≡ [] → IsStatement th st → HasNoFault th st → AllByRecursion (IsDerivedInput th) xs →
    IsFit th st v (map form_of_input xs) Fits ↔ Instantiates th st v xs
