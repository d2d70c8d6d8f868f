-- The inputs of a statement for which a derivation text stands. To be held against docs/notation.md, 'Derivation texts'.
use Rattle.std.specs.Prelude.{◌≡◌, ◌≤◌, ℕ, ◌+◌, List, [], ◌∷◌, Some, slice_get, MatchOption}
use Rattle.std.specs.List.{AllByRecursion}
use Rattle.scheme_terms.specs.SchemeTree.{SchemeTree}
use Rattle.scheme_terms.specs.declared.scheme.Root.{Root}
use Rattle.scheme_terms.specs.declared.scheme.Root.TheVariants.{Closed, Empty, Whole}
use Rattle.scheme_terms.specs.Instance.{instance_of}
use Rattle.rule_schemes.specs.Rules.{Theory}
use Rattle.rule_schemes.specs.Derivation.{size, height}
use Rattle.rule_schemes.specs.Statement.{Theorem, StatementInput, given, syntax_input, InputTree, derived, term}
use Rattle.rule_schemes.specs.Said.{want_term, a_term}
use Rattle.rule_schemes.specs.AtValue.{no_names}
use Rattle.derivation_text.specs.Forms.{Argument, by_name, enclosed}
use Rattle.derivation_text.specs.Valid.{Around, nothing_around, ReadsAlone, tree_named, Contents, applied, IsText}

-- What is around the terms of a statement: what the context line gives, but for a statement without a context, for which such a line names a
-- value and no more.
abbrev pub around_for : Root → Around → Around
around_for Closed around = nothing_around
around_for (Empty c) around = around
around_for (Whole c) around = around

-- an argument stands for an input: a name for its tree, a form in parentheses for the one term that it reads as
abbrev pub StandsFor : Theory → Theorem → Around → Contents → StatementInput → Argument → InputTree → Type 0
StandsFor th st around c (given j) (by_name w) (derived d) = tree_named c.named w ≡ Some d
StandsFor th st around c (syntax_input m) (enclosed form) (term t) =
    MatchOption (slice_get st.scope.metas m) ⊥
    (λ decl. (s : SchemeTree) × ReadsAlone th (around_for st.scope.root around) (want_term decl.cat.0 ∷ []) form 0 (a_term s)
    × (t ≡ instance_of (no_names (around_for st.scope.root around).value) 0 s))
StandsFor th st around c _ _ _ = ⊥

-- one argument for each input
abbrev pub StandForAll : Theory → Theorem → Around → Contents → List StatementInput → List Argument → List InputTree → Type 0
StandForAll th st around c [] [] [] = Unit {0}
StandForAll th st around c (i ∷ is) (a ∷ rest) (x ∷ xs) = StandsFor th st around c i a x × StandForAll th st around c is rest xs
StandForAll th st around c _ _ _ = ⊥

-- the limits on the derivations that are given: their nodes together, and the height of each
abbrev pub NODES : ℕ
NODES = 100000

abbrev pub HEIGHT : ℕ
HEIGHT = 4096

abbrev pub nodes : List InputTree → ℕ
nodes [] = 0
nodes (derived d ∷ xs) = size d + nodes xs
nodes (term t ∷ xs) = nodes xs

abbrev pub IsLow : InputTree → Type 0
IsLow (derived d) = height d ≤ HEIGHT
IsLow (term t) = Unit {0}

pub record AreWithin (xs : List InputTree) : Type 0 where
  pub nodes_are : nodes xs ≤ NODES
  pub low : AllByRecursion IsLow xs

-- the inputs that the `apply` line of a text gives for a statement
pub record GivesInputs (th : Theory) (st : Theorem) (around : Around) (c : Contents) (xs : List InputTree) : Type 0 where
  pub args : List Argument
  pub last : c.last ≡ applied args
  pub stand : StandForAll th st around c st.inputs args xs
  pub within : AreWithin xs

-- a text stands for inputs of a statement
pub record StandsForInputs (th : Theory) (st : Theorem) (source : List ℕ) (xs : List InputTree) : Type 0 where
  pub around : Around
  pub contents : Contents
  pub text : IsText th source around contents
  pub inputs : GivesInputs th st around contents xs
