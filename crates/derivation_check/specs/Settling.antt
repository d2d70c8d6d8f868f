-- What pieces ask metavariables to stand for. No public clause cites it.
use Rattle.std.specs.Prelude.{◌≡◌, ◌⊎◌, ◌<◌, ℕ, List, length, Option, Some, None, MatchOption}
use Rattle.binding_terms.specs.Numbered.{AnyByRecursion, AllNumbered}
use Rattle.binding_terms.specs.Tree.{Tree}
use Rattle.scheme_terms.specs.SchemeTree.{SchemeTree}
use Rattle.scheme_terms.specs.Embedding.{embedded}
use Rattle.scheme_terms.specs.Demands.{Demands}
use Rattle.std.specs.List.{AllByRecursion}
use Rattle.rule_schemes.specs.Rules.{Theory}
use Rattle.rule_schemes.specs.Statement.{StatementInput, Theorem, IsStatementInput}
use Rattle.derivation_check.specs.Fitting.{Piece, IsSettled}

abbrev pub PieceDemands : (m : ℕ) → SchemeTree → Piece → Type 0
PieceDemands m v p = Demands m p.locals p.pattern (embedded p.target) v

abbrev pub PiecesDemand : (m : ℕ) → List Piece → SchemeTree → Type 0
PiecesDemand m ps v = AnyByRecursion (PieceDemands m v) ps

-- a value that the pieces ask for where the metavariable is settled, else none
abbrev pub IsValueFor : List StatementInput → List Piece → (m : ℕ) → Option Tree → Type 0
IsValueFor inputs ps m o = (IsSettled inputs m × MatchOption o ⊥ (λ t. PiecesDemand m ps (embedded t))) ⊎ ((IsSettled inputs m → ⊥) × (o ≡ None))

-- it is settled, and nothing is asked of it
abbrev pub HasNoValue : List StatementInput → List Piece → (m : ℕ) → Type 0
HasNoValue inputs ps m = IsSettled inputs m × ((v : SchemeTree) → PiecesDemand m ps v → ⊥)

-- such values for so many metavariables, or one that is settled and of which nothing is asked
abbrev pub AreValuesFor : List StatementInput → List Piece → (count : ℕ) → Option (List (Option Tree)) → Type 0
AreValuesFor inputs ps count None = (m : ℕ) × (m < count) × HasNoValue inputs ps m
AreValuesFor inputs ps count (Some values) = (length values ≡ count) × AllNumbered (IsValueFor inputs ps) 0 values

-- inputs over the statement's scope
abbrev pub AreFormsOf : Theory → Theorem → List StatementInput → Type 0
AreFormsOf th st inputs = AllByRecursion (IsStatementInput th st) inputs
