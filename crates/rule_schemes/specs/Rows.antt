-- The rows that a system keeps beside its parts, with a mark for each judgment below each judgment. To be held against
-- docs/definitions.md, 'Systems', on what a judgment without a context asks.
use Rattle.std.specs.Prelude.{◌≡◌, ◌<◌, ◌≤◌, ◌⊎◌, ◌↔◌, ◌^◌, ℕ, Bool, List, length}
use Rattle.binding_terms.specs.Numbered.{AllNumbered}
use Rattle.binding_terms.specs.Reach.{IsMarked}
use Rattle.rule_schemes.specs.Rules.{Rule, Theory, Below, IsSystemSoFar}

-- so many marks, which stand at the numbers that are asked for
pub record AreMarks (n : ℕ) (Asked : ℕ → Type 0) (marks : List Bool) : Type 0 where
  pub long : length marks ≡ n
  pub right : (y : ℕ) → y < n → IsMarked marks y ↔ Asked y

-- so many rows, each with marks at the judgments that stand below its own
pub record AreRows (n : ℕ) (rules : List Rule) (rows : List (List Bool)) : Type 0 where
  pub long : length rows ≡ n
  pub each : AllNumbered (λ x marks. AreMarks n (Below rules x) marks) 0 rows

-- a row with the marks of another one beside its own
pub record HasAlso (old more new : List Bool) : Type 0 where
  pub long : length new ≡ length old
  pub right : (y : ℕ) → y < length old → IsMarked new y ↔ (IsMarked old y ⊎ IsMarked more y)

-- a row that has them where it has a mark at the judgment, and else stays
pub record HasAlsoAt (judgment : ℕ) (old more new : List Bool) : Type 0 where
  pub long : length new ≡ length old
  pub right : (y : ℕ) → y < length old → IsMarked new y ↔ (IsMarked old y ⊎ (IsMarked old judgment × IsMarked more y))

-- what holds of every value of the type of systems
pub record IsKeptSystem (th : Theory) (marks : List (List Bool)) : Type 0 where
  pub so_far : IsSystemSoFar th
  pub rows : AreRows (length th.judgments) th.rules marks
  pub judgments : length th.judgments < 2 ^ 32
  pub rules : length th.rules ≤ 2 ^ 32
