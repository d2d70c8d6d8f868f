-- How two locals at the same place stand to one another. To be held against docs/notation.md, 'Order'.
use Rattle.std.specs.Prelude.{◌≡◌, ◌<◌, ◌≤◌, ◌+◌, ◌⊎◌, ℕ}
use Rattle.induction_order.specs.Renaming.{IsPairOfLocals}
use Rattle.induction_order.specs.declared.renaming.Standing.{Standing}
use Rattle.induction_order.specs.declared.renaming.Standing.TheVariants.{Same, Different, Around}

-- two numbers are the same or different
abbrev pub IsSame : (one other : ℕ) → Standing → Type 0
IsSame m n Same = m ≡ n
IsSame m n Different = m ≡ n → ⊥
IsSame m n (Around pair) = ⊥

-- the locals stand so to one another, where so many binders stand around the part and so many more inside it
abbrev pub IsStanding : (outer inner a i : ℕ) → Standing → Type 0
IsStanding d b a i Same = ((i < b) × (a ≡ i)) ⊎ ((b + d ≤ i) × (a + d ≡ i))
IsStanding d b a i Different = IsPairOfLocals (λ x y. Unit {0}) d b a i → ⊥
IsStanding d b a i (Around pair) = (pair.part < d) × (a ≡ pair.arg + b) × (i ≡ pair.part + b)
