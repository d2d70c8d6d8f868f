-- The first of the numbers for which something is so.
use Rattle.std.proofs.Common.{◌≡◌, ℕ, ◌<◌, ◌≤◌, ◌⊎◌, inl, inr, arith}
use Rattle.std.proofs.lemmas.Bool.{cases_lt}
use Rattle.rule_schemes.specs.Reading.{IsFirst}

pub IsFirst_once : (P : ℕ → Type 0) (c d : ℕ) → IsFirst P c → IsFirst P d → c ≡ d
IsFirst_once P c d one other = go (cases_lt c d) (cases_lt d c)
  where
    go : (c < d) ⊎ (d ≤ c) → (d < c) ⊎ (c ≤ d) → c ≡ d
    go (inl lt) k = absurd (other.first c lt one.here)
    go (inr h) (inl lt) = absurd (one.first d lt other.here)
    go (inr h) (inr k) = omega (arith, h, k)
