-- Schemes in which each metavariable has a number below another.
use Rattle.std.specs.Prelude.{ℕ, ◌<◌}
use Rattle.scheme_terms.specs.SchemeTree.{SchemeTree, meta, known, local, con, Values, no_values, value, Parts, no_parts, part}

-- each metavariable of the scheme has a number below n
abbrev mutual
  pub IsBelow : (n : ℕ) → SchemeTree → Type 0
  IsBelow n (meta m vs) = (m < n) × ValuesBelow n vs
  IsBelow n (known k) = Unit {0}
  IsBelow n (local i) = Unit {0}
  IsBelow n (con p xs) = PartsBelow n xs

  pub ValuesBelow : (n : ℕ) → Values → Type 0
  ValuesBelow n no_values = Unit {0}
  ValuesBelow n (value s vs) = IsBelow n s × ValuesBelow n vs

  pub PartsBelow : (n : ℕ) → Parts → Type 0
  PartsBelow n no_parts = Unit {0}
  PartsBelow n (part binds s xs) = IsBelow n s × PartsBelow n xs
