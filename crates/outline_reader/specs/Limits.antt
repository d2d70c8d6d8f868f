-- The limits on what a file may have; to be held against the table of limits.
use Rattle.std.specs.Prelude.{ℕ, ◌+◌, nat_lt, if◌then◌else◌, Option, Some, None}
use Rattle.outline_reader.specs.declared.fault.Limit.{Limit}
use Rattle.outline_reader.specs.declared.fault.Limit.TheVariants as limit
use Rattle.outline_reader.specs.declared.limits.Counts.{Counts}
use Rattle.outline_reader.specs.declared.symbols.Role.{Role}
use Rattle.outline_reader.specs.declared.symbols.Role.TheVariants as role

abbrev pub nothing_counted : Counts
nothing_counted = record { categories = 0; productions = 0; rules = 0; premises = 0; theorems = 0; inputs = 0; targets = 0; step_line = 0; passed = None }

-- one more, and where that is too many the limit that is passed
abbrev pub one_more : ℕ → ℕ → ℕ → Limit → ℕ × Option (ℕ × Limit)
one_more count most line limit = if nat_lt count most then (count + 1, None) else (count, Some (line, limit))

abbrev pub too_deep : ℕ → ℕ → Option (ℕ × Limit)
too_deep level line = if nat_lt 64 level then Some (line, limit.Levels) else None

-- 64 categories, with 64 productions each; 1,024 rules, with 16 premises each; 1,024 theorems, with 16 inputs and 4 targets each; 64 levels
abbrev pub count_role : Counts → Role → ℕ → ℕ → Counts
count_role c role.CategoryName line level = let n = one_more c.categories 64 line limit.Categories in record c { categories = n.0; productions = 1; passed = n.1 }
count_role c role.NewCategory line level = let n = one_more c.categories 64 line limit.Categories in record c { categories = n.0; productions = 1; passed = n.1 }
count_role c role.Or line level = let n = one_more c.productions 64 line limit.Productions in record c { productions = n.0; passed = n.1 }
count_role c role.RulePremise line level = record c { premises = 1 }
count_role c role.Premise line level = let n = one_more c.premises 16 line limit.Premises in record c { premises = n.0; passed = n.1 }
count_role c role.RuleBar line level = let n = one_more c.rules 1024 line limit.Rules in record c { rules = n.0; passed = n.1 }
count_role c role.Bar line level = let n = one_more c.rules 1024 line limit.Rules in record c { rules = n.0; passed = n.1 }
count_role c role.AndWord line level = let n = one_more c.theorems 1024 line limit.Theorems in record c { theorems = n.0; inputs = 0; targets = 0; passed = n.1 }
count_role c role.TheoremWord line level = let n = one_more c.theorems 1024 line limit.Theorems in record c { theorems = n.0; inputs = 0; targets = 0; passed = n.1 }
count_role c role.ForallWord line level = let n = one_more c.inputs 16 line limit.Premises in record c { inputs = n.0; passed = n.1 }
count_role c role.Target line level = let n = one_more c.targets 4 line limit.Targets in record c { targets = n.0; passed = n.1 }
count_role c role.StepName line level = record c { step_line = line }
count_role c role.ProofWord line level = record c { step_line = line }
-- a block's limit is passed at the first token of its step
count_role c role.Cases line level = record c { passed = too_deep level c.step_line }
count_role c role.Induction line level = record c { passed = too_deep level c.step_line }
count_role c role.InversionWord line level = record c { passed = too_deep level line }
count_role c _ line level = c

abbrev pub counted_after : Option (ℕ × Limit) → Counts → Role → ℕ → ℕ → Counts
counted_after (Some passed) c role line level = c
counted_after None c role line level = count_role c role line level

-- what was counted when a token with the role was read; after a limit was passed nothing more is counted
unfoldable pub counted : Counts → Role → ℕ → ℕ → Counts
counted c role line level = counted_after c.passed c role line level
