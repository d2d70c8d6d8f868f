-- How many variables the binders around a place bind. To be held against docs/notation.md, 'Order'.
use Rattle.std.specs.Prelude.{ℕ, ◌+◌}
use Rattle.induction_order.specs.declared.binders.Binders.{Binders, fold-Binders}
use Rattle.induction_order.specs.declared.binders.Binders.TheOpen.{Binders-F}

abbrev pub level : Binders-F ℕ → ℕ
level Binders-F.Outermost = 0
level (Binders-F.Under binds outer) = outer.now + binds

-- how many variables they bind together
abbrev pub count : Binders → ℕ
count = fold-Binders ℕ level
