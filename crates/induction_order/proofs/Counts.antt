-- What stacked binders count.
use Rattle.std.proofs.Common.{rules, ◌≡◌}
use Rattle.induction_order.specs.Binders.{count}
use Rattle.induction_order.specs.declared.binders.Binders.{Outermost, the_lemmas}

pub count-Outermost : count Outermost ≡ 0
count-Outermost = search (rules, the_lemmas)
