use Rattle.std.proofs.Common.{refl, inl, inr}
use Rattle.sy_base.proofs.FirstLemmas.{told_or_other}
use Rattle.sy_base.proofs.first_fault.earlier_of.Goals as goal

pub returns-then-is_told_first : goal.returns-then-is_told_first
returns-then-is_told_first g c = inl (refl, record { told = c.is_told_first.ensures.0 c.if-is_told_first.true })

pub returns : goal.returns
returns g c = inr (refl, record { told = told_or_other c.args.found.code c.args.other.code c.args.found.place c.args.other.place c.is_told_first.result c.is_told_first.ensures c.if-is_told_first.false })
