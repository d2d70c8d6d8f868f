use Rattle.scheme_terms.specs.View.{scheme}
use Rattle.induction_order.specs.Binders.{count}
use Rattle.induction_order.proofs.Counts.{count-Outermost}
use Rattle.induction_order.proofs.Renamings.{consistent_renamed}
use Rattle.induction_order.proofs.renaming.is_renamed.Goals as goal

pub returns : goal.returns
returns c =
    let same = consistent_renamed (count c.args.outer.now) (scheme c.args.arg.now) (scheme c.args.part.now) in
    let tells = rw count-Outermost at c.is_consistent.ensures in
    (λ h. same.0 (tells.0 h), λ h. tells.1 (same.1 h))
