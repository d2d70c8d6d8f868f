use Rattle.scheme_terms.specs.View.{scheme}
use Rattle.induction_order.proofs.Counts.{count-Outermost}
use Rattle.induction_order.proofs.RenamedParts.{has_renamed_part}
use Rattle.induction_order.proofs.term.is_renamed_part.Goals as goal

pub returns : goal.returns
returns c =
    let same = has_renamed_part (scheme c.args.arg.now) (scheme c.args.value.now) in
    let tells = rw count-Outermost at c.has_renamed.ensures in
    (λ h. same.0 (tells.0 h), λ h. tells.1 (same.1 h))
