use Rattle.std.proofs.Common.{◌∙◌, sym, ap}
use Rattle.derivation_check.specs.declared.deriv.Node.{Node}
use Rattle.derivation_check.specs.Parts.{premises_of}
use Rattle.derivation_check.proofs.Sums.{premises_kept}
use Rattle.derivation_check.proofs.deriv.Deriv.subtrees.Goals as goal

pub returns : goal.returns
returns c = c.as_slice.ensures.value ∙ ap (λ (n : Node). n.premises.items) c.deref.ensures ∙ sym (premises_kept _ c.self.invariant) ∙ ap premises_of c.self.view_is
