use Rattle.std.proofs.Common.{length, sym, ◌∙◌}
use Rattle.binding_terms.proofs.Lists.{take_map}
use Rattle.scheme_terms.specs.View.{ground_entry}
use Rattle.derivation_check.proofs.pieces.begins_with.Goals as goal

pub returns : goal.returns
returns c =
    let front = take_map ground_entry (length c.args.first.now) c.args.entries.now in
    (λ h. sym front ∙ c.same_entries.ensures.0 h, λ e. c.same_entries.ensures.1 (front ∙ e))
