use Rattle.std.proofs.Common.{length, sym, ◌∙◌}
use Rattle.binding_terms.proofs.Lists.{take_map}
use Rattle.scheme_terms.specs.View.{scheme_entry}
use Rattle.proof_kernel.proofs.equating.begin_with.Goals as goal

pub returns-then-front-entries : goal.returns-then-front-entries
returns-then-front-entries c =
    let front = sym (take_map scheme_entry (length c.args.front.now) c.args.entries.now) in
    (λ h. front ∙ c.same_entries.ensures.0 h, λ h. c.same_entries.ensures.1 (sym front ∙ h))
