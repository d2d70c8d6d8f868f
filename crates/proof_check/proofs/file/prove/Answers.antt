use Rattle.std.proofs.Common.{◌≡◌, ◌∷◌, ◌++◌, Err, sym, ap, ◌∙◌}
use Rattle.std.specs.Vec.Iter.{into_iter_items}
use Rattle.core_proofs.specs.Kept.{kept_theory, kept_statements}
use Rattle.proof_check.proofs.LeadsLemmas.{no_proofs}
use Rattle.proof_check.proofs.file.prove.Goals as goal

pub returns-in-Err-Refused : goal.returns-in-Err-Refused
returns-in-Err-Refused c =
    let at = c.loop-step in
    let gone : into_iter_items at.step-iterator ≡ c.in-Some.step ∷ into_iter_items c.next.new.self = c.in-Some.ensures.steps.0 in
    let never = c.accept_step.ensures.refused c.in-Err-Refused.field-0-0 (c.in-Err-Refused.is ∙ ap Err c.in-Err-Refused.field-0-is) in
    no_proofs at.proving _ _ at.yielded c.in-Some.step (into_iter_items c.next.new.self) c.args.steps.items
    (ap kept_theory at.invariant.1) (ap kept_statements at.invariant.1) (ap (λ kept. kept.steps) at.invariant.1)
    (sym at.invariant.0 ∙ ap (λ rest. at.yielded ++ rest) gone) never
