use Rattle.std.proofs.Common.{inl, inr, sym, true≢false, ◌∙◌}
use Rattle.rule_schemes.proofs.touching.rule_touches.Goals as goal

pub returns-else-has_touching_name : goal.returns-else-has_touching_name
returns-else-has_touching_name c =
    let told = rw c.as_slice-else-has_touching_name.ensures at c.premises_touch.ensures in
    let named = rw c.as_slice.ensures at c.has_touching_name.ensures in
    (λ yes. inr (told.0 yes), λ either. elim either [ inl h ↦ absurd (true≢false (sym (named.1 h) ∙ c.if-has_touching_name.false)) | inr q ↦ told.1 q ])
