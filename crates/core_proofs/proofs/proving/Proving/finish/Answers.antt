use Rattle.std.proofs.Common.{◌≡◌, length, sym, subst, ◌∙◌, arith}
use Rattle.std.specs.Prelude.{vec_len}
use Rattle.core_proofs.specs.Kept.{Kept, kept_theory, kept_statements, kept_steps}
use Rattle.core_proofs.specs.Proof.{Proves}
use Rattle.core_proofs.proofs.Refusing.{unended_inside, unended_more}
use Rattle.core_proofs.proofs.proving.Proving.finish.Goals as goal

pub returns-then-self-clause-ended : goal.returns-then-self-clause-ended
returns-then-self-clause-ended c =
    let open_still = subst (λ (k : Kept). Proves (kept_theory k) (kept_statements k) (kept_steps k) → ⊥) c.self.view_is
    (unended_inside c.self.inside c.self.invariant c.if-self.true) in
    (λ e. let no : ⊥ = cc in absurd no, λ proves. absurd (open_still proves))

pub returns-then-self-len-clause-ended : goal.returns-then-self-len-clause-ended
returns-then-self-len-clause-ended c =
    let counted : c.len.result ≡ length c.self.inside.statements.items =
    c.len.ensures ∙ (let e : vec_len c.self.inside.statements ≡ length c.self.inside.statements.items = omega (arith, c.self.inside.statements.ok.0) in e) in
    let open_still = subst (λ (k : Kept). Proves (kept_theory k) (kept_statements k) (kept_steps k) → ⊥) c.self.view_is
    (unended_more c.self.inside c.self.invariant c.if-self.false (λ same. c.if-self-len.true (same ∙ sym counted))) in
    (λ e. let no : ⊥ = cc in absurd no, λ proves. absurd (open_still proves))
