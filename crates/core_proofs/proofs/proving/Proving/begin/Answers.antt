use Rattle.std.proofs.Common.{◌≡◌, map, Some, None, slice_get, ap, sym, subst, ◌∙◌}
use Rattle.std.specs.Option.{option_copied}
use Rattle.scheme_terms.specs.View.{names}
use Rattle.rule_schemes.specs.View.{judgment_scheme, statement_input}
use Rattle.core_proofs.specs.Kept.{Kept, IsProving}
use Rattle.core_proofs.specs.Proof.{within, given_judgments}
use Rattle.core_proofs.specs.Step.{begin_theorem}
use Rattle.core_proofs.specs.declared.step.CoreStep.TheVariants.{Begin}
use Rattle.core_proofs.proofs.Refusing.{IsRefused, kept_of, refuse_begin_inside, refuse_begin_other, refuse_begin_past, begins_at, proceeds, provable_at}
use Rattle.core_proofs.proofs.Telling.{told, begin_inside, begin_other, begin_past}
use Rattle.core_proofs.proofs.proving.Proving.begin.Goals as goal

pub returns-then-self-clause-refused : goal.returns-then-self-clause-refused
returns-then-self-clause-refused c =
    λ fault is. subst (λ (k : Kept). IsRefused k (begin_theorem c.args.theorem.0)) c.self.view_is
    (refuse_begin_inside c.self.inside c.self.invariant c.args.theorem.0 c.if-self.true)

pub returns-then-theorem-self-clause-refused : goal.returns-then-theorem-self-clause-refused
returns-then-theorem-self-clause-refused c =
    λ fault is. subst (λ (k : Kept). IsRefused k (begin_theorem c.args.theorem.0)) c.self.view_is
    (refuse_begin_other c.self.inside c.self.invariant c.args.theorem.0 c.if-self.false c.if-theorem-self.true)

pub returns-in-None-clause-refused : goal.returns-in-None-clause-refused
returns-in-None-clause-refused c =
    let past : slice_get c.self.inside.statements.items c.self.inside.ended ≡ None =
    ap (λ xs. slice_get xs c.self.inside.ended) (sym c.as_slice.ensures.value) ∙ sym c.at.ensures ∙ ap option_copied c.in-None.is in
    λ fault is. subst (λ (k : Kept). IsRefused k (begin_theorem c.args.theorem.0)) c.self.view_is
    (refuse_begin_past c.self.inside c.self.invariant c.args.theorem.0 c.if-self.false past)

pub proof_scope-requires : goal.proof_scope-requires
proof_scope-requires c =
    let here : slice_get c.self.inside.statements.items c.self.inside.ended ≡ Some c.in-Some.begun.now =
    ap (λ xs. slice_get xs c.self.inside.ended) (sym c.as_slice.ensures.value) ∙ sym c.at.ensures ∙ ap option_copied c.in-Some.is in
    record { last = (provable_at (kept_of c.self.inside) _ c.self.inside.ended c.in-Some.begun.now c.self.invariant here).goal_names_last }

pub invariant_of-self-2 : goal.invariant_of-self-2
invariant_of-self-2 c =
    let here : slice_get c.self.inside.statements.items c.self.inside.ended ≡ Some c.in-Some.begun.now =
    ap (λ xs. slice_get xs c.self.inside.ended) (sym c.as_slice.ensures.value) ∙ sym c.at.ensures ∙ ap option_copied c.in-Some.is in
    let given : map judgment_scheme c.in_ok-forms.forms.items ≡ given_judgments (map statement_input c.in-Some.begun.now.inputs) =
    c.in_ok-forms.ensures ∙ ap (λ xs. given_judgments (map statement_input xs)) c.as_slice-2.ensures in
    subst (λ js. IsProving (record { system = c.self.inside.system; statements = c.self.inside.statements.items; steps = c.push.new.self.items })
    (within c.self.inside.ended (names c.in_ok-scope.scope) js None)) (sym given)
    (proceeds (kept_of c.self.inside) _ _ c.push.new.self.items (Begin c.args.theorem) c.self.invariant c.in_ok-push.ensures.items
    (begins_at c.self.inside c.self.invariant c.args.theorem.0 c.in-Some.begun.now (names c.in_ok-scope.scope) c.if-self.false c.if-theorem-self.false here c.in_ok-scope.ensures))

pub returns-then-self-clause-told : goal.returns-then-self-clause-told
returns-then-self-clause-told c =
    told (kept_of c.self.inside) _ (begin_theorem c.args.theorem.0) _ _ c.self.view_is c.refusal.ensures
    (begin_inside c.self.inside c.self.invariant c.args.theorem.0 c.if-self.true)

pub returns-then-theorem-self-clause-told : goal.returns-then-theorem-self-clause-told
returns-then-theorem-self-clause-told c =
    told (kept_of c.self.inside) _ (begin_theorem c.args.theorem.0) _ _ c.self.view_is c.refusal-then-theorem-self.ensures
    (begin_other c.self.inside c.self.invariant c.args.theorem.0 c.if-self.false c.if-theorem-self.true)

pub returns-in-None-clause-told : goal.returns-in-None-clause-told
returns-in-None-clause-told c =
    let past : slice_get c.self.inside.statements.items c.self.inside.ended ≡ None =
    ap (λ xs. slice_get xs c.self.inside.ended) (sym c.as_slice.ensures.value) ∙ sym c.at.ensures ∙ ap option_copied c.in-None.is in
    told (kept_of c.self.inside) _ (begin_theorem c.args.theorem.0) _ _ c.self.view_is c.refusal-in-None.ensures
    (begin_past c.self.inside c.self.invariant c.args.theorem.0 c.if-self.false past)
