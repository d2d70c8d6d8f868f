use Rattle.std.proofs.Common.{◌≡◌, ◌+◌, map, Some, None, slice_get, ap, sym, subst, ◌∙◌, true≢false, arith}
use Rattle.std.specs.Prelude.{option_map}
use Rattle.std.specs.Option.{option_copied}
use Rattle.std.proofs.lemmas.Option.{slice_get_within}
use Rattle.rule_schemes.specs.View.{judgment_scheme}
use Rattle.core_proofs.specs.Kept.{Kept, form_at}
use Rattle.core_proofs.specs.Proof.{outside}
use Rattle.core_proofs.specs.Step.{end_theorem}
use Rattle.core_proofs.specs.declared.step.CoreStep.TheVariants.{End}
use Rattle.rule_schemes.proofs.PlainLemmas.{plain_system}
use Rattle.core_proofs.proofs.Refusing.{IsRefused, kept_of, refuse_end_outside, refuse_end_silent, stated_within, refuse_end_goal, ends_at, proceeds, provable_at, plain_at, plain_last}
use Rattle.core_proofs.proofs.Telling.{told, end_outside, end_silent, end_goal}
use Rattle.core_proofs.proofs.proving.Proving.end.Goals as goal

pub returns-then-not-self-clause-refused : goal.returns-then-not-self-clause-refused
returns-then-not-self-clause-refused c =
    λ fault is. subst (λ (k : Kept). IsRefused k (end_theorem c.args.line)) c.self.view_is
    (refuse_end_outside c.self.inside c.self.invariant c.args.line c.if-not-self.true)

pub returns-in-None-clause-refused : goal.returns-in-None-clause-refused
returns-in-None-clause-refused c =
    let silent : form_at (map judgment_scheme c.self.inside.forms.items) c.self.inside.last ≡ None =
    ap (λ fs. form_at (map judgment_scheme fs) c.self.inside.last) (sym c.as_slice.ensures.value) ∙ sym c.last_form.ensures ∙ ap (option_map (λ j. judgment_scheme j.now)) c.in-None.is in
    λ fault is. subst (λ (k : Kept). IsRefused k (end_theorem c.args.line)) c.self.view_is
    (refuse_end_silent c.self.inside c.self.invariant c.args.line c.if-not-self.false silent)

pub unreachable-requires : goal.unreachable-requires
unreachable-requires c =
    let past : slice_get c.self.inside.statements.items c.self.inside.ended ≡ None =
    ap (λ xs. slice_get xs c.self.inside.ended) (sym c.as_slice-2.ensures.value) ∙ sym c.at.ensures ∙ ap option_copied c.in-None-at.is in
    stated_within c.self.inside c.self.invariant (plain_system c.always_system.ensures c.self.invariant.plain) c.if-not-self.false past

pub has_goal-requires-clause-provable : goal.has_goal-requires-clause-provable
has_goal-requires-clause-provable c =
    let here : slice_get c.self.inside.statements.items c.self.inside.ended ≡ Some c.in-Some-at.ended.now =
    ap (λ xs. slice_get xs c.self.inside.ended) (sym c.as_slice-2.ensures.value) ∙ sym c.at.ensures ∙ ap option_copied c.in-Some-at.is in
    provable_at (kept_of c.self.inside) _ c.self.inside.ended c.in-Some-at.ended.now c.self.invariant here

pub has_goal-requires-clause-scope : goal.has_goal-requires-clause-scope
has_goal-requires-clause-scope c =
    let here : slice_get c.self.inside.statements.items c.self.inside.ended ≡ Some c.in-Some-at.ended.now =
    ap (λ xs. slice_get xs c.self.inside.ended) (sym c.as_slice-2.ensures.value) ∙ sym c.at.ensures ∙ ap option_copied c.in-Some-at.is in
    (plain_at c.self.inside c.self.invariant (plain_system c.always_system.ensures c.self.invariant.plain) c.if-not-self.false c.in-Some-at.ended.now here).begun

pub has_goal-requires-clause-form : goal.has_goal-requires-clause-form
has_goal-requires-clause-form c =
    let said : form_at (map judgment_scheme c.self.inside.forms.items) c.self.inside.last ≡ Some (judgment_scheme c.in-Some.form.now) =
    ap (λ fs. form_at (map judgment_scheme fs) c.self.inside.last) (sym c.as_slice.ensures.value) ∙ sym c.last_form.ensures ∙ ap (option_map (λ j. judgment_scheme j.now)) c.in-Some.is in
    plain_last c.self.inside c.self.invariant (plain_system c.always_system.ensures c.self.invariant.plain) c.if-not-self.false (judgment_scheme c.in-Some.form.now) said

pub returns-then-not-branch-clause-refused : goal.returns-then-not-branch-clause-refused
returns-then-not-branch-clause-refused c =
    let here : slice_get c.self.inside.statements.items c.self.inside.ended ≡ Some c.in-Some-at.ended.now =
    ap (λ xs. slice_get xs c.self.inside.ended) (sym c.as_slice-2.ensures.value) ∙ sym c.at.ensures ∙ ap option_copied c.in-Some-at.is in
    let said : form_at (map judgment_scheme c.self.inside.forms.items) c.self.inside.last ≡ Some (judgment_scheme c.in-Some.form.now) =
    ap (λ fs. form_at (map judgment_scheme fs) c.self.inside.last) (sym c.as_slice.ensures.value) ∙ sym c.last_form.ensures ∙ ap (option_map (λ j. judgment_scheme j.now)) c.in-Some.is in
    λ fault is. subst (λ (k : Kept). IsRefused k (end_theorem c.args.line)) c.self.view_is
    (refuse_end_goal c.self.inside c.self.invariant c.args.line (judgment_scheme c.in-Some.form.now) c.in-Some-at.ended.now c.if-not-self.false said here
    (λ has. true≢false (sym (c.in_ok-has_goal.ensures.1 has) ∙ c.if-not-branch.true)))

pub overflow_add-self : goal.overflow_add-self
overflow_add-self c =
    let here : slice_get c.self.inside.statements.items c.self.inside.ended ≡ Some c.in-Some-at.ended.now =
    ap (λ xs. slice_get xs c.self.inside.ended) (sym c.as_slice-2.ensures.value) ∙ sym c.at.ensures ∙ ap option_copied c.in-Some-at.is in
    let within = slice_get_within c.self.inside.statements.items c.self.inside.ended c.in-Some-at.ended.now here in
    let few = c.self.invariant.count in
    omega (arith, within, few)

pub invariant_of-self-2 : goal.invariant_of-self-2
invariant_of-self-2 c =
    let here : slice_get c.self.inside.statements.items c.self.inside.ended ≡ Some c.in-Some-at.ended.now =
    ap (λ xs. slice_get xs c.self.inside.ended) (sym c.as_slice-2.ensures.value) ∙ sym c.at.ensures ∙ ap option_copied c.in-Some-at.is in
    let said : form_at (map judgment_scheme c.self.inside.forms.items) c.self.inside.last ≡ Some (judgment_scheme c.in-Some.form.now) =
    ap (λ fs. form_at (map judgment_scheme fs) c.self.inside.last) (sym c.as_slice.ensures.value) ∙ sym c.last_form.ensures ∙ ap (option_map (λ j. judgment_scheme j.now)) c.in-Some.is in
    proceeds (kept_of c.self.inside) _ (outside (c.self.inside.ended + 1)) c.push.new.self.items (End c.args.line) c.self.invariant c.in_ok-push.ensures.items
    (ends_at c.self.inside c.self.invariant c.args.line (judgment_scheme c.in-Some.form.now) c.in-Some-at.ended.now c.if-not-self.false said here
    (c.in_ok-has_goal.ensures.0 c.if-not-branch.false))

pub returns-then-not-self-clause-told : goal.returns-then-not-self-clause-told
returns-then-not-self-clause-told c =
    told (kept_of c.self.inside) _ (end_theorem c.args.line) _ _ c.self.view_is c.refusal.ensures
    (end_outside c.self.inside c.self.invariant c.args.line c.if-not-self.true)

pub returns-in-None-clause-told : goal.returns-in-None-clause-told
returns-in-None-clause-told c =
    let silent : form_at (map judgment_scheme c.self.inside.forms.items) c.self.inside.last ≡ None =
    ap (λ fs. form_at (map judgment_scheme fs) c.self.inside.last) (sym c.as_slice.ensures.value) ∙ sym c.last_form.ensures ∙ ap (option_map (λ j. judgment_scheme j.now)) c.in-None.is in
    told (kept_of c.self.inside) _ (end_theorem c.args.line) _ _ c.self.view_is c.refusal-in-None.ensures
    (end_silent c.self.inside c.self.invariant c.args.line c.if-not-self.false silent)

pub returns-then-not-branch-clause-told : goal.returns-then-not-branch-clause-told
returns-then-not-branch-clause-told c =
    let here : slice_get c.self.inside.statements.items c.self.inside.ended ≡ Some c.in-Some-at.ended.now =
    ap (λ xs. slice_get xs c.self.inside.ended) (sym c.as_slice-2.ensures.value) ∙ sym c.at.ensures ∙ ap option_copied c.in-Some-at.is in
    let said : form_at (map judgment_scheme c.self.inside.forms.items) c.self.inside.last ≡ Some (judgment_scheme c.in-Some.form.now) =
    ap (λ fs. form_at (map judgment_scheme fs) c.self.inside.last) (sym c.as_slice.ensures.value) ∙ sym c.last_form.ensures ∙ ap (option_map (λ j. judgment_scheme j.now)) c.in-Some.is in
    told (kept_of c.self.inside) _ (end_theorem c.args.line) _ _ c.self.view_is c.refusal-then-not-branch.ensures
    (end_goal c.self.inside c.self.invariant c.args.line (judgment_scheme c.in-Some.form.now) c.in-Some-at.ended.now c.if-not-self.false said here
    (λ has. true≢false (sym (c.in_ok-has_goal.ensures.1 has) ∙ c.if-not-branch.true)))
