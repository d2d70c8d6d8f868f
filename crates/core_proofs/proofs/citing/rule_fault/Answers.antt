use Rattle.std.proofs.Common.{◌≡◌, length, map, None, Some, slice_get, refl, ap, sym, ◌∙◌, true≢false}
use Rattle.std.specs.Prelude.{option_map}
use Rattle.std.specs.Option.{option_copied}
use Rattle.std.proofs.lemmas.List.{length-map}
use Rattle.std.proofs.lemmas.Option.{slice_get-map}
use Rattle.scheme_terms.specs.View.{names}
use Rattle.rule_schemes.specs.View.{theory, judgment_scheme, rule}
use Rattle.core_proofs.specs.Plain.{IsPlainForm}
use Rattle.rule_schemes.proofs.PlainLemmas.{plain_system}
use Rattle.core_proofs.proofs.CitedForms.{uncited, no_rule, is_right, is_instance, cited_all, cited_are, cited_count}
use Rattle.core_proofs.proofs.PlainForms.{plain_form, plain_rule_at, step_form}
use Rattle.core_proofs.proofs.Telling.{form_is_none, number_of_none, rule_is_none, counts_differ, is_no_instance}
use Rattle.core_proofs.proofs.citing.rule_fault.Goals as goal

pub returns-in_default-clause-right : goal.returns-in_default-clause-right
returns-in_default-clause-right c =
    let none = sym c.in_ok-cited.ensures ∙ ap (option_map (λ js. map (λ j. judgment_scheme j.now) js.items)) c.in_default.is in
    (λ e. let no : ⊥ = cc in absurd no, λ right. absurd (uncited _ _ _ _ _ _ none right))

pub is_rule_instance-requires-clause-form : goal.is_rule_instance-requires-clause-form
is_rule_instance-requires-clause-form c = plain_form _ (plain_system c.always_system.ensures c.requires.theory) _ _ (c.is_form.ensures.0 c.if-not-is_form.false)

pub is_rule_instance-requires-clause-cited : goal.is_rule_instance-requires-clause-cited
is_rule_instance-requires-clause-cited c =
    let some = sym c.in_ok-cited.ensures ∙ ap (option_map (λ js. map (λ j. judgment_scheme j.now) js.items)) c.in-Some.is in
    let all = cited_all (IsPlainForm (theory c.args.system.now) (names c.args.scope.now)) (map judgment_scheme c.args.scoped.now) (map (λ id. id.0) c.args.on.now) _
    c.requires.scoped (cited_are _ _ _ some) in
    rw c.as_slice-in-Some-at.ensures.value all

pub is_rule_instance-requires-clause-rule : goal.is_rule_instance-requires-clause-rule
is_rule_instance-requires-clause-rule c =
    let here : slice_get (theory c.args.system.now).rules c.args.rule.0 ≡ Some (rule c.in-Some-at.rule.now) =
    slice_get-map rule c.args.system.now.rules c.args.rule.0
    ∙ ap (option_map rule) (ap (λ rs. slice_get rs c.args.rule.0) (sym (c.as_slice.ensures.value ∙ c.rules-rules.ensures)) ∙ sym c.at.ensures ∙ ap option_copied c.in-Some-at.is) in
    plain_rule_at _ (plain_system c.always_system.ensures c.requires.theory) _ _ here

pub returns-then-branch-clause-right : goal.returns-then-branch-clause-right
returns-then-branch-clause-right c =
    let some = sym c.in_ok-cited.ensures ∙ ap (option_map (λ js. map (λ j. judgment_scheme j.now) js.items)) c.in-Some.is in
    let here : slice_get (theory c.args.system.now).rules c.args.rule.0 ≡ Some (rule c.in-Some-at.rule.now) =
    slice_get-map rule c.args.system.now.rules c.args.rule.0
    ∙ ap (option_map rule) (ap (λ rs. slice_get rs c.args.rule.0) (sym (c.as_slice.ensures.value ∙ c.rules-rules.ensures)) ∙ sym c.at.ensures ∙ ap option_copied c.in-Some-at.is) in
    let form_is = step_form _ (plain_system c.always_system.ensures c.requires.theory) _ _ c.requires.scope.root (c.is_form.ensures.0 c.if-not-is_form.false) in
    let judged = rw c.as_slice-in-Some-at.ensures.value at c.in_ok-is_rule_instance-in-Some-at.ensures in
    (λ e. is_right _ _ _ _ _ _ _ _ some here form_is (judged.0 c.if-branch.true), λ right. refl)

pub returns-in-Some-at-clause-right : goal.returns-in-Some-at-clause-right
returns-in-Some-at-clause-right c =
    let some = sym c.in_ok-cited.ensures ∙ ap (option_map (λ js. map (λ j. judgment_scheme j.now) js.items)) c.in-Some.is in
    let here : slice_get (theory c.args.system.now).rules c.args.rule.0 ≡ Some (rule c.in-Some-at.rule.now) =
    slice_get-map rule c.args.system.now.rules c.args.rule.0
    ∙ ap (option_map rule) (ap (λ rs. slice_get rs c.args.rule.0) (sym (c.as_slice.ensures.value ∙ c.rules-rules.ensures)) ∙ sym c.at.ensures ∙ ap option_copied c.in-Some-at.is) in
    let judged = rw c.as_slice-in-Some-at.ensures.value at c.in_ok-is_rule_instance-in-Some-at.ensures in
    (λ e. let no : ⊥ = cc in absurd no, λ right. absurd (true≢false (sym (judged.1 (is_instance _ _ _ _ _ _ _ _ some here right)) ∙ c.if-branch.false)))

pub returns-clause-right : goal.returns-clause-right
returns-clause-right c =
    let none : slice_get (theory c.args.system.now).rules c.args.rule.0 ≡ None =
    slice_get-map rule c.args.system.now.rules c.args.rule.0
    ∙ ap (option_map rule) (ap (λ rs. slice_get rs c.args.rule.0) (sym (c.as_slice.ensures.value ∙ c.rules-rules.ensures)) ∙ sym c.at.ensures ∙ ap option_copied c.in-None.is) in
    (λ e. let no : ⊥ = cc in absurd no, λ right. absurd (no_rule _ _ _ _ _ _ none right))

pub returns-then-len-on-clause-right : goal.returns-then-len-on-clause-right
returns-then-len-on-clause-right c =
    let here : slice_get (theory c.args.system.now).rules c.args.rule.0 ≡ Some (rule c.in-Some-at.rule.now) =
    slice_get-map rule c.args.system.now.rules c.args.rule.0
    ∙ ap (option_map rule) (ap (λ rs. slice_get rs c.args.rule.0) (sym (c.as_slice.ensures.value ∙ c.rules-rules.ensures)) ∙ sym c.at.ensures ∙ ap option_copied c.in-Some-at.is) in
    let plain = plain_rule_at _ (plain_system c.always_system.ensures c.requires.theory) _ _ here in
    let premises : c.len.result ≡ length (map judgment_scheme c.in-Some-at.rule.now.premises) = c.len.ensures ∙ sym (length-map c.in-Some-at.rule.now.premises judgment_scheme) in (
      λ e. let no : ⊥ = cc in absurd no,
      λ right. absurd (c.if-len-on.true (premises ∙ cited_count _ _ _ _ _ _ (rule c.in-Some-at.rule.now) here plain right ∙ length-map c.args.on.now (λ id. id.0))),
    )

pub returns-then-not-is_form-clause-code : goal.returns-then-not-is_form-clause-code
returns-then-not-is_form-clause-code c =
    form_is_none _ _ _ _ _ _ (λ in_scope. true≢false (sym (c.is_form.ensures.1 in_scope) ∙ c.if-not-is_form.true))

pub returns-in_default-clause-code : goal.returns-in_default-clause-code
returns-in_default-clause-code c =
    let none = sym c.in_ok-cited.ensures ∙ ap (option_map (λ js. map (λ j. judgment_scheme j.now) js.items)) c.in_default.is in
    number_of_none _ _ _ _ _ _ none

pub returns-then-len-on-clause-code : goal.returns-then-len-on-clause-code
returns-then-len-on-clause-code c =
    let some = sym c.in_ok-cited.ensures ∙ ap (option_map (λ js. map (λ j. judgment_scheme j.now) js.items)) c.in-Some.is in
    let here : slice_get (theory c.args.system.now).rules c.args.rule.0 ≡ Some (rule c.in-Some-at.rule.now) =
    slice_get-map rule c.args.system.now.rules c.args.rule.0
    ∙ ap (option_map rule) (ap (λ rs. slice_get rs c.args.rule.0) (sym (c.as_slice.ensures.value ∙ c.rules-rules.ensures)) ∙ sym c.at.ensures ∙ ap option_copied c.in-Some-at.is) in
    let form_is = step_form _ (plain_system c.always_system.ensures c.requires.theory) _ _ c.requires.scope.root (c.is_form.ensures.0 c.if-not-is_form.false) in
    let premises : c.len.result ≡ length (map judgment_scheme c.in-Some-at.rule.now.premises) = c.len.ensures ∙ sym (length-map c.in-Some-at.rule.now.premises judgment_scheme) in
    counts_differ _ _ _ _ _ _ _ _ form_is some here (λ same. c.if-len-on.true (premises ∙ sym same ∙ length-map c.args.on.now (λ id. id.0)))

pub returns-in-Some-at-clause-code : goal.returns-in-Some-at-clause-code
returns-in-Some-at-clause-code c =
    let some = sym c.in_ok-cited.ensures ∙ ap (option_map (λ js. map (λ j. judgment_scheme j.now) js.items)) c.in-Some.is in
    let here : slice_get (theory c.args.system.now).rules c.args.rule.0 ≡ Some (rule c.in-Some-at.rule.now) =
    slice_get-map rule c.args.system.now.rules c.args.rule.0
    ∙ ap (option_map rule) (ap (λ rs. slice_get rs c.args.rule.0) (sym (c.as_slice.ensures.value ∙ c.rules-rules.ensures)) ∙ sym c.at.ensures ∙ ap option_copied c.in-Some-at.is) in
    let form_is = step_form _ (plain_system c.always_system.ensures c.requires.theory) _ _ c.requires.scope.root (c.is_form.ensures.0 c.if-not-is_form.false) in
    let premises : c.len.result ≡ length (map judgment_scheme c.in-Some-at.rule.now.premises) = c.len.ensures ∙ sym (length-map c.in-Some-at.rule.now.premises judgment_scheme) in
    let judged = rw c.as_slice-in-Some-at.ensures.value at c.in_ok-is_rule_instance-in-Some-at.ensures in
    is_no_instance _ _ _ _ _ _ _ _ form_is some here (length-map c.args.on.now (λ id. id.0) ∙ sym c.if-len-on.false ∙ premises)
    (λ is. true≢false (sym (judged.1 is) ∙ c.if-branch.false))

pub returns-clause-code : goal.returns-clause-code
returns-clause-code c =
    let none : slice_get (theory c.args.system.now).rules c.args.rule.0 ≡ None =
    slice_get-map rule c.args.system.now.rules c.args.rule.0
    ∙ ap (option_map rule) (ap (λ rs. slice_get rs c.args.rule.0) (sym (c.as_slice.ensures.value ∙ c.rules-rules.ensures)) ∙ sym c.at.ensures ∙ ap option_copied c.in-None.is) in
    rule_is_none _ _ _ _ _ _ none
