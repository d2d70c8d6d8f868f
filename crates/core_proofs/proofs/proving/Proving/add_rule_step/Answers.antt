use Rattle.std.proofs.Common.{◌≡◌, ◌++◌, ◌∷◌, [], length, map, ap, sym, subst, ◌∙◌, arith}
use Rattle.std.specs.Prelude.{vec_len}
use Rattle.std.specs.List.{AllByRecursion}
use Rattle.scheme_terms.specs.View.{names}
use Rattle.rule_schemes.specs.View.{theory, judgment_scheme}
use Rattle.core_proofs.specs.Faults.{IsTold}
use Rattle.sy_base.specs.declared.fault.Refusal.TheVariants.{Refused}
use Rattle.core_proofs.specs.Kept.{Kept}
use Rattle.core_proofs.specs.Plain.{IsPlainForm}
use Rattle.core_proofs.specs.Step.{by_rule}
use Rattle.rule_schemes.proofs.PlainLemmas.{plain_system}
use Rattle.core_proofs.proofs.Refusing.{IsRefused, refuse_rule_outside, refuse_rule, applied, plain_here}
use Rattle.core_proofs.proofs.Telling.{told, rule_outside, rule_within}
use Rattle.core_proofs.proofs.proving.Proving.add_rule_step.Goals as goal

pub returns-then-not-self-clause-refused : goal.returns-then-not-self-clause-refused
returns-then-not-self-clause-refused c =
    λ fault is. subst (λ (k : Kept). IsRefused k (by_rule c.args.line (judgment_scheme c.args.form) c.args.rule.0 (map (λ id. id.0) c.args.on))) c.self.view_is
    (refuse_rule_outside c.self.inside c.self.invariant c.args.line c.args.rule.0 (judgment_scheme c.args.form) (map (λ id. id.0) c.args.on) c.if-not-self.true)

pub rule_fault-requires-clause-scope : goal.rule_fault-requires-clause-scope
rule_fault-requires-clause-scope c = (plain_here c.self.inside c.self.invariant (plain_system c.always_system.ensures c.self.invariant.plain) c.if-not-self.false).1.names

pub rule_fault-requires-clause-scoped : goal.rule_fault-requires-clause-scoped
rule_fault-requires-clause-scoped c =
    subst (λ fs. AllByRecursion (IsPlainForm (theory c.self.inside.system) (names c.self.inside.scope)) (map judgment_scheme fs)) (sym c.as_slice-scoped.ensures.value)
    (plain_here c.self.inside c.self.invariant (plain_system c.always_system.ensures c.self.invariant.plain) c.if-not-self.false).1.forms

pub returns-in-Some-clause-refused : goal.returns-in-Some-clause-refused
returns-in-Some-clause-refused c =
    let judged = rw (c.as_slice-scoped.ensures.value, c.as_slice.ensures) at c.in_ok-fault.ensures.right in
    let some = c.in-Some.is in
    λ fault is. subst (λ (k : Kept). IsRefused k (by_rule c.args.line (judgment_scheme c.args.form) c.args.rule.0 (map (λ id. id.0) c.args.on))) c.self.view_is
    (refuse_rule c.self.inside c.self.invariant c.args.line c.args.rule.0 (judgment_scheme c.args.form) (map (λ id. id.0) c.args.on) c.if-not-self.false
    (λ right. let none = judged.1 right in let no : ⊥ = cc in no))

pub invariant_of-self-2 : goal.invariant_of-self-2
invariant_of-self-2 c =
    let judged = rw (c.as_slice-scoped.ensures.value, c.as_slice.ensures) at c.in_ok-fault.ensures.right in
    let number : c.len-number.result ≡ length c.self.inside.forms.items = c.len-number.ensures ∙ (let e : vec_len c.self.inside.forms ≡ length c.self.inside.forms.items = omega (arith, c.self.inside.forms.ok.0) in e) in
    let longer : c.push-2.new.self.items ≡ c.self.inside.forms.items ++ c.in_ok-again.again ∷ [] =
    c.in_ok-push-2.ensures.items ∙ ap (λ fs. fs ++ c.in_ok-again.again ∷ []) c.in_ok-reserve.ensures.items in
    applied c.self.inside c.self.invariant c.args.line c.args.rule c.args.form c.args.on c.if-not-self.false (judged.0 c.in_default.is)
    c.push-2.new.self.items c.in_ok-again.again c.len-number.result longer c.in_ok-again.ensures number c.push.new.self.items c.in_ok-push.ensures.items

pub returns-then-not-self-clause-told : goal.returns-then-not-self-clause-told
returns-then-not-self-clause-told c =
    told _ _ (by_rule c.args.line (judgment_scheme c.args.form) c.args.rule.0 (map (λ id. id.0) c.args.on)) _ _ c.self.view_is c.refusal.ensures
    (rule_outside c.self.inside c.self.invariant c.args.line c.args.rule.0 (judgment_scheme c.args.form) (map (λ id. id.0) c.args.on) c.if-not-self.true)

pub returns-in-Some-clause-told : goal.returns-in-Some-clause-told
returns-in-Some-clause-told c =
    let judged = rw (c.as_slice-scoped.ensures.value, c.as_slice.ensures, c.in-Some.is) at c.in_ok-fault.ensures.code in
    subst (λ (k : Kept). IsTold k (by_rule c.args.line (judgment_scheme c.args.form) c.args.rule.0 (map (λ id. id.0) c.args.on))
    (Refused (record { line = c.args.line; code = c.in-Some.code; detail = c.in_ok-detail.detail }))) c.self.view_is
    (rule_within c.self.inside c.self.invariant c.args.line c.args.rule.0 (judgment_scheme c.args.form) (map (λ id. id.0) c.args.on) _ _ c.if-not-self.false
    judged c.in_ok-detail.ensures)
