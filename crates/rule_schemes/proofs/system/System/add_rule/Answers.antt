use Rattle.std.proofs.Common.{rules, arith, length-drop, ◌≡◌, ◌<◌, ◌^◌, ◌++◌, ◌∙◌, ℕ, Bool, List, [], ap, drop, get_or, length, map, subst, sym, take}
use Rattle.std.proofs.lemmas.List.{length-map, take_all, drop_all}
use Rattle.binding_terms.specs.Numbered.{AnyByRecursion}
use Rattle.rule_schemes.specs.Parts.{Parts}
use Rattle.rule_schemes.specs.Refused.{IsTaken, with_rule}
use Rattle.rule_schemes.specs.Rows.{AreMarks, HasAlsoAt, IsKeptSystem}
use Rattle.rule_schemes.specs.Rules.{HasForms, Theory}
use Rattle.rule_schemes.specs.Touching.{IsMarkedIn}
use Rattle.std.proofs.lemmas.Result.{err_from_is_err_and}
use Rattle.std.specs.Prelude.{Err}
use Rattle.rule_schemes.specs.declared.fault.RuleFault.{RuleFault}
use Rattle.rule_schemes.specs.declared.fault.RuleFault.TheVariants.{NoMemory}
use Rattle.rule_schemes.specs.declared.rule.JScheme.{JScheme}
use Rattle.rule_schemes.specs.View.{judgment_scheme, theory, rule}
use Rattle.rule_schemes.proofs.RefusedLemmas.{IsKeptSystem-with_rule, Refuses-none, theory-push}
use Rattle.rule_schemes.proofs.system.System.add_rule.Goals as goal

pub returns-in_err-more-clause-refused : goal.returns-in_err-more-clause-refused
returns-in_err-more-clause-refused c =
    let memory = err_from_is_err_and c.from_residual.result c.from_residual.ensures.1 in
    let gives : c.from_residual.result ≡ Err NoMemory = memory.1 ∙ ap (λ (y : RuleFault). Err y) memory.2 in
    λ fault not_memory. (
      λ e. let is : fault ≡ NoMemory = cc in absurd (not_memory is),
      λ h. absurd (Refuses-none (theory c.args.self.now) (rule c.args.rule) c.in_default.ensures.none fault h),
    )

pub returns-in_err-push-clause-refused : goal.returns-in_err-push-clause-refused
returns-in_err-push-clause-refused c =
    let memory = err_from_is_err_and c.from_residual-in_err-push.result c.from_residual-in_err-push.ensures.1 in
    let gives : c.from_residual-in_err-push.result ≡ Err NoMemory = memory.1 ∙ ap (λ (y : RuleFault). Err y) memory.2 in
    λ fault not_memory. (
      λ e. let is : fault ≡ NoMemory = cc in absurd (not_memory is),
      λ h. absurd (Refuses-none (theory c.args.self.now) (rule c.args.rule) c.in_default.ensures.none fault h),
    )

pub invariant_of-self-2 : goal.invariant_of-self-2
invariant_of-self-2 c =
    let r = rule c.args.rule in
    let parts : Parts = record { sig = c.self.inside.sig; judgments = c.self.inside.judgments.items; rules = c.self.inside.rules.items } in
    let old = c.self.inside.rows.items in
    let new = c.join_all.new.rows in
    let forms : HasForms (theory parts) r = subst (λ (p : Parts). HasForms (theory p) r) (sym c.self.view_is) c.requires.forms in
    let taken : IsTaken (theory parts) r = subst (λ (p : Parts). IsTaken (theory p) r) (sym c.self.view_is) c.in_default.ensures.none in
    let room : length (map rule parts.rules) < 2 ^ 32 = rw length-map (subst (λ (p : Parts). length p.rules < 2 ^ 32) (sym c.self.view_is) c.requires.room) in
    let count : c.len-2.result ≡ length parts.judgments = search rules in
    let marks : AreMarks (length parts.judgments) (λ y. AnyByRecursion (λ p. IsMarkedIn old p.judgment y) r.premises) c.in_ok-more.more =
    subst (λ n. AreMarks n (λ y. AnyByRecursion (λ p. IsMarkedIn old p.judgment y) r.premises) c.in_ok-more.more) count
    (subst (λ (ps : List JScheme). AreMarks c.len-2.result (λ y. AnyByRecursion (λ p. IsMarkedIn old p.judgment y) (map judgment_scheme ps)) c.in_ok-more.more) c.as_slice.ensures
    (subst (λ (rs : List (List Bool)). AreMarks c.len-2.result (λ y. AnyByRecursion (λ p. IsMarkedIn rs p.judgment y) (map judgment_scheme c.as_slice.result.now)) c.in_ok-more.more)
    c.deref.ensures.value c.in_ok-more.ensures)) in
    let long : length new ≡ length old = c.join_all.ensures.long ∙ ap (λ (rs : List (List Bool)). length rs) c.deref_mut.ensures.value in
    let also : (x : ℕ) → x < length old → HasAlsoAt r.conclusion.judgment (get_or old x []) c.in_ok-more.more (get_or new x []) =
    λ x lt. subst (λ (ms : List Bool). HasAlsoAt r.conclusion.judgment (get_or old x []) ms (get_or new x [])) c.as_slice-2.ensures
    (subst (λ (rs : List (List Bool)). HasAlsoAt r.conclusion.judgment (get_or rs x []) c.as_slice-2.result.now (get_or new x [])) c.deref_mut.ensures.value
    (c.join_all.ensures.each x (omega (arith, lt, ap (λ (rs : List (List Bool)). length rs) c.deref_mut.ensures.value)))) in
    let seam : take c.self.inside.rows.len (new ++ drop (length new) old) ≡ new = search (rules, long, take_all, length-drop, drop_all) in
    subst (λ (th : Theory). IsKeptSystem th (take c.self.inside.rows.len (new ++ drop (length new) old))) (sym (theory-push parts c.push.new.self.items c.args.rule c.in_ok-push.ensures.items))
    (subst (λ (rows : List (List Bool)). IsKeptSystem (with_rule (theory parts) r) rows) (sym seam)
    (IsKeptSystem-with_rule (theory parts) r old new c.in_ok-more.more c.self.invariant forms taken room marks long also))

pub returns-clause-refused : goal.returns-clause-refused
returns-clause-refused c =
    λ fault not_memory. (λ e. cc, λ h. absurd (Refuses-none (theory c.args.self.now) (rule c.args.rule) c.in_default.ensures.none fault h))
