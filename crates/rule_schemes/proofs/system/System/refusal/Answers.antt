use Rattle.std.proofs.Common.{subst, sym}
use Rattle.std.specs.Prelude.{List, slice_get, MatchOption, map}
use Rattle.rule_schemes.specs.declared.rule.Judgment.{Judgment}
use Rattle.rule_schemes.specs.declared.rule.RuleScheme.{RuleScheme}
use Rattle.rule_schemes.specs.Parts.{Parts}
use Rattle.rule_schemes.specs.Rules.{HasForms, NeedsNoContext}
use Rattle.rule_schemes.specs.Refused.{AssumeAlike, IsFirstMisplaced, with_rule}
use Rattle.rule_schemes.specs.View.{theory, rule}
use Rattle.rule_schemes.specs.declared.fault.RuleFault.TheVariants.{NotStrict, NeedsContext, TwoAssumptions}
use Rattle.rule_schemes.proofs.RefusedLemmas.{HasForms-judgments, IsKeptSystem-kept, Refuses-only}
use Rattle.rule_schemes.proofs.system.System.refusal.Goals as goal

pub returns-in-Some-clause-some : goal.returns-in-Some-clause-some
returns-in-Some-clause-some c =
    Refuses-only (theory c.args.self.now) (rule c.args.rule.now) c.always_system.ensures.one_assumption (NotStrict c.in-Some.m)
    (record { good_conclusion = c.has_good_conclusion.ensures.0 c.if-not-has_good_conclusion.false; first = c.in-Some.ensures.some })

pub first_misplaced-requires-clause-kept : goal.first_misplaced-requires-clause-kept
first_misplaced-requires-clause-kept c =
    rw c.deref.ensures.value (rw c.deref-2.ensures.value (rw c.deref-3.ensures.value
    (IsKeptSystem-kept (theory (record { sig = c.self.inside.sig; judgments = c.self.inside.judgments.items; rules = c.self.inside.rules.items })) c.self.inside.rows.items c.self.invariant)))

pub first_misplaced-requires-clause-rule : goal.first_misplaced-requires-clause-rule
first_misplaced-requires-clause-rule c =
    let parts : Parts = record { sig = c.self.inside.sig; judgments = c.self.inside.judgments.items; rules = c.self.inside.rules.items } in
    rw c.deref.ensures.value
    (HasForms-judgments (theory parts) (rule c.args.rule.now) (subst (λ (p : Parts). HasForms (theory p) (rule c.args.rule.now)) (sym c.self.view_is) c.requires.forms))

pub returns-in-Some-first_misplaced-clause-some : goal.returns-in-Some-first_misplaced-clause-some
returns-in-Some-first_misplaced-clause-some c =
    let r = rule c.args.rule.now in
    let parts : Parts = record { sig = c.self.inside.sig; judgments = c.self.inside.judgments.items; rules = c.self.inside.rules.items } in
    let first : IsFirstMisplaced (with_rule (theory parts) r) r r.premises c.in-Some-first_misplaced.j.0 =
    subst (λ (rs : List RuleScheme). IsFirstMisplaced (with_rule (record { sig = parts.sig; judgments = parts.judgments; rules = map rule rs }) r) r r.premises c.in-Some-first_misplaced.j.0) c.deref-2.ensures.value
    (subst (λ (js : List Judgment). IsFirstMisplaced (with_rule (record { sig = parts.sig; judgments = js; rules = map rule c.deref-2.result.now }) r) r r.premises c.in-Some-first_misplaced.j.0) c.deref.ensures.value c.in-Some-first_misplaced.ensures.some) in
    Refuses-only (theory c.args.self.now) r c.always_system.ensures.one_assumption (NeedsContext c.in-Some-first_misplaced.j)
    (record {
      good_conclusion = c.has_good_conclusion.ensures.0 c.if-not-has_good_conclusion.false;
      strict = c.in_default.ensures.none;
      first = subst (λ (p : Parts). IsFirstMisplaced (with_rule (theory p) r) r r.premises c.in-Some-first_misplaced.j.0) c.self.view_is first;
    })

pub returns-in-Some-first_alike-clause-some : goal.returns-in-Some-first_alike-clause-some
returns-in-Some-first_alike-clause-some c =
    let r = rule c.args.rule.now in
    let parts : Parts = record { sig = c.self.inside.sig; judgments = c.self.inside.judgments.items; rules = c.self.inside.rules.items } in
    let placed : NeedsNoContext (with_rule (theory parts) r) r =
    subst (λ (rs : List RuleScheme). NeedsNoContext (with_rule (record { sig = parts.sig; judgments = parts.judgments; rules = map rule rs }) r) r) c.deref-2.ensures.value
    (subst (λ (js : List Judgment). NeedsNoContext (with_rule (record { sig = parts.sig; judgments = js; rules = map rule c.deref-2.result.now }) r) r) c.deref.ensures.value c.in_default-first_misplaced.ensures.none) in
    let alike : MatchOption (slice_get (map rule parts.rules) c.in-Some-first_alike.earlier.0) ⊥ (λ s. AssumeAlike s r) =
    subst (λ (rs : List RuleScheme). MatchOption (slice_get (map rule rs) c.in-Some-first_alike.earlier.0) ⊥ (λ s. AssumeAlike s r)) c.deref-4.ensures.value c.in-Some-first_alike.ensures in
    Refuses-only (theory c.args.self.now) r c.always_system.ensures.one_assumption (TwoAssumptions c.in-Some-first_alike.earlier)
    (record {
      good_conclusion = c.has_good_conclusion.ensures.0 c.if-not-has_good_conclusion.false;
      strict = c.in_default.ensures.none;
      placed = subst (λ (p : Parts). NeedsNoContext (with_rule (theory p) r) r) c.self.view_is placed;
      alike = subst (λ (p : Parts). MatchOption (slice_get (map rule p.rules) c.in-Some-first_alike.earlier.0) ⊥ (λ s. AssumeAlike s r)) c.self.view_is alike;
    })
