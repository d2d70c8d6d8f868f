use Rattle.std.proofs.Common.{◌≡◌, ◌∙◌, ◌-◌, length, map, ap, sym, subst, true≢false, option_map}
use Rattle.std.specs.Prelude.{Option}
use Rattle.std.proofs.lemmas.List.{length-map}
use Rattle.binding_terms.specs.Tree.{shifted}
use Rattle.binding_terms.specs.View.{tree}
use Rattle.scheme_terms.specs.Context.{raised_args}
use Rattle.scheme_terms.specs.View.{scheme, scheme_entry, ground_entry, instance}
use Rattle.scheme_terms.specs.declared.scheme.Inst.{Inst}
use Rattle.scheme_match.specs.Matching.{IsOnlyMatch}
use Rattle.rule_schemes.specs.View.{theory, rule, judgment_value}
use Rattle.derivation_check.specs.Pairs.{entry_matching}
use Rattle.derivation_check.proofs.LeafLemmas.{entry_at, as_many_of, all_fit_of, are_strict_of, none_matches_of, one_matches_of}
use Rattle.derivation_check.proofs.leaf.is_for_entry.Goals as goal

pub instance_of_entry-requires-clause-as_many : goal.instance_of_entry-requires-clause-as_many
instance_of_entry-requires-clause-as_many c =
    let th = theory c.args.sys.now in
    let v = judgment_value c.args.conclusion.now in
    let at = entry_at c.args.conclusion.now.ctx.entries _ c.args.place c.index-entries-place.result c.as_slice-entries.ensures c.index-entries-place.is c.requires.within in
    let long : length c.as_slice-entries.result.now ≡ length v.context.entries = ap length c.as_slice-entries.ensures ∙ sym (length-map c.args.conclusion.now.ctx.entries ground_entry) in
    let terms : map tree c.as_slice-2.result.now ≡ raised_args v.context c.args.place (ground_entry c.index-entries-place.result) =
    ap (map tree) c.as_slice-2.ensures.value ∙ c.in_ok-args.ensures ∙ (λ i. map (shifted 0 (long i - c.args.place)) (map tree (c.as_slice.ensures i))) in
    sym (length-map c.as_slice-patterns.result.now scheme)
    ∙ as_many_of th c.always_so_far.ensures (rule c.args.rule.now) c.requires.fits (scheme_entry c.args.declared.now) c.requires.declared v c.requires.judged c.requires.same c.args.place
    (ground_entry c.index-entries-place.result) at (sym c.if-declared-entry.false) (map scheme c.as_slice-patterns.result.now) (map tree c.as_slice-2.result.now) (ap (map scheme) c.as_slice-patterns.ensures) terms
    ∙ length-map c.as_slice-2.result.now tree

pub instance_of_entry-requires-clause-fit : goal.instance_of_entry-requires-clause-fit
instance_of_entry-requires-clause-fit c =
    let th = theory c.args.sys.now in
    let v = judgment_value c.args.conclusion.now in
    let at = entry_at c.args.conclusion.now.ctx.entries _ c.args.place c.index-entries-place.result c.as_slice-entries.ensures c.index-entries-place.is c.requires.within in
    let long : length c.as_slice-entries.result.now ≡ length v.context.entries = ap length c.as_slice-entries.ensures ∙ sym (length-map c.args.conclusion.now.ctx.entries ground_entry) in
    let terms : map tree c.as_slice-2.result.now ≡ raised_args v.context c.args.place (ground_entry c.index-entries-place.result) =
    ap (map tree) c.as_slice-2.ensures.value ∙ c.in_ok-args.ensures ∙ (λ i. map (shifted 0 (long i - c.args.place)) (map tree (c.as_slice.ensures i))) in
    all_fit_of th c.always_so_far.ensures (rule c.args.rule.now) c.requires.fits (scheme_entry c.args.declared.now) c.requires.declared v c.requires.judged c.requires.same c.args.place
    (ground_entry c.index-entries-place.result) at (sym c.if-declared-entry.false) (map scheme c.as_slice-patterns.result.now) (map tree c.as_slice-2.result.now) (ap (map scheme) c.as_slice-patterns.ensures) terms

pub instance_of_entry-requires-clause-strict : goal.instance_of_entry-requires-clause-strict
instance_of_entry-requires-clause-strict c =
    let th = theory c.args.sys.now in
    let v = judgment_value c.args.conclusion.now in
    let at = entry_at c.args.conclusion.now.ctx.entries _ c.args.place c.index-entries-place.result c.as_slice-entries.ensures c.index-entries-place.is c.requires.within in
    let long : length c.as_slice-entries.result.now ≡ length v.context.entries = ap length c.as_slice-entries.ensures ∙ sym (length-map c.args.conclusion.now.ctx.entries ground_entry) in
    let terms : map tree c.as_slice-2.result.now ≡ raised_args v.context c.args.place (ground_entry c.index-entries-place.result) =
    ap (map tree) c.as_slice-2.ensures.value ∙ c.in_ok-args.ensures ∙ (λ i. map (shifted 0 (long i - c.args.place)) (map tree (c.as_slice.ensures i))) in
    are_strict_of th c.always_so_far.ensures (rule c.args.rule.now) c.requires.fits (scheme_entry c.args.declared.now) c.requires.declared v c.requires.judged c.requires.same c.args.place
    (ground_entry c.index-entries-place.result) at (sym c.if-declared-entry.false) (map scheme c.as_slice-patterns.result.now) (map tree c.as_slice-2.result.now) (ap (map scheme) c.as_slice-patterns.ensures) terms

pub returns-in-Some : goal.returns-in-Some
returns-in-Some c =
    let th = theory c.args.sys.now in
    let v = judgment_value c.args.conclusion.now in
    let r = rule c.args.rule.now in
    let at = entry_at c.args.conclusion.now.ctx.entries _ c.args.place c.index-entries-place.result c.as_slice-entries.ensures c.index-entries-place.is c.requires.within in
    let long : length c.as_slice-entries.result.now ≡ length v.context.entries = ap length c.as_slice-entries.ensures ∙ sym (length-map c.args.conclusion.now.ctx.entries ground_entry) in
    let terms : map tree c.as_slice-2.result.now ≡ raised_args v.context c.args.place (ground_entry c.index-entries-place.result) =
    ap (map tree) c.as_slice-2.ensures.value ∙ c.in_ok-args.ensures ∙ (λ i. map (shifted 0 (long i - c.args.place)) (map tree (c.as_slice.ensures i))) in
    let only = subst (λ (o : Option Inst). IsOnlyMatch (entry_matching th c.args.rule.now.metas v.context (map scheme c.as_slice-patterns.result.now) (map tree c.as_slice-2.result.now)) (option_map instance o))
    c.in-Some.is c.in_ok-inst.ensures in
    let both = one_matches_of th c.always_so_far.ensures r c.requires.fits (scheme_entry c.args.declared.now) c.requires.declared v c.requires.judged c.requires.same c.args.place
    (ground_entry c.index-entries-place.result) at (sym c.if-declared-entry.false) (map scheme c.as_slice-patterns.result.now) (map tree c.as_slice-2.result.now) (ap (map scheme) c.as_slice-patterns.ensures) terms
    (instance c.in-Some.inst) (tree c.entry_variable-variable.result) c.entry_variable-variable.ensures only in
    let has = rw (c.as_slice-schemes.ensures, c.as_slice-args.ensures) at c.in_ok-has-in-Some.ensures in
    (λ h. both.0 (has.0 h), λ a. has.1 (both.1 a))

pub returns : goal.returns
returns c =
    let th = theory c.args.sys.now in
    let v = judgment_value c.args.conclusion.now in
    let r = rule c.args.rule.now in
    let at = entry_at c.args.conclusion.now.ctx.entries _ c.args.place c.index-entries-place.result c.as_slice-entries.ensures c.index-entries-place.is c.requires.within in
    let long : length c.as_slice-entries.result.now ≡ length v.context.entries = ap length c.as_slice-entries.ensures ∙ sym (length-map c.args.conclusion.now.ctx.entries ground_entry) in
    let terms : map tree c.as_slice-2.result.now ≡ raised_args v.context c.args.place (ground_entry c.index-entries-place.result) =
    ap (map tree) c.as_slice-2.ensures.value ∙ c.in_ok-args.ensures ∙ (λ i. map (shifted 0 (long i - c.args.place)) (map tree (c.as_slice.ensures i))) in
    let only = subst (λ (o : Option Inst). IsOnlyMatch (entry_matching th c.args.rule.now.metas v.context (map scheme c.as_slice-patterns.result.now) (map tree c.as_slice-2.result.now)) (option_map instance o))
    c.in-None.is c.in_ok-inst.ensures in (
      λ h. absurd (true≢false (sym h)),
      λ a. absurd (none_matches_of th c.always_so_far.ensures r c.requires.fits (scheme_entry c.args.declared.now) c.requires.declared v c.requires.judged c.requires.same c.args.place
          (ground_entry c.index-entries-place.result) at (sym c.if-declared-entry.false) (map scheme c.as_slice-patterns.result.now) (map tree c.as_slice-2.result.now) (ap (map scheme) c.as_slice-patterns.ensures) terms only a),
    )
