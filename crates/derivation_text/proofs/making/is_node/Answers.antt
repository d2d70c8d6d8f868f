use Rattle.std.proofs.Common.{◌∙◌, List, length, map, sym, ap, subst, true≢false, None, option_map}
use Rattle.std.specs.Prelude.{IsTrue, ◌↔◌}
use Rattle.std.proofs.lemmas.List.{length-map}
use Rattle.scheme_terms.specs.View.{ground_entry, instance}
use Rattle.scheme_terms.specs.declared.scheme.Entry.{Entry}
use Rattle.scheme_match.specs.Matching.{Matching, AreStrict, IsOnlyMatch}
use Rattle.rule_schemes.specs.Rules.{rule_names}
use Rattle.rule_schemes.specs.Derivation.{IsNodeOf}
use Rattle.derivation_check.specs.Parts.{subtrees_of}
use Rattle.rule_schemes.specs.View.{theory, judgment_scheme, judgment_value}
use Rattle.rule_schemes.specs.View.{rule as plain_rule}
use Rattle.derivation_text.proofs.RuleLemmas.{judgments_fit, fit_over, final_is, are_strict, decided, other_length, value_closed, over_matching}
use Rattle.derivation_text.proofs.making.is_node.Goals as goal

pub returns-then-premises-trees : goal.returns-then-premises-trees
returns-then-premises-trees c =
    let th = theory c.args.sys.now in
    let r = plain_rule c.args.rule.now in (
      λ h. absurd (true≢false (sym h)),
      λ n. absurd (other_length th c.requires.bare r (judgment_value c.args.judgment.now) c.args.trees.now
          (λ e. c.if-premises-trees.true (ap length c.as_slice-premises.ensures ∙ sym (length-map c.args.rule.now.premises judgment_scheme) ∙ e)) n),
    )

pub add-requires : goal.add-requires
add-requires c =
    let th = theory c.args.sys.now in
    let r = plain_rule c.args.rule.now in
    over_matching th r.conclusion (judgment_value c.args.judgment.now) c.in_ok-matcher.matcher r.metas
    (ap (λ (m : Matching). m.sig) c.in_ok-matcher.ensures ∙ c.sig.ensures) (ap (λ (m : Matching). m.metas) c.in_ok-matcher.ensures ∙ c.as_slice.ensures)
    (judgments_fit th c.requires.bare (rule_names r) r.conclusion (judgment_value c.args.judgment.now) c.requires.fits.forms.conclusion c.requires.judged)

pub add_premises-requires-clause-fit : goal.add_premises-requires-clause-fit
add_premises-requires-clause-fit c =
    let th = theory c.args.sys.now in
    let r = plain_rule c.args.rule.now in
    fit_over th c.requires.bare c.always_system.ensures r c.args.trees.now _ _ _ c.requires.fits
    (length-map c.args.rule.now.premises judgment_scheme ∙ sym (ap length c.as_slice-premises.ensures) ∙ c.if-premises-trees.false) c.requires.derive
    (ap (λ (m : Matching). m.sig) (c.in_ok-add.ensures.ok) ∙ ap (λ (m : Matching). m.sig) c.in_ok-matcher.ensures ∙ c.sig.ensures)
    (ap (λ (m : Matching). m.metas) (c.in_ok-add.ensures.ok) ∙ ap (λ (m : Matching). m.metas) c.in_ok-matcher.ensures ∙ c.as_slice.ensures)
    (ap (map judgment_scheme) c.as_slice-premises.ensures)

pub finish-requires : goal.finish-requires
finish-requires c =
    let th = theory c.args.sys.now in
    let r = plain_rule c.args.rule.now in
    let v = judgment_value c.args.judgment.now in
    let final = final_is th c.requires.bare r v c.args.trees.now _ _ _ _ _ _ _ c.in_ok-matcher.ensures c.in_ok-add.ensures.ok c.in_ok-add_premises.ensures c.sig.ensures c.as_slice.ensures
    (ap (λ (es : List Entry). record { cat = None; entries = map ground_entry es }) c.new.ensures) (ap (map judgment_scheme) c.as_slice-premises.ensures) in
    subst AreStrict (sym final)
    (are_strict th c.requires.bare r v c.args.trees.now c.requires.fits
    (length-map c.args.rule.now.premises judgment_scheme ∙ sym (ap length c.as_slice-premises.ensures) ∙ c.if-premises-trees.false))

pub returns : goal.returns
returns c =
    let th = theory c.args.sys.now in
    let r = plain_rule c.args.rule.now in
    let v = judgment_value c.args.judgment.now in
    let final = final_is th c.requires.bare r v c.args.trees.now _ _ _ _ _ _ _ c.in_ok-matcher.ensures c.in_ok-add.ensures.ok c.in_ok-add_premises.ensures c.sig.ensures c.as_slice.ensures
    (ap (λ (es : List Entry). record { cat = None; entries = map ground_entry es }) c.new.ensures) (ap (map judgment_scheme) c.as_slice-premises.ensures) in
    subst (λ (b : _). IsTrue b ↔ IsNodeOf th v (subtrees_of c.args.trees.now) r) (sym c.is_some.ensures)
    (decided th c.requires.bare r v c.args.trees.now c.in_ok-finish.field-0 c.requires.fits
    (length-map c.args.rule.now.premises judgment_scheme ∙ sym (ap length c.as_slice-premises.ensures) ∙ c.if-premises-trees.false)
    (value_closed th c.requires.bare v c.requires.judged) (subst (λ (m : Matching). IsOnlyMatch m (option_map instance c.in_ok-finish.field-0)) final c.in_ok-finish.ensures))
