use Rattle.std.proofs.Common.{◌∙◌, map, refl, sym, ap, subst, option_map}
use Rattle.std.specs.Prelude.{IsTrue, ◌↔◌}
use Rattle.std.proofs.lemmas.List.{length-map}
use Rattle.scheme_terms.specs.View.{instance}
use Rattle.scheme_match.specs.Matching.{Matching, AreStrict, IsOnlyMatch}
use Rattle.rule_schemes.specs.Rules.{rule_names}
use Rattle.rule_schemes.specs.Derivation.{IsNodeOf}
use Rattle.rule_schemes.specs.View.{theory, judgment_scheme, judgment_value}
use Rattle.rule_schemes.specs.View.{rule as plain_rule}
use Rattle.derivation_check.specs.Parts.{subtrees_of}
use Rattle.derivation_check.proofs.NodeLemmas.{judgments_fit, fit_over, final_is, are_strict, decided, over_matching}
use Rattle.derivation_check.proofs.node.is_instance.Goals as goal

pub add-requires : goal.add-requires
add-requires c =
    let th = theory c.args.sys.now in
    let r = plain_rule c.args.rule.now in
    over_matching th r.conclusion (judgment_value c.args.conclusion.now) c.in_ok-matcher.matcher r.metas
    (ap (λ (m : Matching). m.sig) c.in_ok-matcher.ensures ∙ c.sig.ensures) (ap (λ (m : Matching). m.metas) c.in_ok-matcher.ensures ∙ c.as_slice-metas.ensures)
    (judgments_fit th c.always_so_far.ensures (rule_names r) r.conclusion (judgment_value c.args.conclusion.now) c.requires.fits.forms.conclusion c.requires.judged)

pub add_premises-requires-clause-fit : goal.add_premises-requires-clause-fit
add_premises-requires-clause-fit c =
    let th = theory c.args.sys.now in
    let r = plain_rule c.args.rule.now in
    fit_over th c.always_so_far.ensures r c.args.trees.now _ _ _ c.requires.fits
    (length-map c.args.rule.now.premises judgment_scheme ∙ c.requires.as_many) c.requires.premises
    (ap (λ (m : Matching). m.sig) (c.in_ok-add.ensures.ok) ∙ ap (λ (m : Matching). m.sig) c.in_ok-matcher.ensures ∙ c.sig.ensures)
    (ap (λ (m : Matching). m.metas) (c.in_ok-add.ensures.ok) ∙ ap (λ (m : Matching). m.metas) c.in_ok-matcher.ensures ∙ c.as_slice-metas.ensures)
    (ap (map judgment_scheme) c.as_slice.ensures)

pub finish-requires : goal.finish-requires
finish-requires c =
    let th = theory c.args.sys.now in
    let r = plain_rule c.args.rule.now in
    let v = judgment_value c.args.conclusion.now in
    let final = final_is th c.always_so_far.ensures r v c.args.trees.now _ _ _ _ _ _ _ c.in_ok-matcher.ensures c.in_ok-add.ensures.ok c.in_ok-add_premises.ensures c.sig.ensures c.as_slice-metas.ensures
    refl (ap (map judgment_scheme) c.as_slice.ensures) in
    subst AreStrict (sym final)
    (are_strict th c.always_so_far.ensures r c.requires.fits c.requires.ordinary v c.args.trees.now
    (length-map c.args.rule.now.premises judgment_scheme ∙ c.requires.as_many))

pub returns : goal.returns
returns c =
    let th = theory c.args.sys.now in
    let r = plain_rule c.args.rule.now in
    let v = judgment_value c.args.conclusion.now in
    let final = final_is th c.always_so_far.ensures r v c.args.trees.now _ _ _ _ _ _ _ c.in_ok-matcher.ensures c.in_ok-add.ensures.ok c.in_ok-add_premises.ensures c.sig.ensures c.as_slice-metas.ensures
    refl (ap (map judgment_scheme) c.as_slice.ensures) in
    subst (λ (b : _). IsTrue b ↔ IsNodeOf th v (subtrees_of c.args.trees.now) r) (sym c.is_some.ensures)
    (decided th c.always_so_far.ensures r c.requires.fits c.requires.ordinary v c.args.trees.now c.in_ok-finish.field-0
    (length-map c.args.rule.now.premises judgment_scheme ∙ c.requires.as_many)
    c.requires.judged (subst (λ (m : Matching). IsOnlyMatch m (option_map instance c.in_ok-finish.field-0)) final c.in_ok-finish.ensures))
