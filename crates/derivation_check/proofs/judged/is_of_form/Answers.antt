use Rattle.std.proofs.Common.{◌∙◌, map, reverse, ap, subst}
use Rattle.binding_terms.specs.View.{tree}
use Rattle.binding_terms.specs.Signature.{slots}
use Rattle.scheme_terms.specs.Context.{IsValue, scope_of}
use Rattle.scheme_terms.specs.View.{context_value}
use Rattle.scheme_terms.specs.declared.scheme.Root.{Root}
use Rattle.rule_schemes.specs.Rules.{argument_slots}
use Rattle.derivation_check.proofs.JudgedLemmas.{in_scope_of}
use Rattle.derivation_check.proofs.judged.is_of_form.Goals as goal

pub returns : goal.returns
returns c =
    let value = subst (λ (root : Root). IsValue c.args.sig.now root (context_value c.args.j.now.ctx)) c.root_of.ensures (c.in_ok-is_value.ensures.0 c.if-not-branch.false) in
    let slots_are = argument_slots c.args.form.now.ctx (slots c.args.form.now.items) in
    let cats = ap (map (λ k. k.0)) c.as_slice-3.ensures.value ∙ c.in_ok-cats.ensures ∙ ap (λ xs. map (λ s. s.cat) (argument_slots c.args.form.now.ctx (slots xs))) c.as_slice.ensures in
    let scope = ap (λ xs. reverse (map (λ k. k.0) xs)) c.as_slice-2.ensures.value ∙ c.in_ok-scope.ensures in
    let both = in_scope_of c.args.sig.now (scope_of c.args.sig.now (context_value c.args.j.now.ctx)) _ _ slots_are (map tree c.as_slice-4.result.now) (map tree c.args.j.now.args) scope cats (ap (map tree) c.as_slice-4.ensures) in (
      λ h. (value, both.0 (c.are_terms.ensures.0 h)),
      λ h. c.are_terms.ensures.1 (both.1 h.1),
    )
