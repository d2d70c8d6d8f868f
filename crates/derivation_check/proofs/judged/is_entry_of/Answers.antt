use Rattle.std.proofs.Common.{◌≡◌, ◌∙◌, [], List, map, reverse, drop, ap, subst}
use Rattle.binding_terms.specs.View.{tree}
use Rattle.binding_terms.specs.Signature.{slots, binders}
use Rattle.binding_terms.specs.declared.grammar.Item.{Item}
use Rattle.derivation_check.proofs.JudgedLemmas.{are_arguments, dropped_one}
use Rattle.derivation_check.proofs.judged.is_entry_of.Goals as goal

pub returns : goal.returns
returns c =
    let cats = ap (map (λ k. k.0)) (c.after_first.ensures ∙ ap (drop 1) c.as_slice-3.ensures.value) in
    let both = are_arguments c.args.sig.now (reverse (map (λ k. k.0) c.args.scope.now)) _ (drop 1 (slots c.args.prod.now.items)) (map tree c.args.args.now)
    (cats ∙ dropped_one (λ k. k.0) c.in_ok-cats.cats.items (slots c.args.prod.now.items) (c.in_ok-cats.ensures ∙ ap (λ xs. map (λ s. s.cat) (slots xs)) c.as_slice-2.ensures)) in
    let some = subst (λ (xs : List Item). binders xs ≡ [] → ⊥) c.as_slice.ensures (c.binds.ensures.0 c.if-not-binds.false) in (
      λ h. (c.if-prod-context.false, some, both.0 (c.are_terms.ensures.0 h)),
      λ h. c.are_terms.ensures.1 (both.1 h.2),
    )
