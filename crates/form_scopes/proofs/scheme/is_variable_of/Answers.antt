use Rattle.std.proofs.Common.{◌≡◌, ◌↔◌, ◌∷◌, [], IsTrue, reverse, Some, option_map, unwrap_or, slice_get, sym, ap, subst, ◌∙◌}
use Rattle.std.specs.Option.{option_copied}
use Rattle.binding_terms.specs.Signature.{binders}
use Rattle.scheme_terms.specs.Context.{variables}
use Rattle.form_scopes.proofs.Scopes.{one_turned}
use Rattle.form_scopes.proofs.scheme.is_variable_of.Goals as goal

pub returns-in-Some : goal.returns-in-Some
returns-in-Some c =
    let there = sym c.prod.ensures ∙ ap option_copied c.in-Some.is in
    let is : variables c.args.sig.now c.args.prod.0 ≡ reverse (binders c.in-Some.prod.now.items) =
    ap (λ o. unwrap_or (option_map (λ p. reverse (binders p.items)) o) []) there in
    let turned = one_turned (binders c.in-Some.prod.now.items) c.args.cat.0 in
    let one : IsTrue c.is_one_binder.result ↔ (binders c.in-Some.prod.now.items ≡ c.args.cat.0 ∷ []) =
    rw c.as_slice.ensures at c.is_one_binder.ensures in
    (λ h. is ∙ turned.0 (one.0 h), λ h. one.1 (turned.1 (sym is ∙ h)))
