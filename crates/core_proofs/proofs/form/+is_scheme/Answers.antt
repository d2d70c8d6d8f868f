use Rattle.std.proofs.Common.{◌≡◌, ◌↔◌, nat_eq, IsTrue, slice_get, [], length, map, sym, ap, subst, ◌∙◌}
use Rattle.std.specs.Option.{option_copied}
use Rattle.std.proofs.lemmas.List.{drop_all, length-map}
use Rattle.binding_terms.specs.Signature.{binders}
use Rattle.scheme_terms.specs.SchemeTree.{meta, values}
use Rattle.scheme_terms.specs.SchemeScope.{IsScheme}
use Rattle.scheme_terms.specs.View.{names, scheme}
use Rattle.core_proofs.proofs.FormScopes.{parts_end, bare_meta, scheme_of_meta}
use Rattle.core_proofs.proofs.form.+is_scheme.Goals as goal

pub are_parts-returns : goal.are_parts-returns
are_parts-returns t c =
    let last = parts_end c.args.sig.now (names c.args.scope.now) (binders c.args.items.now) c.args.parts.now c.loop-item.next c.loop-item.invariant.in_range in
    let rest = rw (drop_all c.loop-item.item-index c.args.items.now c.loop-item-test.false) at c.loop-item.invariant.rest in
    (λ h. rest.1 (last.0 h), λ h. last.1 (rest.0 h))

pub is_scheme-returns-then-decl-cat : goal.is_scheme-returns-then-decl-cat
is_scheme-returns-then-decl-cat t c =
    let here = ap (λ ms. slice_get ms c.in-Meta.m.0) (sym c.as_slice.ensures) ∙ sym c.at.ensures ∙ ap option_copied c.in-Some.is in
    let bare = bare_meta c.args.sig.now (names c.args.scope.now) c.requires.scope.metas c.args.cat.0 c.in-Meta.m.0 c.in-Some.decl.now here c.if-decl-cat.true (map scheme c.in-Meta.args) in
    let is : scheme c.args.s.now ≡ meta c.in-Meta.m.0 (values (map scheme c.in-Meta.args)) = ap scheme c.in-Meta.is ∙ scheme_of_meta c.in-Meta.m c.in-Meta.args in
    let count : c.len.result ≡ length (map scheme c.in-Meta.args) = c.len.ensures ∙ sym (length-map c.in-Meta.args scheme) in
    subst (λ s. IsTrue (nat_eq c.len.result 0) ↔ IsScheme c.args.sig.now (names c.args.scope.now) [] c.args.cat.0 s) (sym is)
    (subst (λ n. IsTrue (nat_eq n 0) ↔ IsScheme c.args.sig.now (names c.args.scope.now) [] c.args.cat.0 (meta c.in-Meta.m.0 (values (map scheme c.in-Meta.args)))) (sym count) bare)
