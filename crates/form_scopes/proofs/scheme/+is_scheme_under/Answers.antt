use Rattle.std.proofs.Common.{false, true≢false, sym}
use Rattle.std.proofs.lemmas.List.{drop_all}
use Rattle.binding_terms.specs.Signature.{binders}
use Rattle.scheme_terms.specs.View.{names}
use Rattle.form_scopes.specs.Locals.{categories}
use Rattle.form_scopes.proofs.Scopes.{parts_end, values_end, values_short}
use Rattle.form_scopes.proofs.scheme.+is_scheme_under.Goals as goal

pub are_parts-returns : goal.are_parts-returns
are_parts-returns t c =
    let last = parts_end c.args.sig.now (names c.args.scope.now) (categories c.args.locals.now) (binders c.args.items.now) c.args.parts.now c.loop-item.next c.loop-item.invariant.in_range in
    let rest = rw (drop_all c.loop-item.item-index c.args.items.now c.loop-item-test.false) at c.loop-item.invariant.rest in
    (λ h. rest.1 (last.0 h), λ h. last.1 (rest.0 h))

pub are_values-returns-then-next-args : goal.are_values-returns-then-next-args
are_values-returns-then-next-args t c = (
  λ h. absurd (true≢false (sym h)),
  λ h. absurd (values_short c.args.sig.now (names c.args.scope.now) (categories c.args.locals.now) c.args.params.now c.loop-param.param-index
      c.args.args.now c.loop-param.next c.loop-param-test.true c.if-next-args.true (c.loop-param.invariant.rest.0 h)),
)

pub are_values-returns : goal.are_values-returns
are_values-returns t c =
    let last = values_end c.args.sig.now (names c.args.scope.now) (categories c.args.locals.now) c.args.args.now c.loop-param.next c.loop-param.invariant.in_range in
    let rest = rw (drop_all c.loop-param.param-index c.args.params.now c.loop-param-test.false) at c.loop-param.invariant.rest in
    (λ h. rest.1 (last.0 h), λ h. last.1 (rest.0 h))
