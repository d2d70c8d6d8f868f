use Rattle.std.proofs.Common.{map, reverse}
use Rattle.std.proofs.lemmas.List.{drop_all}
use Rattle.scheme_terms.specs.View.{names}
use Rattle.form_scopes.proofs.Scopes.{arguments_end, no_slots}
use Rattle.form_scopes.proofs.arguments.are_arguments.Goals as goal

pub returns : goal.returns
returns c =
    let last = arguments_end c.args.sig.now (names c.args.scope.now) (reverse (map (λ k. k.0) c.args.locals.now)) c.args.args.now c.loop-item.next c.loop-item.invariant.in_range in
    let rest = rw (drop_all c.loop-item.item-index c.args.items.now c.loop-item-test.false, no_slots c.loop-item.left) at c.loop-item.invariant.rest in
    (λ h. rest.1 (last.0 h), λ h. last.1 (rest.0 h))
