use Rattle.std.proofs.Common.{map, refl, sym}
use Rattle.std.proofs.lemmas.Option.{get_or_from_slice_get}
use Rattle.binding_terms.proofs.Lists.{some_within}
use Rattle.scheme_terms.specs.View.{known_variable}
use Rattle.pattern_unify.specs.State.{knowns_but}
use Rattle.pattern_unify.specs.Stepped.{known_but}
use Rattle.pattern_unify.proofs.Building.{built_more}
use Rattle.pattern_unify.proofs.state.knowns_but.Goals as goal

pub loop-place-preserved : goal.loop-place-preserved
loop-place-preserved c =
    let decl = some_within c.args.decls.now c.loop-place.place c.loop-place-test.true in
    built_more (λ n ds. knowns_but c.args.changed c.args.to n (map known_variable ds)) (λ n d. known_but c.args.changed c.args.to n) (λ n d ds. refl) c.args.decls.now
    c.loop-place.place decl.0 c.loop-place.all c.push.new.self (knowns_but c.args.changed c.args.to 0 (map known_variable c.args.decls.now)) c.in_ok-known_but.field-0
    c.loop-place-test.true (sym (get_or_from_slice_get c.args.decls.now c.loop-place.place decl.0 decl.0 decl.1)) c.in_ok-known_but.ensures c.in_ok-push.ensures.ok
    c.loop-place.invariant
