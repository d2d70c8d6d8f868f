use Rattle.std.proofs.Common.{◌∷◌, [], map, ap, ◌∙◌, refl}
use Rattle.std.proofs.lemmas.List.{map-append}
use Rattle.scheme_terms.specs.View.{scheme}
use Rattle.pattern_unify.specs.State.{metas_but}
use Rattle.pattern_unify.specs.Stepped.{meta_but}
use Rattle.pattern_unify.proofs.Building.{built_more}
use Rattle.pattern_unify.proofs.state.metas_but.Goals as goal

pub loop-place-preserved : goal.loop-place-preserved
loop-place-preserved c =
    built_more (metas_but c.args.changed.0 (scheme c.args.value.now)) (meta_but c.args.changed.0 (scheme c.args.value.now)) (λ n d ds. refl) c.args.decls.now
    c.loop-place.place c.index-decls-place.result (map scheme c.loop-place.all) (map scheme c.push.new.self)
    (metas_but c.args.changed.0 (scheme c.args.value.now) 0 c.args.decls.now) (scheme c.in_ok-meta_but.field-0) c.loop-place-test.true c.index-decls-place.is
    c.in_ok-meta_but.ensures (ap (map scheme) c.in_ok-push.ensures.ok ∙ map-append scheme c.loop-place.all (c.in_ok-meta_but.field-0 ∷ [])) c.loop-place.invariant
