use Rattle.std.proofs.Common.{◌++◌, ◌∷◌, [], ◌∙◌, ap, sym, map, take}
use Rattle.std.proofs.lemmas.List.{take_more, map-append}
use Rattle.rule_schemes.specs.Raising.{raised_judgment}
use Rattle.rule_schemes.specs.View.{judgment_scheme}
use Rattle.form_raising.proofs.forms.raised_premises.Goals as goal

pub loop-premise-preserved : goal.loop-premise-preserved
loop-premise-preserved c reaches tests =
    let f = raised_judgment reaches c.args.metas.now (map (λ k. k.0) c.args.cats.now) in
    let made = c.in_ok-raised_judgment.field-0 in
    let before = take c.loop-premise.premise-index c.args.premises.now in
    ap (map judgment_scheme) c.in_ok-push.ensures.ok ∙ map-append judgment_scheme c.loop-premise.all (made ∷ [])
    ∙ ap (λ xs. xs ++ judgment_scheme made ∷ []) (c.loop-premise.invariant reaches tests)
    ∙ ap (λ j. map f (map judgment_scheme before) ++ j ∷ []) (c.in_ok-raised_judgment.ensures reaches tests ∙ ap (λ p. f (judgment_scheme p)) c.premise-item.is)
    ∙ sym (ap (λ xs. map f (map judgment_scheme xs)) (take_more c.args.premises.now c.loop-premise.premise-index _ c.loop-premise-test.true)
    ∙ ap (map f) (map-append judgment_scheme before _) ∙ map-append f (map judgment_scheme before) _)
