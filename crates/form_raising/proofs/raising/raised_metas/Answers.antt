use Rattle.std.proofs.Common.{◌++◌, ◌∷◌, [], ◌∙◌, ap, sym, map, take}
use Rattle.std.proofs.lemmas.List.{take_more, map-append}
use Rattle.rule_schemes.specs.Raising.{raised_decl}
use Rattle.form_raising.proofs.raising.raised_metas.Goals as goal

pub loop-decl-preserved : goal.loop-decl-preserved
loop-decl-preserved c reaches tests =
    let f = raised_decl reaches (map (λ k. k.0) c.args.cats.now) in
    c.in_ok-push.ensures.ok ∙ ap (λ xs. xs ++ c.in_ok-raised_meta.field-0 ∷ []) (c.loop-decl.invariant reaches tests) ∙ ap (λ z. map f (take c.loop-decl.decl-index c.args.metas.now) ++ z ∷ []) (c.in_ok-raised_meta.ensures reaches tests ∙ ap f c.decl-item.is)
    ∙ sym (ap (map f) (take_more c.args.metas.now c.loop-decl.decl-index _ c.loop-decl-test.true) ∙ map-append f (take c.loop-decl.decl-index c.args.metas.now) _)
