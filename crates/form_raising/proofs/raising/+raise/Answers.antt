use Rattle.std.proofs.Common.{◌≡◌, ◌++◌, map, ap, ◌∙◌, sym}
use Rattle.std.proofs.lemmas.List.{take_all, map-append}
use Rattle.scheme_terms.specs.SchemeTree.{meta, values}
use Rattle.scheme_terms.specs.View.{scheme, scheme_part, parts_of}
use Rattle.scheme_terms.specs.declared.scheme.Scheme.TheVariants.{Meta}
use Rattle.rule_schemes.specs.Raising.{raised, raised_values}
use Rattle.form_raising.proofs.Arguments.{raised_part, values_raised, parts_raised, meta_raised, scheme_meta}
use Rattle.form_raising.proofs.raising.+raise.Goals as goal

pub raised_args-returns : goal.raised_args-returns
raised_args-returns t c reaches tests =
    let cats = map (λ k. k.0) c.args.cats.now in
    ap values (c.loop-arg.invariant reaches tests ∙ ap (λ xs. map (raised reaches c.args.metas.now cats c.args.locals) (map scheme xs)) (take_all c.loop-arg.arg-index c.args.args.now c.loop-arg-test.false))
    ∙ values_raised reaches c.args.metas.now cats c.args.locals (map scheme c.args.args.now)

pub raised_bodies-returns : goal.raised_bodies-returns
raised_bodies-returns t c reaches tests =
    let cats = map (λ k. k.0) c.args.cats.now in
    ap parts_of (c.loop-part.invariant reaches tests ∙ ap (λ xs. map (raised_part reaches c.args.metas.now cats c.args.locals) (map scheme_part xs)) (take_all c.loop-part.part-index c.args.parts.now c.loop-part-test.false))
    ∙ parts_raised reaches c.args.metas.now cats c.args.locals (map scheme_part c.args.parts.now)

pub raised_scheme-returns-in_ok-append-in-Meta : goal.raised_scheme-returns-in_ok-append-in-Meta
raised_scheme-returns-in_ok-append-in-Meta t c reaches tests =
    let own = c.in_ok-all-in-Meta.all in
    let given = c.in_ok-raised_args-in-Meta.field-0 in
    let made : scheme (Meta c.in-Meta.m c.append.new.self) ≡ meta c.in-Meta.m.0 (values (map scheme own ++ map scheme given)) =
    ap (λ xs. scheme (Meta c.in-Meta.m xs)) c.in_ok-append-in-Meta.ensures ∙ scheme_meta c.in-Meta.m _ ∙ ap (λ ss. meta c.in-Meta.m.0 (values ss)) (map-append scheme own given) in
    made
    ∙ meta_raised reaches c.args.metas.now (map (λ k. k.0) c.args.cats.now) c.args.locals c.in-Meta.m.0 (map scheme own) (map scheme given) (values (map scheme c.in-Meta.args))
    (c.in_ok-all-in-Meta.ensures reaches tests) (c.in_ok-raised_args-in-Meta.ensures reaches tests ∙ ap (λ xs. raised_values reaches c.args.metas.now (map (λ k. k.0) c.args.cats.now) c.args.locals (values (map scheme xs))) c.as_slice.ensures)
    ∙ ap (λ s. raised reaches c.args.metas.now (map (λ k. k.0) c.args.cats.now) c.args.locals s) (sym (ap scheme c.in-Meta.is ∙ scheme_meta c.in-Meta.m c.in-Meta.args))
