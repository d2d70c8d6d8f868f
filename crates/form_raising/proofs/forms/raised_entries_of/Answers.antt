use Rattle.std.proofs.Common.{◌++◌, ◌∷◌, [], ◌∙◌, ap, map}
use Rattle.scheme_terms.specs.View.{scheme}
use Rattle.scheme_terms.specs.declared.scheme.SEntry.{SEntry}
use Rattle.rule_schemes.specs.Raising.{raised}
use Rattle.form_raising.proofs.Arguments.{entries_further}
use Rattle.form_raising.proofs.forms.raised_entries_of.Goals as goal

pub loop-place-preserved : goal.loop-place-preserved
loop-place-preserved c reaches tests =
    let cats = map (λ k. k.0) c.args.cats.now in
    entries_further reaches c.args.metas.now cats c.args.entries.now c.loop-place.place c.loop-place.all c.push.new.self c.in_ok-args.args c.index-entries-place.result c.loop-place-test.true
    (c.in_ok-push.ensures.ok ∙ ap (λ (e : SEntry). c.loop-place.all ++ record { prod = e.prod; args = c.in_ok-args.args } ∷ []) c.index-entries-place.is)
    (c.in_ok-args.ensures reaches tests
    ∙ ap (λ xs. map (raised reaches c.args.metas.now cats c.loop-place.place) (map scheme xs)) (c.as_slice.ensures ∙ ap (λ (e : SEntry). e.args) c.index-entries-place.is))
    ∙ c.loop-place.invariant reaches tests
