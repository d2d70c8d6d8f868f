use Rattle.std.proofs.Common.{◌∙◌, ◌+◌, ◌++◌, ◌∷◌, [], ap, map, drop, rules}
use Rattle.std.proofs.lemmas.List.{map-append}
use Rattle.scheme_terms.specs.View.{scheme}
use Rattle.rule_schemes.specs.Raising.{with_entries}
use Rattle.form_raising.specs.Before.{before}
use Rattle.form_raising.proofs.Arguments.{same_test, place_reached, place_passed, scheme_local}
use Rattle.form_raising.proofs.raising.entry_locals.Goals as goal
use Rattle.form_raising.proofs.raising.entry_locals.Goals.{then-reaches+in_ok-number+in_ok-push, else-reaches}

pub loop-place-preserved : goal.loop-place-preserved
loop-place-preserved c reaches tests rest =
    let left = with_entries reaches c.args.cat.0 (map (λ k. k.0) (drop (c.loop-place.place + 1) c.args.cats.now)) c.args.locals rest in
    let same = same_test c.args.sig.now reaches tests c.args.cat.0 _ c.reaches.result c.reaches.ensures.0 c.reaches.ensures.1 in
    elim c.if-reaches.branch [
      | then-reaches+in_ok-number+in_ok-push w ↦
          ap (λ xs. before (map scheme xs) left) (w.all-is ∙ w.in_ok-push.ensures.ok)
          ∙ ap (λ ss. before ss left) (map-append scheme c.loop-place.all _)
          ∙ ap (λ s. before (map scheme c.loop-place.all ++ s ∷ []) left) (scheme_local w.in_ok-number.number)
          ∙ place_reached reaches c.args.cat.0 c.args.locals c.args.cats.now c.loop-place.place w.in_ok-number.number (map scheme c.loop-place.all) rest _ c.loop-place-test.true (same ∙ w.if-reaches.true) (search rules)
          ∙ c.loop-place.invariant reaches tests rest
      | else-reaches w ↦
          ap (λ xs. before (map scheme xs) left) w.all-is
          ∙ place_passed reaches c.args.cat.0 c.args.locals c.args.cats.now c.loop-place.place (map scheme c.loop-place.all) rest _ c.loop-place-test.true (same ∙ w.if-reaches.false)
          ∙ c.loop-place.invariant reaches tests rest
    ]
