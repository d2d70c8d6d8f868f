use Rattle.std.proofs.Common.{◌≡◌, ◌<◌, length, map, get_or, Some, slice_get, refl, ap, sym, subst, ◌∙◌}
use Rattle.std.specs.List.{AllByRecursion}
use Rattle.std.proofs.lemmas.List.{take_all, drop_more}
use Rattle.std.proofs.lemmas.Option.{slice_get_read, slice_get-get_or}
use Rattle.core_proofs.specs.declared.step.StepId.{StepId}
use Rattle.theorem_runner.proofs.Going.{are_cited, cited_more}
use Rattle.theorem_runner.proofs.running.cited_trees.Goals as goal

pub loop-id-preserved : goal.loop-id-preserved
loop-id-preserved c =
    let id : StepId = get_or c.args.on.now c.loop-id.id-index (record { 0 = 0 }) in
    let here : slice_get c.args.on.now c.loop-id.id-index ≡ Some id = slice_get-get_or c.args.on.now c.loop-id.id-index (record { 0 = 0 }) c.loop-id-test.true in
    let bounds = subst (λ xs. AllByRecursion (λ n. n < length c.args.made.now) (map (λ (x : StepId). x.0) xs))
    (drop_more c.args.on.now c.loop-id.id-index (record { 0 = 0 }) c.loop-id-test.true) c.loop-id.invariant.below in
    let there : slice_get c.args.made.now id.0 ≡ Some c.in_ok-tree.tree =
    slice_get_read c.args.made.now (length c.args.made.now) id.0 c.index-made-id.result refl bounds.0 c.index-made-id.is ∙ ap Some (sym c.in_ok-tree.ensures) in
    record {
      below = bounds.1;
      so_far = cited_more c.args.made.now c.args.on.now c.loop-id.id-index id c.loop-id.all.items c.push.new.self.items c.in_ok-tree.tree here there c.in_ok-push.ensures.items c.loop-id.invariant.so_far;
    }

pub returns : goal.returns
returns c =
    are_cited c.args.made.now (map (λ id. id.0) c.args.on.now) c.loop-id.all.items
    (c.loop-id.invariant.so_far ∙ ap (λ xs. map (slice_get c.args.made.now) (map (λ (id : StepId). id.0) xs)) (take_all c.loop-id.id-index c.args.on.now c.loop-id-test.false))
