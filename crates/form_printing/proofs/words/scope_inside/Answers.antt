use Rattle.std.proofs.Common.{◌++◌, ◌∷◌, [], ap, sym, ◌∙◌}
use Rattle.std.proofs.lemmas.List.{map-append}
use Rattle.form_printing.specs.View.{variable, variables}
use Rattle.form_printing.proofs.Scopes.{bound_more}
use Rattle.form_printing.proofs.words.scope_inside.Goals as goal

pub loop-i-preserved : goal.loop-i-preserved
loop-i-preserved c =
    ap variables c.in_ok-push.ensures.items
    ∙ (map-append variable _ _
    ∙ ((λ k. c.loop-i.invariant k ++ c.binder_at.ensures k ∷ []) ∙ sym (bound_more _ c.args.binds.now c.loop-i.i c.loop-i-test.true)))
