use Rattle.std.proofs.Common.{sym, ap, ◌∙◌, slice_get}
use Rattle.binding_terms.specs.Frames.{scope_of}
use Rattle.binding_terms.proofs.Frames.{scope_of-Under, within, beyond}
use Rattle.binding_terms.proofs.scope.+category_of.Goals as goal

pub returns-then-index-binds : goal.returns-then-index-binds
returns-then-index-binds t c =
    sym (ap (λ s. slice_get (scope_of s) c.args.index) c.in-Under.is
    ∙ ap (λ s. slice_get s c.args.index) (scope_of-Under _ _ _)
    ∙ within _ _ _ _ c.if-index-binds.true ∙ c.bound_at.ensures)

pub returns-else-index-binds : goal.returns-else-index-binds
returns-else-index-binds t c =
    c.category_of.ensures
    ∙ sym (ap (λ s. slice_get (scope_of s) c.args.index) c.in-Under.is
    ∙ ap (λ s. slice_get s c.args.index) (scope_of-Under _ _ _) ∙ beyond _ _ _ _ c.if-index-binds.false)
