use Rattle.std.proofs.Common.{sym, ap, ◌∙◌, slice_get}
use Rattle.form_scopes.specs.Locals.{categories}
use Rattle.binding_terms.proofs.Frames.{within, beyond}
use Rattle.form_scopes.proofs.Scopes.{categories-Under}
use Rattle.form_scopes.proofs.locals.+category_of.Goals as goal

pub returns-then-index-binds : goal.returns-then-index-binds
returns-then-index-binds t c =
    sym (ap (λ s. slice_get (categories s) c.args.index) c.in-Under.is
    ∙ ap (λ s. slice_get s c.args.index) (categories-Under _ _ _)
    ∙ within _ _ _ _ c.if-index-binds.true ∙ c.bound_at.ensures)

pub returns-else-index-binds : goal.returns-else-index-binds
returns-else-index-binds t c =
    c.category_of.ensures
    ∙ sym (ap (λ s. slice_get (categories s) c.args.index) c.in-Under.is
    ∙ ap (λ s. slice_get s c.args.index) (categories-Under _ _ _) ∙ beyond _ _ _ _ c.if-index-binds.false)
