use Rattle.std.proofs.Common.{sym}
use Rattle.binding_terms.proofs.Frames.{get_from_end}
use Rattle.binding_terms.proofs.scope.from_end.Goals as goal
use Rattle.binding_terms.proofs.Lists.{none_from_end}

pub returns-then-index-cats : goal.returns-then-index-cats
returns-then-index-cats c = sym (get_from_end (λ x. x.0) c.args.cats.now c.args.index (record { 0 = 0 }) c.if-index-cats.true)

pub returns-else-index-cats : goal.returns-else-index-cats
returns-else-index-cats c = sym (none_from_end (λ x. x.0) c.args.cats.now c.args.index c.if-index-cats.false)
