use Rattle.scheme_terms.specs.View.{substitution}
use Rattle.scheme_terms.proofs.Parts.{done_applied_values, done_applied_parts}
use Rattle.scheme_terms.proofs.substitute.+apply.Goals as goal

pub apply_values-returns : goal.apply_values-returns
apply_values-returns t c =
    done_applied_values (substitution c.args.by.now).metas (substitution c.args.by.now).knowns c.args.locals _ _ _ c.loop-arg-test.false c.loop-arg.invariant

pub apply_parts-returns : goal.apply_parts-returns
apply_parts-returns t c =
    done_applied_parts (substitution c.args.by.now).metas (substitution c.args.by.now).knowns c.args.locals _ _ _ c.loop-part-test.false c.loop-part.invariant
