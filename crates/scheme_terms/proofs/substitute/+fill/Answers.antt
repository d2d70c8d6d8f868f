use Rattle.std.proofs.Common.{map}
use Rattle.scheme_terms.specs.SchemeTree.{under}
use Rattle.scheme_terms.specs.Substituting.{argument_or_local}
use Rattle.scheme_terms.specs.View.{scheme}
use Rattle.scheme_terms.proofs.Parts.{done_filled_values, done_filled_parts}
use Rattle.scheme_terms.proofs.substitute.+fill.Goals as goal

pub fill_values-returns : goal.fill_values-returns
fill_values-returns t c =
    done_filled_values (under c.args.depth (argument_or_local c.args.locals (map scheme c.args.args.now))) _ _ _ c.loop-one-test.false c.loop-one.invariant

pub fill_parts-returns : goal.fill_parts-returns
fill_parts-returns t c =
    done_filled_parts c.args.depth (argument_or_local c.args.locals (map scheme c.args.args.now)) _ _ _ c.loop-part-test.false c.loop-part.invariant
