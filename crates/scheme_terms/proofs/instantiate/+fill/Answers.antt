use Rattle.std.proofs.Common.{map}
use Rattle.binding_terms.specs.View.{tree}
use Rattle.scheme_terms.specs.Instance.{argument_or_root}
use Rattle.scheme_terms.proofs.Lists.{done_filled}
use Rattle.scheme_terms.proofs.instantiate.+fill.Goals as goal

pub fill_all-returns : goal.fill_all-returns
fill_all-returns t c =
    rw (done_filled c.args.depth (argument_or_root c.args.locals (map tree c.args.args.now)) _ _ _ c.loop-part-test.false c.loop-part.invariant) at c.make.ensures
