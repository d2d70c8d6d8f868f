use Rattle.proof_check.proofs.SearchLemmas.{searched_past, searched_ended}
use Rattle.proof_check.proofs.unbuilt.first_unbuilt.Goals as goal

pub loop-left-preserved : goal.loop-left-preserved
loop-left-preserved c =
    searched_past c.args.tokens.now c.loop-left.before c.past-before.result c.loop-left.left.now _ c.in-len1-up.len_at_least c.loop-left.invariant c.past-before.ensures
    c.is_unbuilt.result c.if-is_unbuilt.false c.is_unbuilt.ensures

pub returns : goal.returns
returns c = searched_ended c.args.tokens.now c.loop-left.before c.loop-left.left.now c.in_default.len_below c.loop-left.invariant
