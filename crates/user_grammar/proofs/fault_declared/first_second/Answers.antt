use Rattle.std.proofs.Common.{map}
use Rattle.sy_base.specs.FirstFault.{OfSome, at_token}
use Rattle.user_grammar.specs.Finding.{IsLeast, portions_of, written_view, lent_words}
use Rattle.sy_base.proofs.FirstLemmas.{found_more}
use Rattle.user_grammar.proofs.FaultDeclared.{Seconds}
use Rattle.user_grammar.proofs.fault_declared.first_second.Goals as goal
use Rattle.binding_terms.proofs.Lists.{whole_taken}

pub loop-written-preserved : goal.loop-written-preserved
loop-written-preserved c =
    found_more at_token lent_words (Seconds (portions_of c.args.lists.now)) written_view c.args.lists.now.categories.now c.loop-written.written-index _ c.loop-written.found _ c.earlier-found.result
    c.loop-written-test.true c.earlier-found.ensures c.loop-written.invariant c.in_ok-one.ensures

pub returns : goal.returns
returns c =
    whole_taken (λ ws. IsLeast (OfSome (Seconds (portions_of c.args.lists.now)) (map written_view ws)) c.loop-written.found) c.args.lists.now.categories.now c.loop-written.written-index
    c.loop-written-test.false c.loop-written.invariant
