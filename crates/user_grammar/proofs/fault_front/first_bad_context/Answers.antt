use Rattle.std.proofs.Common.{map, subst}
use Rattle.sy_base.specs.FirstFault.{OfSome, at_token}
use Rattle.user_grammar.specs.Finding.{IsLeast, portions_of, written_view, lent_words}
use Rattle.user_grammar.specs.FindingPlaces.{BadContextOf}
use Rattle.sy_base.proofs.FirstLemmas.{found_more}
use Rattle.user_grammar.proofs.fault_front.first_bad_context.Goals as goal
use Rattle.binding_terms.proofs.Lists.{whole_taken}

pub loop-written-preserved : goal.loop-written-preserved
loop-written-preserved c =
    found_more at_token lent_words (BadContextOf (portions_of c.args.names.now.lists)) written_view c.args.names.now.lists.categories.now c.loop-written.written-index _
    c.loop-written.found c.in_ok-one.one c.earlier-found.result c.loop-written-test.true c.earlier-found.ensures c.loop-written.invariant c.in_ok-one.ensures

pub returns : goal.returns
returns c =
    let P = BadContextOf (portions_of c.args.names.now.lists) in
    subst (λ ws. IsLeast (OfSome P ws) c.loop-written.found) c.requires.lists.categories
    (whole_taken (λ ws. IsLeast (OfSome P (map written_view ws)) c.loop-written.found) c.args.names.now.lists.categories.now c.loop-written.written-index c.loop-written-test.false c.loop-written.invariant)
