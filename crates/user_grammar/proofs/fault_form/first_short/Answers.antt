use Rattle.std.proofs.Common.{map, subst}
use Rattle.sy_base.specs.FirstFault.{OfSome, at_token}
use Rattle.user_grammar.specs.Finding.{IsLeast, ShortOf, portions_of, written_view, lent_words}
use Rattle.sy_base.proofs.FirstLemmas.{found_more}
use Rattle.user_grammar.proofs.fault_form.first_short.Goals as goal
use Rattle.binding_terms.proofs.Lists.{whole_taken}

pub loop-written-preserved : goal.loop-written-preserved
loop-written-preserved c =
    found_more at_token lent_words (ShortOf (portions_of c.args.lists.now)) written_view c.args.lists.now.categories.now c.loop-written.written-index _
    c.loop-written.found c.short.result c.earlier-found.result c.loop-written-test.true c.earlier-found.ensures c.loop-written.invariant c.short.ensures

pub returns : goal.returns
returns c =
    let P = ShortOf (portions_of c.args.lists.now) in
    subst (λ ws. IsLeast (OfSome P ws) c.loop-written.found) c.requires.categories
    (whole_taken (λ ws. IsLeast (OfSome P (map written_view ws)) c.loop-written.found) c.args.lists.now.categories.now c.loop-written.written-index c.loop-written-test.false c.loop-written.invariant)
