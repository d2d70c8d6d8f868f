use Rattle.outline_reader.specs.Plain.{plain_portion}
use Rattle.outline_reader.specs.Views.{portion_view}
use Rattle.outline_reader.specs.declared.parts.Portion.{Portion}
use Rattle.user_grammar.specs.Made.{plains}
use Rattle.sy_base.specs.FirstFault.{OfSome, at_token}
use Rattle.user_grammar.specs.Finding.{IsLeast, UnknownContexts, portions_of, lent_words}
use Rattle.sy_base.proofs.FirstLemmas.{found_more_item}
use Rattle.user_grammar.proofs.fault_assumed.first_unknown_context.Goals as goal
use Rattle.binding_terms.proofs.Lists.{whole_taken}

pub loop-portion-preserved : goal.loop-portion-preserved
loop-portion-preserved c =
    found_more_item at_token lent_words (UnknownContexts (portions_of c.args.lists.now)) (λ (p : Portion). plain_portion (portion_view p)) c.args.lists.now.portions.now c.loop-portion.portion-index c.portion-item.result
    c.loop-portion.found c.unknown_context.result c.earlier-found.result c.loop-portion-test.true c.portion-item.is c.earlier-found.ensures c.loop-portion.invariant c.unknown_context.ensures

pub returns : goal.returns
returns c =
    whole_taken (λ ps. IsLeast (OfSome (UnknownContexts (portions_of c.args.lists.now)) (plains ps)) c.loop-portion.found) c.args.lists.now.portions.now c.loop-portion.portion-index
    c.loop-portion-test.false c.loop-portion.invariant
