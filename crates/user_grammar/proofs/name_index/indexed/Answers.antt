use Rattle.std.proofs.Common.{◌≡◌, map}
use Rattle.user_grammar.specs.Indexed.{HaveSame, names_in}
use Rattle.user_grammar.specs.Names.{AllDiffer}
use Rattle.user_grammar.proofs.NameIndexes.{same_more, order_more}
use Rattle.user_grammar.proofs.name_index.indexed.Goals as goal
use Rattle.binding_terms.proofs.Lists.{whole_taken}

pub loop-text-preserved : goal.loop-text-preserved
loop-text-preserved c = record {
  same = same_more c.args.texts.now c.loop-text.text-index _ _ _ c.loop-text-test.true c.in_ok-add_name.ensures c.loop-text.invariant.same;
  in_order = order_more c.args.texts.now c.loop-text.text-index _ _ _ c.loop-text-test.true c.in_ok-add_name.ensures c.loop-text.invariant.in_order;
}

pub returns-clause-same : goal.returns-clause-same
returns-clause-same c = whole_taken (λ ts. HaveSame (names_in c.loop-text.index) (map (λ text. text.now) ts)) c.args.texts.now c.loop-text.text-index c.loop-text-test.false c.loop-text.invariant.same

pub returns-clause-in_order : goal.returns-clause-in_order
returns-clause-in_order c =
    whole_taken (λ ts. AllDiffer (map (λ text. text.now) ts) → names_in c.loop-text.index ≡ map (λ text. text.now) ts) c.args.texts.now c.loop-text.text-index c.loop-text-test.false
    c.loop-text.invariant.in_order
