use Rattle.std.proofs.Common.{inl, inr}
use Rattle.binding_terms.specs.View.{tree}
use Rattle.scheme_terms.specs.Embedding.{embedded}
use Rattle.scheme_terms.specs.View.{context_value}
use Rattle.scheme_match.specs.Pairs.{matched}
use Rattle.scheme_match.specs.Demands.{PairDemands}
use Rattle.scheme_match.proofs.Asking.{one_next, none_left}
use Rattle.scheme_match.proofs.asked.asked_in_pairs.Goals as goal

pub returns-in-Some : goal.returns-in-Some
returns-in-Some c =
    let v = embedded (tree c.in-Some.value) in
    let next = one_next (λ p. PairDemands (context_value c.args.root.now) c.args.m.0 p v) matched c.args.pairs.now c.loop-pair.pair-index c.pair-item.result
    c.loop-pair-test.true c.pair-item.is in
    (c.loop-pair.invariant v).0 (next.1 (inl (rw c.in-Some.is at c.in_ok-value.ensures)))

pub loop-pair-preserved : goal.loop-pair-preserved
loop-pair-preserved c v =
    let next = one_next (λ p. PairDemands (context_value c.args.root.now) c.args.m.0 p v) matched c.args.pairs.now c.loop-pair.pair-index c.pair-item.result
    c.loop-pair-test.true c.pair-item.is in
    let none = rw c.in-None.is at c.in_ok-value.ensures in (
      λ h. (c.loop-pair.invariant v).0 (next.1 (inr h)),
      λ h. elim (next.0 ((c.loop-pair.invariant v).1 h)) [ inl here ↦ absurd (none v here) | inr rest ↦ rest ],
    )

pub returns : goal.returns
returns c v asked =
    none_left (λ p. PairDemands (context_value c.args.root.now) c.args.m.0 p v) matched c.args.pairs.now c.loop-pair.pair-index c.loop-pair-test.false
    ((c.loop-pair.invariant v).1 asked)
