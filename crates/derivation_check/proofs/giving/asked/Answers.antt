use Rattle.std.proofs.Common.{inl, inr}
use Rattle.binding_terms.specs.View.{tree}
use Rattle.scheme_terms.specs.Embedding.{embedded}
use Rattle.derivation_check.specs.Pieces.{piece}
use Rattle.derivation_check.specs.Settling.{PieceDemands}
use Rattle.scheme_match.proofs.Asking.{one_next, none_left}
use Rattle.derivation_check.proofs.giving.asked.Goals as goal

pub returns-in-Some : goal.returns-in-Some
returns-in-Some c =
    let v = embedded (tree c.in-Some.value) in
    let next = one_next (PieceDemands c.args.m.0 v) piece c.args.pieces.now c.loop-one.one-index c.one-item.result c.loop-one-test.true c.one-item.is in
    (c.loop-one.invariant v).0 (next.1 (inl (rw c.in-Some.is at c.in_ok-value.ensures)))

pub loop-one-preserved : goal.loop-one-preserved
loop-one-preserved c v =
    let next = one_next (PieceDemands c.args.m.0 v) piece c.args.pieces.now c.loop-one.one-index c.one-item.result c.loop-one-test.true c.one-item.is in
    let none = rw c.in-None.is at c.in_ok-value.ensures in (
      λ h. (c.loop-one.invariant v).0 (next.1 (inr h)),
      λ h. elim (next.0 ((c.loop-one.invariant v).1 h)) [ inl here ↦ absurd (none v here) | inr rest ↦ rest ],
    )

pub returns : goal.returns
returns c v asked = none_left (PieceDemands c.args.m.0 v) piece c.args.pieces.now c.loop-one.one-index c.loop-one-test.false ((c.loop-one.invariant v).1 asked)
