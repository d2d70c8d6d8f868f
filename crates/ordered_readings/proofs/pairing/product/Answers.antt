use Rattle.std.proofs.Common.{inl, inr, refl, sym, subst}
use Rattle.rule_schemes.specs.Said.{IsBefore}
use Rattle.ordered_readings.specs.AnswerView.{answers, behind}
use Rattle.ordered_readings.specs.NodeView.{reading}
use Rattle.ordered_readings.specs.FirstTwo.{AreComparable, AreFirstOf}
use Rattle.ordered_readings.proofs.PairLemmas.{one_pair, two_pairs}
use Rattle.ordered_readings.proofs.pairing.product.Goals as goal

pub returns-in_ok-one-in-One : goal.returns-in_ok-one-in-One
returns-in_ok-one-in-One c =
    let f = behind c.args.length c.args.binds in
    λ rows. rw (c.in-One.is, c.in_ok-one-in-One.ensures rows)
    (λ order h. one_pair f (reading c.in-One.a) (answers c.args.rests.now) (order (reading c.in-One.a) (inl refl)))

pub returns-in_ok-two-in-Two : goal.returns-in_ok-two-in-Two
returns-in_ok-two-in-Two c =
    let f = behind c.args.length c.args.binds in
    let a = reading c.in-Two.a in
    let b = reading c.in-Two.b in
    let es = answers c.args.rests.now in
    let both = two_pairs f a b es in
    λ rows.
    (let joins = rw (c.in_ok-one-in-Two.ensures rows, c.in_ok-two-in-Two.ensures rows) at c.joined.ensures in
    rw c.in-Two.is
    (λ order h. subst (λ xs. AreFirstOf IsBefore xs (answers c.joined.result)) (sym both)
    (joins (order b (inr (inl refl))) (subst (AreComparable IsBefore) both h))))
