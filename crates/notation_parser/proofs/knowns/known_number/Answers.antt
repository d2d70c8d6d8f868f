use Rattle.std.proofs.Common.{◌≡◌, take, true≢false, sym, ◌∙◌}
use Rattle.std.proofs.lemmas.List.{take_all}
use Rattle.notation_parser.proofs.KnownNumbers.{known_here, known_later, known_next}
use Rattle.notation_parser.proofs.knowns.known_number.Goals as goal

pub returns-then-has_name : goal.returns-then-has_name
returns-then-has_name c =
    known_here c.args.knowns.now c.args.name.now c.loop-i.i c.index-knowns-i.result c.loop-i-test.true c.index-knowns-i.is (c.has_name.ensures.0 c.if-has_name.true)

pub loop-i-preserved : goal.loop-i-preserved
loop-i-preserved c =
    known_later c.args.knowns.now c.args.name.now c.loop-i.i c.index-knowns-i.result c.loop-i-test.true c.index-knowns-i.is
    (λ e. true≢false (sym (c.has_name.ensures.1 e) ∙ c.if-has_name.false)) c.loop-i.invariant

pub returns : goal.returns
returns c =
    let whole : take c.loop-i.i c.args.knowns.now ≡ c.args.knowns.now = take_all c.loop-i.i c.args.knowns.now c.loop-i-test.false in
    known_next c.args.knowns.now c.args.name.now (rw whole at c.loop-i.invariant)
