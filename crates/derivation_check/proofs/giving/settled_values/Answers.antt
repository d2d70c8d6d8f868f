use Rattle.std.proofs.Common.{map}
use Rattle.rule_schemes.specs.View.{statement_input}
use Rattle.derivation_check.specs.Pieces.{piece}
use Rattle.derivation_check.specs.Settling.{IsValueFor}
use Rattle.derivation_check.proofs.FitLemmas.{one_more}
use Rattle.derivation_check.proofs.giving.settled_values.Goals as goal

pub loop-i-preserved : goal.loop-i-preserved
loop-i-preserved c =
    let found = rw c.in-Some.is at c.in_ok-value.ensures in
    one_more (IsValueFor (map statement_input c.args.inputs.now) (map piece c.args.pieces.now)) c.loop-i.all c.push.new.self c.loop-i.i _ c.in-Some.value c.in_ok-push-in-Some.ensures.ok
    c.in_ok-number.ensures found c.loop-i.invariant
