use Rattle.std.proofs.Common.{sym}
use Rattle.derivation_text.proofs.Sameness.{uneven}
use Rattle.derivation_text.proofs.same.are_same.Goals as goal

pub returns-then-a-b : goal.returns-then-a-b
returns-then-a-b c = sym (uneven c.args.a.now c.args.b.now c.if-a-b.true)
