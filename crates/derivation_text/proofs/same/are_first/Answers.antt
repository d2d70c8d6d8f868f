use Rattle.std.proofs.Common.{sym}
use Rattle.derivation_text.proofs.Sameness.{too_few}
use Rattle.derivation_text.proofs.same.are_first.Goals as goal

pub returns-then-first-entries : goal.returns-then-first-entries
returns-then-first-entries c = sym (too_few c.args.first.now c.args.entries.now c.if-first-entries.true)
