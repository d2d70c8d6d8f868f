use Rattle.std.proofs.Common.{[]}
use Rattle.judgments.proofs.Collecting.{no_tokens}
use Rattle.judgments.proofs.statements.input_names.Goals as goal

pub returns : goal.returns
returns c = c.in_ok-take_given_names.ensures [] (rw c.new-metas.ensures (no_tokens c.args.sig.now.cats))
