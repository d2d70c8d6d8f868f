use Rattle.std.proofs.Common.{[]}
use Rattle.judgments.proofs.Collecting.{no_tokens}
use Rattle.judgments.proofs.statements.output_names.Goals as goal

pub returns : goal.returns
returns c = c.in_ok-take_all_names.ensures.collected [] (rw c.new-metas.ensures (no_tokens c.args.sig.now.cats))
