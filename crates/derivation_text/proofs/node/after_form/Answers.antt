use Rattle.std.proofs.Common.{arith}
use Rattle.std.proofs.lemmas.List.{length-map}
use Rattle.term_reader.specs.View.{token}
use Rattle.derivation_text.proofs.NodeLemmas.{no_parts_short}
use Rattle.derivation_text.proofs.node.after_form.Goals as goal

pub returns-in_default : goal.returns-in_default
returns-in_default c ts cut = no_parts_short ts _ _ cut (omega (arith, length-map c.args.back.now token))
