use Rattle.term_reader.proofs.SplitLemmas.{if_ok}
use Rattle.term_reader.specs.View.{token}
use Rattle.notation_parser.proofs.Tellings.{tells_later_at}
use Rattle.notation_parser.proofs.parameters.+first_telling.Goals as goal

pub returns-in-None : goal.returns-in-None
returns-in-None t c =
    if_ok c.first_telling.result _ _
    (λ found h. tells_later_at token c.args.sig.now c.args.name.now c.args.tokens.now _ c.in-len1-up.len_at_least (rw c.in-None.is at c.in_ok-cats-in-len1-up.ensures) found h)
    c.first_telling.ensures
