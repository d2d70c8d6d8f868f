use Rattle.std.proofs.Common.{map}
use Rattle.term_reader.specs.View.{token}
use Rattle.derivation_text.proofs.NodeLemmas.{not_when}
use Rattle.derivation_text.proofs.EndingLemmas.{no_comma, comma_front}
use Rattle.derivation_text.proofs.arguments.after_comma.Goals as goal

pub returns-then-not-is_punctuation-clause-next : goal.returns-then-not-is_punctuation-clause-next
returns-then-not-is_punctuation-clause-next c =
    no_comma c.args.known.now (token c.args.comma.now) (map token c.args.tokens.now) (not_when c.is_punctuation.ensures c.if-not-is_punctuation.true)

pub returns-clause-next : goal.returns-clause-next
returns-clause-next c =
    comma_front c.args.known.now (token c.args.comma.now) c.args.tokens.now c.front.result (c.is_punctuation.ensures.0 c.if-not-is_punctuation.false) c.front.ensures.front
