use Rattle.std.proofs.Common.{◌∙◌, map, sym}
use Rattle.term_reader.specs.View.{token}
use Rattle.derivation_text.proofs.EndingLemmas.{is_given, no_given}
use Rattle.derivation_text.proofs.ending.given.Goals as goal

pub returns-in-Some : goal.returns-in-Some
returns-in-Some c = is_given c.args.known.now (map token c.args.tokens.now) c.in-Some.names (sym c.in_ok-names.ensures ∙ c.in-Some.is)

pub returns-in-None : goal.returns-in-None
returns-in-None c = no_given c.args.known.now (map token c.args.tokens.now) (sym c.in_ok-names.ensures ∙ c.in-None.is)
