use Rattle.rule_schemes.proofs.SpellingLemmas.{spelled_by_ending}
use Rattle.rule_schemes.proofs.spelling.is_spelling.Goals as goal

pub returns-in-Some : goal.returns-in-Some
returns-in-Some c = spelled_by_ending c.args.name.now c.args.word.now _ c.are_endings.result c.in-Some.ensures c.are_endings.ensures
