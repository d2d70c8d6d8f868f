use Rattle.user_grammar.proofs.Spellings.{apart_names, spelling_is_not_apart, other_is_not_apart}
use Rattle.judgments.proofs.words.names_apart.Goals as goal

pub returns : goal.returns
returns c =
    let one = c.args.one.now.name in
    let other = c.args.other.now.name in (
      λ t. (let neither = c.neither_spells.ensures.0 t in apart_names one other neither.0 neither.1),
      λ apart. c.neither_spells.ensures.1 (spelling_is_not_apart one other apart, other_is_not_apart one other apart),
    )
