-- Spellings over the signature of a file.
use Rattle.user_grammar.specs.Names.{category_names, variable_names}
use Rattle.user_grammar.proofs.Spellings.{apart_left, one_category}
use Rattle.judgments.specs.Laws.{SignaturesSpellApart}

pub spell_apart : SignaturesSpellApart
spell_apart portions sig h c d w = one_category sig.cats c d w (apart_left (category_names sig.cats) (variable_names sig.cats) ((h.written).names).apart)
