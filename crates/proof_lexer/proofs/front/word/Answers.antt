use Rattle.sy_base.specs.Tokens.{goes_on_word}
use Rattle.proof_lexer.proofs.FrontLemmas.{EndsWith-more, EndsWith-run, word_front}
use Rattle.proof_lexer.proofs.front.word.Goals as goal

pub part_before-requires : goal.part_before-requires
part_before-requires c =
    EndsWith-more _ _ _ c.args.first c.requires.parts (EndsWith-run goes_on_word _ _ c.after_run-rest.ensures)

pub returns : goal.returns
returns c = (
  c.part_before.utf8,
  word_front _ _ _ _ c.args.first c.requires.parts c.part_before.ensures.part c.requires.word c.after_run-rest.ensures,
)
