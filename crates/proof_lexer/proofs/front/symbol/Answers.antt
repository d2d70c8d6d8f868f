use Rattle.proof_lexer.proofs.FrontLemmas.{symbol_front}
use Rattle.proof_lexer.proofs.front.symbol.Goals as goal

pub returns : goal.returns
returns c = (
  c.part_before-symbol.utf8,
  symbol_front _ _ _ _ c.args.first _ c.requires.parts c.part_before-symbol.ensures.part c.requires.goes_on c.after_run-rest.ensures
      c.symbol_kind.ensures,
)
