use Rattle.proof_lexer.proofs.FrontLemmas.{EndsWith-first, single_front}
use Rattle.proof_lexer.proofs.front.single.Goals as goal

pub part_before-requires : goal.part_before-requires
part_before-requires c = EndsWith-first _ _ c.args.first c.requires.parts

pub returns : goal.returns
returns c =
    (c.part_before.utf8, single_front _ _ _ c.args.first c.requires.parts c.part_before.ensures.part c.requires.single)
