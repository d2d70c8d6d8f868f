use Rattle.proof_lexer.proofs.FrontLemmas.{open_comment, block_front, no_lone_star}
use Rattle.proof_lexer.proofs.front.block_comment.Goals as goal

pub unreachable-requires : goal.unreachable-requires
unreachable-requires c =
    no_lone_star _ _ _ c.in-Some.field-0-0 c.after_run-end.ensures c.in-Some.ensures.0 c.in-None-first_of.ensures.0

pub returns-in-Some-first_of : goal.returns-in-Some-first_of
returns-in-Some-first_of c =
    block_front _ _ _ c.in-Some.field-0-0 c.after_run-end.ensures c.in-Some.ensures.0 c.in-Some-first_of.field-0-0 _
    c.in-Some-first_of.ensures.0

pub returns-in-None : goal.returns-in-None
returns-in-None c = open_comment _ _ c.after_run-end.ensures c.in-None.ensures.0
