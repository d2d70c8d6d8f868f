use Rattle.std.proofs.Common.{arith}
use Rattle.std.specs.Str.{chars}
use Rattle.proof_lexer.proofs.CursorLemmas.{few_line_feeds, past_same}
use Rattle.proof_lexer.proofs.cursor.Cursor.past.Goals as goal

pub overflow_add-result-2 : goal.overflow_add-result-2
overflow_add-result-2 c =
    omega (
      arith,
      c.part_before-taken.ensures.size,
      c.requires.room,
      c.requires.line,
      c.line_feeds.ensures,
      few_line_feeds c.part_before-taken.result.now c.part_before-taken.utf8,
    )

pub returns-clause-goes : goal.returns-clause-goes
returns-clause-goes c = record {
  spot = λ taken parts.
      past_same _ c.part_before-taken.result.now taken (chars c.args.rest.now) _ c.part_before-taken.utf8 (c.part_before-taken.ensures.part) parts
      c.line_feeds.ensures;
  sizes = omega (arith, c.part_before-taken.ensures.size);
  line = omega (arith, c.requires.line, c.line_feeds.ensures, few_line_feeds c.part_before-taken.result.now c.part_before-taken.utf8);
}
