use Rattle.std.proofs.Common.{◌∙◌, ◌++◌, sym, ap, arith}
use Rattle.std.specs.Str.{chars}
use Rattle.proof_lexer.proofs.TextLemmas.{cut_before}
use Rattle.proof_lexer.proofs.characters.part_before.Goals as goal

pub overflow_sub-text : goal.overflow_sub-text
overflow_sub-text c = (cut_before c.args.text.now c.args.end.now c.utf8.text c.utf8.end c.requires).within

pub split_at-requires : goal.split_at-requires
split_at-requires c = (cut_before c.args.text.now c.args.end.now c.utf8.text c.utf8.end c.requires).boundary

pub returns-clause-part : goal.returns-clause-part
returns-clause-part c =
    (cut_before c.args.text.now c.args.end.now c.utf8.text c.utf8.end c.requires).parts
    ∙ ap (λ l. chars l ++ chars c.args.end.now) (sym c.split_at.ensures.front)

pub returns-clause-size : goal.returns-clause-size
returns-clause-size c =
    let cut = cut_before c.args.text.now c.args.end.now c.utf8.text c.utf8.end c.requires in
    omega (arith, cut.within, c.split_at.ensures.front_len)
