use Rattle.std.proofs.Common.{sym, subst, ◌∙◌, true≢false, slice_range}
use Rattle.term_reader.specs.Splitting.{tokens_of}
use Rattle.term_reader.proofs.SplitLemmas.{if_ok}
use Rattle.notation_parser.specs.ContextCases.{IsNamed, AreListed}
use Rattle.notation_parser.specs.View.{reading_scope}
use Rattle.notation_parser.proofs.ContextBeginnings.{named_listed, not_named}
use Rattle.notation_parser.proofs.shaping.named_shapes.Goals as goal

pub returns-then-not-is_category_name : goal.returns-then-not-is_category_name
returns-then-not-is_category_name c =
    let sheet = c.args.sheet.now in
    rw c.new.ensures
    (not_named sheet (reading_scope c.args.scope.now) c.args.cat (slice_range (tokens_of sheet) c.args.from c.args.to)
    (λ h. true≢false (sym (c.is_category_name.ensures.1 h) ∙ c.if-not-is_category_name.true)))

pub returns : goal.returns
returns c =
    let sheet = c.args.sheet.now in
    let scope = reading_scope c.args.scope.now in
    let us = slice_range (tokens_of sheet) c.args.from c.args.to in
    if_ok c.alone.result _ _
    (λ all e. subst (AreListed sheet scope c.args.cat (IsNamed sheet.sig.now scope c.args.cat us)) (sym e)
    (named_listed sheet scope c.args.cat us (c.is_category_name.ensures.0 c.if-not-is_category_name.false))) c.alone.ensures
