use Rattle.std.proofs.Common.{◌≡◌, ◌-◌, sym, ap, ◌∙◌, arith}
use Rattle.std.specs.Prelude.{Some, None, slice_get}
use Rattle.std.proofs.lemmas.Iterator.Consumers.{nth_from_yields_List, YieldsList-from_first}
use Rattle.bstr.specs.Text.{lines_of}
use Rattle.sy_base.specs.SourceLine.{without_last}
use Rattle.proof_lexer.proofs.LineLemmas.{line_there, line_past}
use Rattle.proof_lexer.proofs.line.source_line.Goals as goal

pub returns-in-Some : goal.returns-in-Some
returns-in-Some c =
    let found : Some c.in-Some.found.now ≡ slice_get (lines_of c.args.source.now) (c.args.line - 1) =
    nth_from_yields_List (Some c.in-Some.found) _ _ c.in-Some.ensures.ran
    (YieldsList-from_first (λ x. x.now) (λ rest. rest) (lines_of c.args.source.now) c.lines_with_terminator.ensures.value) in
    c.without_last-in-Some.ensures ∙ ap (λ l. without_last l 13) c.without_last.ensures
    ∙ line_there c.args.source.now c.in-Some.found.now (c.args.line - 1) c.args.line (let some = c.if-line-eq0.false in omega arith) (sym found)

pub returns-in-None : goal.returns-in-None
returns-in-None c =
    let none : None ≡ slice_get (lines_of c.args.source.now) (c.args.line - 1) =
    nth_from_yields_List None _ _ c.in-None.ensures.ran
    (YieldsList-from_first (λ x. x.now) (λ rest. rest) (lines_of c.args.source.now) c.lines_with_terminator.ensures.value) in
    line_past c.args.source.now (c.args.line - 1) c.args.line (let some = c.if-line-eq0.false in omega arith) (sym none)
