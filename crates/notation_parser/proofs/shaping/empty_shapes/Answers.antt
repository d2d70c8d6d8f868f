use Rattle.std.proofs.Common.{◌≤◌, length, sym, subst, ◌∙◌, arith, slice_range}
use Rattle.std.proofs.lemmas.List.{length-map}
use Rattle.term_reader.specs.Splitting.{tokens_of, split, Stands, IsSplit, AreSplits}
use Rattle.term_reader.specs.View.{token}
use Rattle.term_reader.proofs.SplitLemmas.{if_ok}
use Rattle.notation_parser.specs.ContextCases.{IsEmptyOf, AreListed}
use Rattle.notation_parser.specs.View.{reading_scope}
use Rattle.notation_parser.proofs.ContextBeginnings.{no_empty, empty_listed}
use Rattle.notation_parser.proofs.shaping.empty_shapes.Goals as goal
use Rattle.binding_terms.proofs.Lists.{map_empty, map_not_empty}

pub returns-then-len-eq0 : goal.returns-then-len-eq0
returns-then-len-eq0 c =
    let sheet = c.args.sheet.now in
    let within : c.args.to ≤ length (tokens_of sheet) = omega (arith, c.requires.range.1, length-map sheet.tokens.now token) in
    let none = map_empty split c.in_ok-found.found (sym c.len.ensures ∙ c.if-len-eq0.true) in
    rw c.new.ensures
    (no_empty sheet (reading_scope c.args.scope.now) c.args.cat c.args.from c.args.to c.args.prod.0 c.args.items.now c.requires.range.0 within c.requires.words
    (subst (AreSplits (Stands sheet) (IsSplit sheet.sig.now (tokens_of sheet) c.args.to c.args.items.now c.args.from)) none c.in_ok-found.ensures))

pub returns : goal.returns
returns c =
    let sheet = c.args.sheet.now in
    let scope = reading_scope c.args.scope.now in
    let within : c.args.to ≤ length (tokens_of sheet) = omega (arith, c.requires.range.1, length-map sheet.tokens.now token) in
    let us = slice_range (tokens_of sheet) c.args.from c.args.to in
    let some = map_not_empty split c.in_ok-found.found (λ e. c.if-len-eq0.false (c.len.ensures ∙ e)) in
    if_ok c.alone.result _ _
    (λ all e. subst (AreListed sheet scope c.args.cat (IsEmptyOf sheet.sig.now scope sheet.metas.now c.args.cat us c.args.prod.0 c.args.items.now)) (sym e)
    (empty_listed sheet scope c.args.cat c.args.from c.args.to c.args.prod.0 c.args.items.now c.requires.range.0 within c.requires.words _ some c.in_ok-found.ensures))
    c.alone.ensures
