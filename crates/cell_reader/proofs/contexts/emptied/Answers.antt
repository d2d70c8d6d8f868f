use Rattle.std.proofs.Common.{[], ◌∙◌, sym, subst, true≢false}
use Rattle.rule_schemes.specs.Said.{IsBefore}
use Rattle.ordered_readings.specs.FirstTwo.{AreFirst}
use Rattle.ordered_readings.specs.AnswerView.{answers}
use Rattle.form_cells.specs.Cells.{range_of}
use Rattle.form_cells.specs.View.{in_scope}
use Rattle.cell_reader.specs.View.{reading_scope}
use Rattle.cell_reader.specs.Contexts.{IsEmptyOf}
use Rattle.cell_reader.proofs.EntryLemmas.{no_empty_scope, no_empty, empty_found, terminals_not_single}
use Rattle.cell_reader.proofs.contexts.emptied.Goals as goal

pub returns-then-not-same_scope-clause-first : goal.returns-then-not-same_scope-clause-first
returns-then-not-same_scope-clause-first c =
    let sheet = c.args.sheet.now in
    no_empty_scope sheet.sig.now (reading_scope c.args.outside.now.scope.now) sheet.metas.now c.args.outside.now.cat.0 (in_scope c.args.vars.now) (range_of sheet c.args.from c.args.to)
    c.args.p c.args.items.now (λ h. true≢false (sym (c.same_scope.ensures.1 (h ∙ sym c.requires.outside.knowns)) ∙ c.if-not-same_scope.true))

pub returns-then-not-same_scope-clause-table : goal.returns-then-not-same_scope-clause-table
returns-then-not-same_scope-clause-table c = c.requires.table

pub rows-requires-clause-not_single : goal.rows-requires-clause-not_single
rows-requires-clause-not_single c = λ e h. terminals_not_single c.args.items.now c.requires.terminals h

pub returns-then-is_none-clause-first : goal.returns-then-is_none-clause-first
returns-then-is_none-clause-first c =
    let sheet = c.args.sheet.now in
    let read = rw (c.in_ok-number.ensures, c.in_ok-alternative.ensures) at c.in_ok-found.ensures.first in
    no_empty sheet.sig.now (reading_scope c.args.outside.now.scope.now) sheet.metas.now c.args.outside.now.cat.0 (in_scope c.args.vars.now) (range_of sheet c.args.from c.args.to)
    c.args.p c.args.items.now (answers c.in_ok-found.found) (c.is_none.ensures.0 c.if-is_none.true) read

pub returns-then-is_none-clause-table : goal.returns-then-is_none-clause-table
returns-then-is_none-clause-table c = c.in_ok-found.ensures.table

pub returns-clause-first : goal.returns-clause-first
returns-clause-first c =
    let sheet = c.args.sheet.now in
    let scope = reading_scope c.args.outside.now.scope.now in
    let vars = in_scope c.args.vars.now in
    let read = rw (c.in_ok-number.ensures, c.in_ok-alternative.ensures) at c.in_ok-found.ensures.first in
    let told = rw c.in_ok-alternative.ensures at c.at_end.ensures in
    subst (AreFirst IsBefore (IsEmptyOf sheet.sig.now scope sheet.metas.now c.args.p c.args.items.now vars [] (range_of sheet c.args.from c.args.to))) (sym told)
    (empty_found sheet.sig.now scope sheet.metas.now c.args.outside.now.cat.0 vars (range_of sheet c.args.from c.args.to)
    c.args.p c.args.items.now (c.same_scope.ensures.0 c.if-not-same_scope.false ∙ c.requires.outside.knowns) c.requires.terminals (answers c.in_ok-found.found)
    (λ e. true≢false (sym (c.is_none.ensures.1 e) ∙ c.if-is_none.false)) read)

pub returns-clause-table : goal.returns-clause-table
returns-clause-table c = c.in_ok-found.ensures.table
