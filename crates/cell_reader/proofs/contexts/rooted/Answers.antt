use Rattle.std.proofs.Common.{◌∙◌, sym, true≢false, subst}
use Rattle.rule_schemes.specs.Said.{IsBefore}
use Rattle.ordered_readings.specs.FirstTwo.{AreFirst}
use Rattle.form_cells.specs.Cells.{range_of}
use Rattle.form_cells.specs.View.{in_scope}
use Rattle.cell_reader.specs.View.{reading_scope}
use Rattle.cell_reader.specs.Contexts.{IsRoot}
use Rattle.cell_reader.proofs.EntryLemmas.{root_found, no_root_name, no_root_scope}
use Rattle.cell_reader.proofs.contexts.rooted.Goals as goal

pub is_category_name-requires : goal.is_category_name-requires
is_category_name-requires c = c.requires.range

pub returns-then-not-is_category_name : goal.returns-then-not-is_category_name
returns-then-not-is_category_name c =
    let sheet = c.args.sheet.now in
    no_root_name sheet.sig.now (reading_scope c.args.outside.now.scope.now) sheet.metas.now c.args.outside.now.cat.0 (in_scope c.args.vars.now) (range_of sheet c.args.from c.args.to)
    (λ h. true≢false (sym (c.is_category_name.ensures.1 h) ∙ c.if-not-is_category_name.true))

pub returns-then-not-same_scope : goal.returns-then-not-same_scope
returns-then-not-same_scope c =
    let sheet = c.args.sheet.now in
    no_root_scope sheet.sig.now (reading_scope c.args.outside.now.scope.now) sheet.metas.now c.args.outside.now.cat.0 (in_scope c.args.vars.now) (range_of sheet c.args.from c.args.to)
    (λ h. true≢false (sym (c.same_scope.ensures.1 (h ∙ sym c.requires.outside.rooted)) ∙ c.if-not-same_scope.true))

pub returns : goal.returns
returns c =
    let sheet = c.args.sheet.now in
    let scope = reading_scope c.args.outside.now.scope.now in
    let vars = in_scope c.args.vars.now in
    subst (AreFirst IsBefore (IsRoot sheet.sig.now scope sheet.metas.now c.args.outside.now.cat.0 vars Rattle.std.proofs.Common.[] (range_of sheet c.args.from c.args.to))) (sym c.at_end.ensures)
    (root_found sheet.sig.now scope sheet.metas.now c.args.outside.now.cat.0 vars (range_of sheet c.args.from c.args.to)
    (c.is_category_name.ensures.0 c.if-not-is_category_name.false) (c.same_scope.ensures.0 c.if-not-same_scope.false ∙ c.requires.outside.rooted))
