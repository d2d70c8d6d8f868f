use Rattle.std.proofs.Common.{length}
use Rattle.term_reader.specs.Firsts.{listed}
use Rattle.term_reader.specs.Splitting.{tokens_of}
use Rattle.term_reader.proofs.SplitLemmas.{if_ok}
use Rattle.notation_parser.specs.Fronts.{placed}
use Rattle.notation_parser.specs.Shapes.{context_shape}
use Rattle.notation_parser.specs.View.{reading_scope}
use Rattle.notation_parser.proofs.Slices.{front_within, behind_within, pieces_around, fronts_around, placed_around}
use Rattle.notation_parser.proofs.in_context.in_one_shape.Goals as goal

pub parts-requires-clause-within : goal.parts-requires-clause-within
parts-requires-clause-within c = front_within (length c.args.sheet.now.tokens.now) c.args.slots.now c.args.place c.requires.within

pub parts-requires-2-clause-within : goal.parts-requires-2-clause-within
parts-requires-2-clause-within c = behind_within (length c.args.sheet.now.tokens.now) c.args.slots.now c.args.place c.requires.within

pub all_placed-requires-clause-within : goal.all_placed-requires-clause-within
all_placed-requires-clause-within c = front_within (length c.args.sheet.now.tokens.now) c.args.slots.now c.args.place c.requires.within

pub all_placed-requires-clause-reads : goal.all_placed-requires-clause-reads
all_placed-requires-clause-reads c =
    let sheet = c.args.sheet.now in
    let scope = reading_scope c.args.scope.now in
    let shape = context_shape c.args.shape.now in
    let around = pieces_around sheet.sig.now scope sheet.metas.now (tokens_of sheet) c.args.cat c.args.number c.args.place c.args.slots.now shape _ _ _ _
    (rw (c.as_slice.ensures, c.in_ok-vars.ensures.variables) at c.in_ok-fronts.ensures) c.in_ok-contexts.ensures
    (rw (c.as_slice-2.ensures, c.in_ok-vars.ensures.variables) at c.in_ok-behind.ensures) c.in_ok-found.ensures in
    rw (c.as_slice-3.ensures, c.in_ok-vars.ensures.variables)
    (fronts_around sheet.sig.now scope sheet.metas.now (tokens_of sheet) c.args.cat c.args.number c.args.place c.args.slots.now shape _ around)

pub returns : goal.returns
returns c =
    let sheet = c.args.sheet.now in
    let scope = reading_scope c.args.scope.now in
    let shape = context_shape c.args.shape.now in
    let around = pieces_around sheet.sig.now scope sheet.metas.now (tokens_of sheet) c.args.cat c.args.number c.args.place c.args.slots.now shape _ _ _ _
    (rw (c.as_slice.ensures, c.in_ok-vars.ensures.variables) at c.in_ok-fronts.ensures) c.in_ok-contexts.ensures
    (rw (c.as_slice-2.ensures, c.in_ok-vars.ensures.variables) at c.in_ok-behind.ensures) c.in_ok-found.ensures in
    if_ok c.all_placed.result _ _
    (λ new told. placed_around sheet.sig.now scope sheet.metas.now (tokens_of sheet) c.args.cat c.args.number c.args.place c.args.slots.now shape _ (listed placed new) around told)
    (rw (c.as_slice-3.ensures, c.in_ok-vars.ensures.variables) at c.all_placed.ensures)
