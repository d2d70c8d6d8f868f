use Rattle.std.proofs.Common.{length, map, sym, subst}
use Rattle.rule_schemes.specs.Said.{IsBefore}
use Rattle.term_reader.specs.Firsts.{listed, AreFirst}
use Rattle.term_reader.specs.Splitting.{slot_range, tokens_of}
use Rattle.notation_parser.specs.Forms.{IsReadInSlots}
use Rattle.notation_parser.specs.Fronts.{placed}
use Rattle.notation_parser.specs.Shapes.{context_shape}
use Rattle.notation_parser.specs.View.{reading_scope}
use Rattle.notation_parser.proofs.ContextPlaces.{no_place}
use Rattle.notation_parser.proofs.Slices.{piece_within, pieces_read}
use Rattle.notation_parser.proofs.in_context.in_slots.Goals as goal

pub shapes-requires-clause-range : goal.shapes-requires-clause-range
shapes-requires-clause-range c = piece_within (length c.args.sheet.now.tokens.now) c.args.slots.now c.in-Some.place c.in-Some.ensures.0 c.requires.within

pub returns-in-None : goal.returns-in-None
returns-in-None c = λ w x h. no_place c.args.cat.0 h.0 (map slot_range c.args.slots.now) c.in-None.ensures h.2

pub returns-in_ok-found-in-Some : goal.returns-in_ok-found-in-Some
returns-in_ok-found-in-Some c =
    let sheet = c.args.sheet.now in
    let scope = reading_scope c.args.scope.now in
    subst (AreFirst IsBefore (IsReadInSlots sheet.sig.now scope sheet.metas.now (tokens_of sheet) c.args.cat c.args.number (map slot_range c.args.slots.now))) (sym c.outcomes.ensures)
    (pieces_read sheet.sig.now scope sheet.metas.now (tokens_of sheet) c.args.cat c.args.number c.in-Some.place c.args.slots.now (map context_shape c.in_ok-all-in-Some.all) (listed placed c.in_ok-found-in-Some.found)
    c.in-Some.ensures.0 c.in-Some.ensures.1 c.in_ok-all-in-Some.ensures.shapes (rw c.as_slice.ensures at c.in_ok-found-in-Some.ensures))
