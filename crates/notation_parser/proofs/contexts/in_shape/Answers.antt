use Rattle.std.proofs.Common.{◌≡◌, ◌<◌, [], length, map, take, get_or, sym, subst}
use Rattle.scheme_terms.specs.View.{scheme_parts}
use Rattle.rule_schemes.specs.Reading.{bare}
use Rattle.rule_schemes.specs.Said.{IsBefore, AreBefore}
use Rattle.term_reader.specs.Firsts.{listed, AreFirst, paired}
use Rattle.term_reader.specs.Splitting.{AreKnown, tokens_of, slot_range, ReadsPieces}
use Rattle.notation_parser.specs.Shapes.{ContextShape, begun, entry_shape, grown, shape_variables, ReadsInShape, written_context, with_entry}
use Rattle.notation_parser.specs.View.{reading_scope}
use Rattle.notation_parser.proofs.ContextEntries.{known_shape}
use Rattle.notation_parser.proofs.ContextFirsts.{first_entered}
use Rattle.notation_parser.proofs.ShapeViews.{grown_more, variables_more, usable_at, usable_start}
use Rattle.notation_parser.proofs.contexts.in_shape.Goals as goal

pub begin-requires-clause-usable : goal.begin-requires-clause-usable
begin-requires-clause-usable c =
    usable_start c.args.sheet.now (begun c.args.shape.now.start) (map entry_shape c.args.shape.now.entries) c.requires.usable

pub loop-entry-init : goal.loop-entry-init
loop-entry-init c = (c.in_ok-vars.ensures, c.in_ok-found.ensures)

pub parts-requires-clause-vars : goal.parts-requires-clause-vars
parts-requires-clause-vars c =
    let sheet = c.args.sheet.now in
    let scope = reading_scope c.args.scope.now in
    let entries = c.args.shape.now.entries in
    let j = c.loop-entry.entry-index in
    let front : ContextShape = grown (begun c.args.shape.now.start) (map entry_shape (take j entries)) in
    let lt : j < length entries = rw c.as_slice-entry-items.ensures at c.loop-entry-test.true in
    let is : c.entry-item.result ≡ get_or entries j c.entry-item.result = rw c.as_slice-entry-items.ensures at c.entry-item.is in
    let usable = usable_at sheet (begun c.args.shape.now.start) entries j c.entry-item.result lt is c.requires.usable in
    rw c.as_slice.ensures
    (subst (AreKnown sheet) (sym c.loop-entry.invariant.0) (known_shape sheet scope c.args.cat.0 front c.requires.scope usable.0))

pub parts-requires-clause-within : goal.parts-requires-clause-within
parts-requires-clause-within c =
    let sheet = c.args.sheet.now in
    let entries = c.args.shape.now.entries in
    let j = c.loop-entry.entry-index in
    let lt : j < length entries = rw c.as_slice-entry-items.ensures at c.loop-entry-test.true in
    let is : c.entry-item.result ≡ get_or entries j c.entry-item.result = rw c.as_slice-entry-items.ensures at c.entry-item.is in
    let usable = usable_at sheet (begun c.args.shape.now.start) entries j c.entry-item.result lt is c.requires.usable in
    rw c.as_slice-in-loop-entry.ensures usable.2

pub loop-entry-preserved : goal.loop-entry-preserved
loop-entry-preserved c =
    let sheet = c.args.sheet.now in
    let scope = reading_scope c.args.scope.now in
    let ts = tokens_of sheet in
    let begin = begun c.args.shape.now.start in
    let entries = c.args.shape.now.entries in
    let j = c.loop-entry.entry-index in
    let here = c.entry-item.result in
    let front : ContextShape = grown begin (map entry_shape (take j entries)) in
    let lt : j < length entries = rw c.as_slice-entry-items.ensures at c.loop-entry-test.true in
    let is : here ≡ get_or entries j here = rw c.as_slice-entry-items.ensures at c.entry-item.is in
    let slots : AreFirst AreBefore (ReadsPieces sheet.sig.now sheet.metas.now ts (shape_variables sheet.sig.now scope c.args.cat.0 front) [] (map slot_range here.slots)) (listed scheme_parts c.in_ok-slots.slots) =
    rw (c.as_slice.ensures, c.loop-entry.invariant.0, c.as_slice-in-loop-entry.ensures) at c.in_ok-slots.ensures in (
      rw c.in_ok-push.ensures.ok
          (variables_more sheet.sig.now scope c.args.cat.0 begin entries j here c.loop-entry.vars lt is c.loop-entry.invariant.0),
      rw c.in_ok-found-2.ensures
          (subst (λ s. AreFirst IsBefore (ReadsInShape sheet.sig.now scope sheet.metas.now ts c.args.cat s)
          (paired (with_entry here.prod.0) (listed written_context c.loop-entry.found) (map bare (listed scheme_parts c.in_ok-slots.slots))))
          (sym (grown_more begin entries j here lt is))
          (first_entered sheet.sig.now scope sheet.metas.now ts c.args.cat front (entry_shape here) (listed written_context c.loop-entry.found) (listed scheme_parts c.in_ok-slots.slots)
          c.loop-entry.invariant.1 slots)),
    )
