use Rattle.std.proofs.Common.{◌≡◌, ◌≤◌, IsTrue, length, drop, Some, slice_get, true≢false, refl, sym, subst, ap, ◌∙◌, arith}
use Rattle.std.proofs.lemmas.List.{length-map}
use Rattle.std.proofs.lemmas.Option.{slice_get_read}
use Rattle.std.specs.List.{list_all}
use Rattle.binding_terms.specs.Signature.{is_word}
use Rattle.term_reader.specs.Splitting.{tokens_of, split, Stands, IsSplit, AreSplits}
use Rattle.term_reader.specs.View.{token}
use Rattle.term_reader.proofs.SplitLemmas.{if_ok}
use Rattle.notation_parser.specs.ContextCases.{IsEnteredAt, AreListed}
use Rattle.notation_parser.specs.View.{reading_scope}
use Rattle.notation_parser.proofs.ContextBeginnings.{by_entry}
use Rattle.notation_parser.proofs.ContextEntries.{some_own, no_entry, entered_shapes}
use Rattle.notation_parser.proofs.ContextSteps.{entries_more, contexts_more, all_shapes}
use Rattle.notation_parser.proofs.shaping.+shapes.Goals as goal
use Rattle.binding_terms.proofs.Lists.{map_empty}

pub entered_at-returns-then-len-eq0 : goal.entered_at-returns-then-len-eq0
entered_at-returns-then-len-eq0 t c =
    let sheet = c.args.sheet.now in
    let items = drop 1 c.args.items.now in
    let within : c.args.to ≤ length (tokens_of sheet) = omega (arith, c.requires.range.2, length-map sheet.tokens.now token) in
    let none = map_empty split c.in_ok-behind.behind (sym c.len.ensures ∙ c.if-len-eq0.true) in
    rw c.new.ensures
    (no_entry sheet (reading_scope c.args.scope.now) c.args.cat c.args.from c.args.place c.args.to c.args.prod.0 items c.requires.range.0 c.requires.range.1 within c.requires.entry.1
    c.requires.scope (subst (AreSplits (Stands sheet) (IsSplit sheet.sig.now (tokens_of sheet) c.args.to items c.args.place)) none c.in_ok-behind.ensures))

pub entered_at-cross-requires : goal.entered_at-cross-requires
entered_at-cross-requires t c =
    let sheet = c.args.sheet.now in
    let items = drop 1 c.args.items.now in
    let within : c.args.to ≤ length (tokens_of sheet) = omega (arith, c.requires.range.2, length-map sheet.tokens.now token) in
    rw c.as_slice-2.ensures
    (some_own sheet (reading_scope c.args.scope.now) c.args.cat c.args.from c.args.place c.args.to c.args.prod.0 items c.requires.range.0 c.requires.range.1 within c.requires.entry.1
    _ c.in_ok-behind.ensures)

pub entered_at-returns : goal.entered_at-returns
entered_at-returns t c =
    let sheet = c.args.sheet.now in
    let scope = reading_scope c.args.scope.now in
    let items = drop 1 c.args.items.now in
    let within : c.args.to ≤ length (tokens_of sheet) = omega (arith, c.requires.range.2, length-map sheet.tokens.now token) in
    if_ok c.cross.result _ _
    (λ all e. subst (AreListed sheet scope c.args.cat
    (IsEnteredAt sheet.sig.now scope sheet.metas.now c.args.cat (tokens_of sheet) c.args.from c.args.to c.args.prod.0 items c.args.place)) (sym e)
    (entered_shapes sheet scope c.args.cat c.args.from c.args.place c.args.to c.args.prod.0 items c.requires.range.0 c.requires.range.1 within c.requires.entry.1
    _ _ c.requires.scope c.in_ok-behind.ensures (c.in_ok-inner.ensures.shapes, c.in_ok-inner.ensures.usable)))
    (rw (c.as_slice.ensures, c.as_slice-2.ensures) at c.cross.ensures)

pub entered_by-loop-place-preserved : goal.entered_by-loop-place-preserved
entered_by-loop-place-preserved t c =
    let sheet = c.args.sheet.now in
    let within : c.args.to ≤ length (tokens_of sheet) = omega (arith, c.requires.range.1, length-map sheet.tokens.now token) in
    let low : c.args.from ≤ c.loop-place.place = omega arith in (
      omega arith,
      rw c.in_ok-append.ensures (entries_more sheet (reading_scope c.args.scope.now) c.args.cat c.args.from c.args.to c.requires.range.0 within c.args.prod.0 (drop 1 c.args.items.now) c.loop-place.place low
          c.loop-place.all c.in_ok-entered_at.field-0 c.loop-place.invariant.1 c.in_ok-entered_at.ensures),
    )

pub shapes-loop-p-preserved : goal.shapes-loop-p-preserved
shapes-loop-p-preserved t c =
    let sheet = c.args.sheet.now in
    let within : c.args.to ≤ length (tokens_of sheet) = omega (arith, c.requires.range.1, length-map sheet.tokens.now token) in
    rw c.in_ok-append.ensures (contexts_more sheet (reading_scope c.args.scope.now) c.args.cat c.args.from c.args.to c.requires.range.0 within c.loop-p.p
    c.loop-p.all c.in_ok-shapes_by.field-0 c.loop-p.invariant c.in_ok-shapes_by.ensures)

pub shapes-returns-clause-shapes : goal.shapes-returns-clause-shapes
shapes-returns-clause-shapes t c =
    let sheet = c.args.sheet.now in
    let within : c.args.to ≤ length (tokens_of sheet) = omega (arith, c.requires.range.1, length-map sheet.tokens.now token) in
    let past : length sheet.sig.now.prods ≤ c.loop-p.p = omega (arith, ap length c.prods.ensures.value) in
    rw c.in_ok-append-2.ensures
    (all_shapes sheet (reading_scope c.args.scope.now) c.args.cat c.args.from c.args.to c.requires.range.0 within c.loop-p.p c.loop-p.all c.in_ok-known_shapes.field-0 past
    c.loop-p.invariant c.in_ok-known_shapes.ensures).0

pub shapes-returns-clause-usable : goal.shapes-returns-clause-usable
shapes-returns-clause-usable t c =
    let sheet = c.args.sheet.now in
    let within : c.args.to ≤ length (tokens_of sheet) = omega (arith, c.requires.range.1, length-map sheet.tokens.now token) in
    let past : length sheet.sig.now.prods ≤ c.loop-p.p = omega (arith, ap length c.prods.ensures.value) in
    rw c.in_ok-append-2.ensures
    (all_shapes sheet (reading_scope c.args.scope.now) c.args.cat c.args.from c.args.to c.requires.range.0 within c.loop-p.p c.loop-p.all c.in_ok-known_shapes.field-0 past
    c.loop-p.invariant c.in_ok-known_shapes.ensures).1

pub shapes_by-returns : goal.shapes_by-returns
shapes_by-returns t c =
    let sheet = c.args.sheet.now in
    let prod = c.index-prod.result.now in
    let found : slice_get sheet.sig.now.prods c.args.p ≡ Some prod =
    slice_get_read sheet.sig.now.prods _ c.args.p prod refl c.requires.prod (rw c.prods.ensures.value at c.index-prod.ensures) in
    let words : IsTrue (list_all is_word prod.items) → ⊥ =
    λ h. true≢false (sym h ∙ sym (rw c.as_slice-items.ensures at c.are_words.ensures) ∙ c.if-are_words.false) in
    let over = rw c.as_slice-items.ensures at (c.is_entry.ensures.0 c.if-not-is_entry.false) in
    if_ok c.entered_by.result _ _
    (λ all e. by_entry sheet (reading_scope c.args.scope.now) c.args.cat c.args.from c.args.to c.args.p prod found _ c.if-prod-cat.false words over e)
    (rw (c.as_slice-items.ensures, c.in_ok-number.ensures) at c.entered_by.ensures)
