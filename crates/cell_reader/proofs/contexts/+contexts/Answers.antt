use Rattle.std.proofs.Common.{◌≡◌, ◌+◌, ◌-◌, ◌<◌, ◌≤◌, [], ◌∷◌, length, take, drop, Some, slice_get, refl, ap, ◌∙◌, sym, true≢false, arith, length-take}
use Rattle.std.proofs.lemmas.Option.{slice_get_read}
use Rattle.ordered_readings.specs.AnswerView.{answers}
use Rattle.ordered_readings.specs.Cells.{ReadsItemsAt}
use Rattle.form_cells.specs.Cells.{tokens_of, range_of}
use Rattle.form_cells.specs.View.{in_scope}
use Rattle.form_cells.proofs.Joining.{none_listed}
use Rattle.form_cells.proofs.ProductLemmas.{on_any}
use Rattle.form_cells.proofs.Ranges.{range_length}
use Rattle.form_cells.proofs.Tokens.{seen}
use Rattle.form_cells.proofs.WordLemmas.{if_ok}
use Rattle.cell_reader.specs.View.{reading_scope}
use Rattle.cell_reader.proofs.ContextCases.{root_below, below_more, below_read}
use Rattle.cell_reader.proofs.EntryLemmas.{no_entry_yet, all_entries, one_place_more, entry_in_range, no_entry_in_range, of_no_category, by_empty, by_entry, by_none}
use Rattle.cell_reader.proofs.Tests.{innermost_split, scope_innermost, same_innermost, some_vars}
use Rattle.cell_reader.proofs.contexts.+contexts.Goals as goal

pub by_production-returns-then-prod-outside-clause-first : goal.by_production-returns-then-prod-outside-clause-first
by_production-returns-then-prod-outside-clause-first t c =
    let sheet = c.args.sheet.now in
    let prod = c.index-prod.result.now in
    let found : slice_get sheet.sig.now.prods c.args.p ≡ Some prod =
    slice_get_read sheet.sig.now.prods _ c.args.p prod refl c.requires.prod (rw c.prods.ensures.value at c.index-prod.ensures) in
    of_no_category sheet.sig.now (reading_scope c.args.outside.now.scope.now) sheet.metas.now c.args.outside.now.cat.0 (in_scope c.args.vars.now) (range_of sheet c.args.from c.args.to) c.args.p prod found
    c.if-prod-outside.true

pub by_production-returns-then-prod-outside-clause-table : goal.by_production-returns-then-prod-outside-clause-table
by_production-returns-then-prod-outside-clause-table t c = c.requires.table

pub by_production-returns-then-are_terminals-clause-first : goal.by_production-returns-then-are_terminals-clause-first
by_production-returns-then-are_terminals-clause-first t c =
    let sheet = c.args.sheet.now in
    let prod = c.index-prod.result.now in
    let found : slice_get sheet.sig.now.prods c.args.p ≡ Some prod =
    slice_get_read sheet.sig.now.prods _ c.args.p prod refl c.requires.prod (rw c.prods.ensures.value at c.index-prod.ensures) in
    let words = rw c.as_slice-items.ensures at c.are_terminals.ensures.0 c.if-are_terminals.true in
    let read = rw c.as_slice-items.ensures at c.emptied.ensures.first in
    if_ok c.emptied.result _ _
    (λ all f. by_empty sheet.sig.now (reading_scope c.args.outside.now.scope.now) sheet.metas.now c.args.outside.now.cat.0 (in_scope c.args.vars.now) (range_of sheet c.args.from c.args.to) c.args.p prod found
    c.if-prod-outside.false words (answers all) f)
    read

pub by_production-returns-then-are_terminals-clause-table : goal.by_production-returns-then-are_terminals-clause-table
by_production-returns-then-are_terminals-clause-table t c = c.emptied.ensures.table

pub by_production-returns-then-not-is_entry-clause-first : goal.by_production-returns-then-not-is_entry-clause-first
by_production-returns-then-not-is_entry-clause-first t c =
    let sheet = c.args.sheet.now in
    let prod = c.index-prod.result.now in
    let found : slice_get sheet.sig.now.prods c.args.p ≡ Some prod =
    slice_get_read sheet.sig.now.prods _ c.args.p prod refl c.requires.prod (rw c.prods.ensures.value at c.index-prod.ensures) in
    let words = rw c.as_slice-items.ensures at c.are_terminals.ensures in
    let tested = rw c.as_slice-items.ensures at c.is_entry.ensures in
    let local = rw c.in-Some.is at c.innermost_local.ensures in
    by_none sheet.sig.now (reading_scope c.args.outside.now.scope.now) sheet.metas.now c.args.outside.now.cat.0 (in_scope c.args.vars.now) (range_of sheet c.args.from c.args.to) c.args.p prod found
    (λ h. true≢false (sym (words.1 h) ∙ c.if-are_terminals.false))
    (λ w s e. (let same : e.binder ≡ c.in-Some.binder.0 = same_innermost c.args.vars.now e.name e.binder c.in-Some.binder.0 e.before e.last local in
    true≢false (sym (tested.1 (e.id, e.binds, e.items, e.form, e.over, e.one ∙ ap (λ n. n ∷ []) same)) ∙ c.if-not-is_entry.true)))

pub by_production-returns-then-not-is_entry-clause-table : goal.by_production-returns-then-not-is_entry-clause-table
by_production-returns-then-not-is_entry-clause-table t c = c.requires.table

pub by_production-entered-requires : goal.by_production-entered-requires
by_production-entered-requires t c =
    let sheet = c.args.sheet.now in
    let prod = c.index-prod.result.now in
    let found : slice_get sheet.sig.now.prods c.args.p ≡ Some prod =
    slice_get_read sheet.sig.now.prods _ c.args.p prod refl c.requires.prod (rw c.prods.ensures.value at c.index-prod.ensures) in
    let local = rw c.in-Some.is at c.innermost_local.ensures in (
      omega (arith, c.decreases),
      (
        c.requires.names,
        (
          c.requires.apart,
          (
            c.requires.outside,
            (
              c.requires.table,
              (
                (prod, found, c.if-prod-outside.false, sym c.as_slice-items.ensures),
                (local, (c.is_entry.ensures.0 c.if-not-is_entry.false, c.requires.range)),
              ),
            ),
          ),
        ),
      ),
    )

pub by_production-returns-else-not-is_entry-clause-first : goal.by_production-returns-else-not-is_entry-clause-first
by_production-returns-else-not-is_entry-clause-first t c =
    let sheet = c.args.sheet.now in
    let prod = c.index-prod.result.now in
    let found : slice_get sheet.sig.now.prods c.args.p ≡ Some prod =
    slice_get_read sheet.sig.now.prods _ c.args.p prod refl c.requires.prod (rw c.prods.ensures.value at c.index-prod.ensures) in
    let words = rw c.as_slice-items.ensures at c.are_terminals.ensures in
    let read = rw c.as_slice-items.ensures at c.entered.ensures.first in
    if_ok c.entered.result _ _
    (λ all f. by_entry sheet.sig.now (reading_scope c.args.outside.now.scope.now) sheet.metas.now c.args.outside.now.cat.0 (in_scope c.args.vars.now) (range_of sheet c.args.from c.args.to) c.args.p prod found
    c.if-prod-outside.false (λ h. true≢false (sym (words.1 h) ∙ c.if-are_terminals.false)) (answers all) f)
    read

pub by_production-returns-else-not-is_entry-clause-table : goal.by_production-returns-else-not-is_entry-clause-table
by_production-returns-else-not-is_entry-clause-table t c = c.entered.ensures.table

pub by_production-returns-in-None-clause-first : goal.by_production-returns-in-None-clause-first
by_production-returns-in-None-clause-first t c =
    let sheet = c.args.sheet.now in
    let prod = c.index-prod.result.now in
    let found : slice_get sheet.sig.now.prods c.args.p ≡ Some prod =
    slice_get_read sheet.sig.now.prods _ c.args.p prod refl c.requires.prod (rw c.prods.ensures.value at c.index-prod.ensures) in
    let words = rw c.as_slice-items.ensures at c.are_terminals.ensures in
    let none = rw c.in-None.is at c.innermost_local.ensures in
    by_none sheet.sig.now (reading_scope c.args.outside.now.scope.now) sheet.metas.now c.args.outside.now.cat.0 (in_scope c.args.vars.now) (range_of sheet c.args.from c.args.to) c.args.p prod found
    (λ h. true≢false (sym (words.1 h) ∙ c.if-are_terminals.false))
    (λ w s e. none e.binder (scope_innermost c.args.vars.now e.name e.binder e.before e.last))

pub by_production-returns-in-None-clause-table : goal.by_production-returns-in-None-clause-table
by_production-returns-in-None-clause-table t c = c.requires.table

pub context-loop-p-init : goal.context-loop-p-init
context-loop-p-init t c =
    let sheet = c.args.sheet.now in (
      root_below sheet.sig.now (reading_scope c.args.outside.now.scope.now) sheet.metas.now c.args.outside.now.cat.0 (in_scope c.args.vars.now) (range_of sheet c.args.from c.args.to)
          (answers c.rooted-found.result) c.rooted-found.ensures,
      c.requires.table,
    )

pub context-by_production-requires : goal.context-by_production-requires
context-by_production-requires t c =
    let some : c.loop-p.p < length c.args.sheet.now.sig.now.prods = omega (arith, c.loop-p-test.true, ap length c.prods.ensures.value) in
    (omega (arith, c.decreases), (c.requires.names, (c.requires.apart, (c.requires.outside, (c.loop-p.invariant.1, (some, c.requires.range))))))

pub context-loop-p-preserved : goal.context-loop-p-preserved
context-loop-p-preserved t c =
    let sheet = c.args.sheet.now in (
      below_more sheet.sig.now (reading_scope c.args.outside.now.scope.now) sheet.metas.now c.args.outside.now.cat.0 c.requires.names c.requires.apart c.loop-p.p (in_scope c.args.vars.now)
          (range_of sheet c.args.from c.args.to) (answers c.loop-p.found) (answers c.in_ok-more.more) (answers c.joined-found.result) c.loop-p.invariant.0 c.in_ok-more.ensures.first c.joined-found.ensures,
      c.in_ok-more.ensures.table,
    )

pub context-returns-clause-first : goal.context-returns-clause-first
context-returns-clause-first t c =
    let sheet = c.args.sheet.now in
    let all : length sheet.sig.now.prods ≤ c.loop-p.p = omega (arith, c.loop-p-test.false, ap length c.prods.ensures.value) in
    below_read sheet.sig.now (reading_scope c.args.outside.now.scope.now) sheet.metas.now c.args.outside.now.cat.0 c.loop-p.p (in_scope c.args.vars.now)
    (range_of sheet c.args.from c.args.to) (answers c.loop-p.found) all c.loop-p.invariant.0

pub context-returns-clause-table : goal.context-returns-clause-table
context-returns-clause-table t c = c.loop-p.invariant.1

pub entered-loop-place-init : goal.entered-loop-place-init
entered-loop-place-init t c =
    let sheet = c.args.sheet.now in
    let zero : c.args.from - c.args.from ≡ 0 = omega arith in (
      no_entry_yet sheet.sig.now (reading_scope c.args.outside.now.scope.now) sheet.metas.now c.args.p c.args.outside.now.cat.0 c.args.items.now (in_scope c.args.vars.now) []
          (range_of sheet c.args.from c.args.to) (c.args.from - c.args.from) zero,
      c.requires.table,
    )

pub entered-entered_at-requires : goal.entered-entered_at-requires
entered-entered_at-requires t c =
    let start : c.args.from ≤ c.loop-place.place = omega arith in
    let end : c.loop-place.place ≤ c.args.to = omega (arith, c.loop-place-test.true) in (
      omega (arith, c.decreases),
      (
        c.requires.names,
        (
          c.requires.apart,
          (
            c.requires.outside,
            (
              c.loop-place.invariant.1,
              (c.requires.prod, (c.requires.innermost, (c.requires.entry, (start, end, c.requires.range.1)))),
            ),
          ),
        ),
      ),
    )

pub entered-loop-place-preserved : goal.entered-loop-place-preserved
entered-loop-place-preserved t c =
    let sheet = c.args.sheet.now in
    let start : c.args.from ≤ c.loop-place.place = omega arith in
    let more : c.loop-place.place - c.args.from + 1 ≡ c.loop-place.place + 1 - c.args.from = omega (arith, start) in
    let (prod, found, of, same) = c.requires.prod in (
      one_place_more sheet.sig.now (reading_scope c.args.outside.now.scope.now) sheet.metas.now c.args.p c.args.outside.now.cat.0 c.args.items.now (in_scope c.args.vars.now) []
          c.requires.names c.requires.apart prod found of same (range_of sheet c.args.from c.args.to) (c.loop-place.place - c.args.from) (c.loop-place.place + 1 - c.args.from) more
          (answers c.loop-place.found) (answers c.in_ok-more.more) (answers c.joined-found.result) c.loop-place.invariant.0 c.in_ok-more.ensures.first c.joined-found.ensures,
      c.in_ok-more.ensures.table,
    )

pub entered-returns-clause-first : goal.entered-returns-clause-first
entered-returns-clause-first t c =
    let sheet = c.args.sheet.now in
    let long = range_length (tokens_of sheet) c.args.from c.args.to c.requires.range.0 (seen sheet c.args.to c.requires.range.1) in
    let all : length (range_of sheet c.args.from c.args.to) < c.loop-place.place - c.args.from = omega (arith, long, c.loop-place-test.false, c.requires.range.0) in
    all_entries sheet.sig.now (reading_scope c.args.outside.now.scope.now) sheet.metas.now c.args.p c.args.outside.now.cat.0 c.args.items.now (in_scope c.args.vars.now) []
    (range_of sheet c.args.from c.args.to) (c.loop-place.place - c.args.from) (answers c.loop-place.found) all c.loop-place.invariant.0

pub entered-returns-clause-table : goal.entered-returns-clause-table
entered-returns-clause-table t c = c.loop-place.invariant.1

pub entered_at-returns-then-is_none-clause-first : goal.entered_at-returns-then-is_none-clause-first
entered_at-returns-then-is_none-clause-first t c =
    let sheet = c.args.sheet.now in
    let vars = c.args.vars.now in
    let split = innermost_split vars c.args.binder.0 c.requires.innermost in
    let front = in_scope (take (length vars - 1) vars) in
    let rest = rw (c.in_ok-number.ensures, c.in_ok-alternative.ensures, split.2) at c.in_ok-rest.ensures.first in
    no_entry_in_range sheet.sig.now (reading_scope c.args.outside.now.scope.now) sheet.metas.now c.args.p c.args.outside.now.cat.0 c.args.items.now (in_scope vars) []
    front c.args.binder.0 split.0 split.1 (tokens_of sheet) c.args.from c.args.place c.args.to c.requires.range.0 c.requires.range.1 (seen sheet c.args.to c.requires.range.2)
    (none_listed (ReadsItemsAt sheet.sig.now sheet.metas.now front [] (split.0 ∷ []) (drop 1 c.args.items.now) (1 + c.args.p) c.args.p (range_of sheet c.args.place c.args.to))
    (answers c.in_ok-rest.rest) (c.is_none.ensures.0 c.if-is_none.true) rest)

pub entered_at-returns-then-is_none-clause-table : goal.entered_at-returns-then-is_none-clause-table
entered_at-returns-then-is_none-clause-table t c = c.in_ok-rest.ensures.table

pub entered_at-context-requires : goal.entered_at-context-requires
entered_at-context-requires t c =
    let within : c.args.place ≤ length c.args.sheet.now.tokens.now = omega (arith, c.requires.range.1, c.requires.range.2) in
    let some = some_vars c.args.vars.now c.args.binder.0 c.requires.innermost in (
      omega (arith, c.decreases, some, length-take (length c.args.vars.now - 1) c.args.vars.now),
      (c.requires.names, (c.requires.apart, (c.requires.outside, (c.in_ok-rest.ensures.table, (c.requires.range.0, within))))),
    )

pub entered_at-returns-clause-first : goal.entered_at-returns-clause-first
entered_at-returns-clause-first t c =
    let sheet = c.args.sheet.now in
    let vars = c.args.vars.now in
    let split = innermost_split vars c.args.binder.0 c.requires.innermost in
    let front = in_scope (take (length vars - 1) vars) in
    let rest = rw (c.in_ok-number.ensures, c.in_ok-alternative.ensures, split.2) at c.in_ok-rest.ensures.first in
    let (prod, found, of, same) = c.requires.prod in
    if_ok c.product.result _ _
    (λ new h. entry_in_range sheet.sig.now (reading_scope c.args.outside.now.scope.now) sheet.metas.now c.args.p c.args.outside.now.cat.0 c.args.items.now (in_scope vars) []
    front c.args.binder.0 split.0 split.1 (tokens_of sheet) c.args.from c.args.place c.args.to c.requires.range.0 c.requires.range.1 (seen sheet c.args.to c.requires.range.2)
    c.requires.names c.requires.apart prod found of same c.requires.entry (answers c.in_ok-shorter.shorter) (answers c.in_ok-rest.rest) (answers new) c.in_ok-shorter.ensures.first rest h)
    c.product.ensures

pub entered_at-returns-clause-table : goal.entered_at-returns-clause-table
entered_at-returns-clause-table t c = on_any c.product.result _ c.in_ok-shorter.ensures.table
