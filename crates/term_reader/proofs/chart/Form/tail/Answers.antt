use Rattle.std.proofs.Common.{◌≡◌, ◌+◌, ◌<◌, ◌≤◌, length, map, drop, get_or, true≢false, sym, ◌∙◌, arith, inl, inr, refl, ap, Some, slice_get}
use Rattle.std.proofs.lemmas.List.{length-map}
use Rattle.std.proofs.lemmas.Option.{slice_get_read}
use Rattle.binding_terms.specs.declared.grammar.Item.TheVariants.{Word, Slot, Binder}
use Rattle.term_reader.specs.Charting.{charted}
use Rattle.term_reader.specs.View.{token}
use Rattle.term_reader.proofs.ChartLemmas.{no_word, no_binder}
use Rattle.term_reader.proofs.ChartSteps.{go_on, rest_cannot, only_slot, first_slot, item_is}
use Rattle.term_reader.proofs.SplitLemmas.{no_token}
use Rattle.term_reader.proofs.chart.Form.tail.Goals as goal
use Rattle.binding_terms.proofs.Lists.{get_mapped_or}

pub returns-then-is_terminal : goal.returns-then-is_terminal
returns-then-is_terminal c e =
    let f = charted c.args.self.now in
    let tokens = c.args.self.now.tokens.now in
    let prod = c.index.result.now in
    let found : slice_get c.args.self.now.sig.now.prods c.args.prod ≡ Some prod =
    slice_get_read c.args.self.now.sig.now.prods _ c.args.prod prod refl c.requires.prod (rw c.prods.ensures.value at c.index.ensures) in
    let h : c.args.to ≤ length (map token tokens) = omega (arith, c.requires.range.1, length-map tokens token) in
    let lt : c.args.from < length tokens = omega (arith, c.requires.range.0, c.requires.range.1) in
    let at = get_mapped_or token tokens c.args.from no_token lt in
    let first = token (get_or tokens c.args.from no_token) in
    let long = ap length c.as_slice-items.ensures in
    let left : c.args.item < length c.as_slice-items.result.now = omega (arith, c.if-item-items.false) in
    let fails =
    rest_cannot f c.args.tails.now c.args.prod (c.args.item + 1) (c.args.from + 1) c.args.to (length c.as_slice-items.result.now) prod c.index-items-item.result found long
    (omega arith) (omega (arith, left)) (omega (arith, c.requires.range.0)) h c.requires.ready.tails_known (c.goes_on.ensures e) in
    let is = item_is prod.items _ c.args.item c.index-items-item.result (Word c.in-Word.text c.in-Word.quoted) c.as_slice-items.ensures c.index-items-item.is c.in-Word.is in
    go_on f c.args.prod c.args.item c.args.from c.args.to prod (Word c.in-Word.text c.in-Word.quoted) found is
    (no_word f c.in-Word.text c.in-Word.quoted (drop (c.args.item + 1) prod.items) first c.args.from c.args.to h at (inr fails))

pub returns-else-is_terminal : goal.returns-else-is_terminal
returns-else-is_terminal c e =
    let f = charted c.args.self.now in
    let tokens = c.args.self.now.tokens.now in
    let prod = c.index.result.now in
    let found : slice_get c.args.self.now.sig.now.prods c.args.prod ≡ Some prod =
    slice_get_read c.args.self.now.sig.now.prods _ c.args.prod prod refl c.requires.prod (rw c.prods.ensures.value at c.index.ensures) in
    let h : c.args.to ≤ length (map token tokens) = omega (arith, c.requires.range.1, length-map tokens token) in
    let lt : c.args.from < length tokens = omega (arith, c.requires.range.0, c.requires.range.1) in
    let at = get_mapped_or token tokens c.args.from no_token lt in
    let first = token (get_or tokens c.args.from no_token) in
    let is = item_is prod.items _ c.args.item c.index-items-item.result (Word c.in-Word.text c.in-Word.quoted) c.as_slice-items.ensures c.index-items-item.is c.in-Word.is in
    go_on f c.args.prod c.args.item c.args.from c.args.to prod (Word c.in-Word.text c.in-Word.quoted) found is
    (no_word f c.in-Word.text c.in-Word.quoted (drop (c.args.item + 1) prod.items) first c.args.from c.args.to h at
    (inl (λ k. true≢false (sym (c.is_terminal.ensures.1 (rw c.bytes.ensures k)) ∙ e))))

pub returns-then-is_binder : goal.returns-then-is_binder
returns-then-is_binder c e =
    let f = charted c.args.self.now in
    let tokens = c.args.self.now.tokens.now in
    let prod = c.index.result.now in
    let found : slice_get c.args.self.now.sig.now.prods c.args.prod ≡ Some prod =
    slice_get_read c.args.self.now.sig.now.prods _ c.args.prod prod refl c.requires.prod (rw c.prods.ensures.value at c.index.ensures) in
    let h : c.args.to ≤ length (map token tokens) = omega (arith, c.requires.range.1, length-map tokens token) in
    let lt : c.args.from < length tokens = omega (arith, c.requires.range.0, c.requires.range.1) in
    let at = get_mapped_or token tokens c.args.from no_token lt in
    let first = token (get_or tokens c.args.from no_token) in
    let long = ap length c.as_slice-items.ensures in
    let left : c.args.item < length c.as_slice-items.result.now = omega (arith, c.if-item-items.false) in
    let fails =
    rest_cannot f c.args.tails.now c.args.prod (c.args.item + 1) (c.args.from + 1) c.args.to (length c.as_slice-items.result.now) prod c.index-items-item.result found long
    (omega arith) (omega (arith, left)) (omega (arith, c.requires.range.0)) h c.requires.ready.tails_known (c.goes_on-then-is_binder.ensures e) in
    let is = item_is prod.items _ c.args.item c.index-items-item.result (Binder c.in-Binder.cat) c.as_slice-items.ensures c.index-items-item.is c.in-Binder.is in
    go_on f c.args.prod c.args.item c.args.from c.args.to prod (Binder c.in-Binder.cat) found is
    (no_binder f c.in-Binder.cat (drop (c.args.item + 1) prod.items) first c.args.from c.args.to h at (inr fails))

pub returns-else-is_binder : goal.returns-else-is_binder
returns-else-is_binder c e =
    let f = charted c.args.self.now in
    let tokens = c.args.self.now.tokens.now in
    let prod = c.index.result.now in
    let found : slice_get c.args.self.now.sig.now.prods c.args.prod ≡ Some prod =
    slice_get_read c.args.self.now.sig.now.prods _ c.args.prod prod refl c.requires.prod (rw c.prods.ensures.value at c.index.ensures) in
    let h : c.args.to ≤ length (map token tokens) = omega (arith, c.requires.range.1, length-map tokens token) in
    let lt : c.args.from < length tokens = omega (arith, c.requires.range.0, c.requires.range.1) in
    let at = get_mapped_or token tokens c.args.from no_token lt in
    let first = token (get_or tokens c.args.from no_token) in
    let is = item_is prod.items _ c.args.item c.index-items-item.result (Binder c.in-Binder.cat) c.as_slice-items.ensures c.index-items-item.is c.in-Binder.is in
    go_on f c.args.prod c.args.item c.args.from c.args.to prod (Binder c.in-Binder.cat) found is
    (no_binder f c.in-Binder.cat (drop (c.args.item + 1) prod.items) first c.args.from c.args.to h at
    (inl (λ k. true≢false (sym (c.is_binder.ensures.1 k) ∙ e))))

pub returns-then-next-count : goal.returns-then-next-count
returns-then-next-count c e =
    let f = charted c.args.self.now in
    let tokens = c.args.self.now.tokens.now in
    let prod = c.index.result.now in
    let found : slice_get c.args.self.now.sig.now.prods c.args.prod ≡ Some prod =
    slice_get_read c.args.self.now.sig.now.prods _ c.args.prod prod refl c.requires.prod (rw c.prods.ensures.value at c.index.ensures) in
    let h : c.args.to ≤ length (map token tokens) = omega (arith, c.requires.range.1, length-map tokens token) in
    let is = item_is prod.items _ c.args.item c.index-items-item.result (Slot c.in-Slot.cat c.in-Slot.binds) c.as_slice-items.ensures c.index-items-item.is c.in-Slot.is in
    let last : c.args.item + 1 ≡ length prod.items = c.if-next-count.true ∙ ap length c.as_slice-items.ensures in
    only_slot f c.args.terms.now c.args.prod c.args.item c.args.from c.args.to prod c.in-Slot.cat c.in-Slot.binds c.requires.ready.fits found is last c.requires.range.0 h
    c.requires.here (c.is_open.ensures e)

pub returns-else-next-count : goal.returns-else-next-count
returns-else-next-count c e =
    let f = charted c.args.self.now in
    let tokens = c.args.self.now.tokens.now in
    let prod = c.index.result.now in
    let found : slice_get c.args.self.now.sig.now.prods c.args.prod ≡ Some prod =
    slice_get_read c.args.self.now.sig.now.prods _ c.args.prod prod refl c.requires.prod (rw c.prods.ensures.value at c.index.ensures) in
    let h : c.args.to ≤ length (map token tokens) = omega (arith, c.requires.range.1, length-map tokens token) in
    let is = item_is prod.items _ c.args.item c.index-items-item.result (Slot c.in-Slot.cat c.in-Slot.binds) c.as_slice-items.ensures c.index-items-item.is c.in-Slot.is in
    let more : c.args.item + 1 < length prod.items = omega (arith, c.if-item-items.false, c.if-next-count.false, ap length c.as_slice-items.ensures) in
    first_slot f c.args.terms.now c.args.tails.now c.args.prod c.args.item c.args.from c.args.to prod c.in-Slot.cat c.in-Slot.binds found is more c.requires.range.0 h
    c.requires.ready.known c.requires.ready.tails_known (c.splits.ensures e)
