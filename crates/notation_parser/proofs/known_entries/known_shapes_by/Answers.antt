use Rattle.std.proofs.Common.{◌≡◌, refl, Some, slice_get}
use Rattle.std.proofs.lemmas.Option.{slice_get_read}
use Rattle.term_reader.proofs.SplitLemmas.{if_ok}
use Rattle.notation_parser.specs.ContextCases.{IsEntryOver}
use Rattle.notation_parser.specs.View.{reading_scope}
use Rattle.notation_parser.proofs.KnownEntries.{by_entry}
use Rattle.notation_parser.proofs.known_entries.known_shapes_by.Goals as goal

pub returns : goal.returns
returns c =
    let sheet = c.args.sheet.now in
    let scope = reading_scope c.args.scope.now in
    let prod = c.index-prod.result.now in
    let found : slice_get sheet.sig.now.prods c.args.p ≡ Some prod =
    slice_get_read sheet.sig.now.prods _ c.args.p prod refl c.requires.prod (rw c.prods.ensures.value at c.index-prod.ensures) in
    let over : IsEntryOver c.args.cat.0 prod.items = rw c.as_slice-items.ensures at (c.is_entry.ensures.0 c.if-not-is_entry.false) in
    if_ok c.entry_shapes.result _ _
    (λ all e. by_entry sheet scope c.args.cat c.args.from c.args.to c.args.p prod found _ c.if-prod-cat.false over e)
    (rw (c.as_slice-items.ensures, c.in_ok-number.ensures) at c.entry_shapes.ensures)
