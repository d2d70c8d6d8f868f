use Rattle.std.proofs.Common.{◌≡◌, ◌<◌, ◌↔◌, length, get_or, Some, slice_get, slice_range, sym, ap, ◌∙◌, arith, IsTrue}
use Rattle.std.specs.Option.{option_copied}
use Rattle.rule_schemes.specs.Reading.{word}
use Rattle.binding_terms.proofs.Lists.{get_mapped_or}
use Rattle.form_cells.specs.Cells.{tokens_of}
use Rattle.form_cells.specs.View.{token}
use Rattle.form_cells.proofs.Ranges.{range_length}
use Rattle.form_cells.proofs.Tokens.{no_token, seen}
use Rattle.cell_reader.proofs.Tests.{other_length, one_name}
use Rattle.cell_reader.proofs.testing.is_category_name.Goals as goal

pub returns-then-to-from-ne1 : goal.returns-then-to-from-ne1
returns-then-to-from-ne1 c =
    let sheet = c.args.sheet.now in
    let within = seen sheet c.args.to c.requires.1 in
    other_length sheet.sig.now c.args.cat.0 (slice_range (tokens_of sheet) c.args.from c.args.to)
    (λ e. c.if-to-from-ne1.true (sym (range_length (tokens_of sheet) c.args.from c.args.to c.requires.0 within) ∙ e))

pub returns-in-Some : goal.returns-in-Some
returns-in-Some c =
    let sheet = c.args.sheet.now in
    let within = seen sheet c.args.to c.requires.1 in
    let one = c.if-to-from-ne1.false in
    let lt : c.args.from < length sheet.tokens.now = omega (arith, one, c.requires.1) in
    let here = get_or sheet.tokens.now c.args.from no_token in
    let cat : slice_get sheet.sig.now.cats c.args.cat.0 ≡ Some c.in-Some.found.now =
    rw (c.as_slice.ensures.value, c.cats.ensures.value) at (sym c.at.ensures ∙ ap option_copied c.in-Some.is) in
    let is : IsTrue c.is_word.result ↔ (token here ≡ word c.in-Some.found.now.name) = rw c.bytes.ensures at c.is_word.ensures in
    one_name sheet.sig.now c.args.cat.0 (tokens_of sheet) c.args.from c.args.to (token here) c.in-Some.found.now c.is_word.result c.requires.0 within one
    (get_mapped_or token sheet.tokens.now c.args.from no_token lt) cat is
