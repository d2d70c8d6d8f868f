use Rattle.std.proofs.Common.{◌≡◌, ◌≢◌, ◌-◌, ◌<◌, ◌≤◌, length, get_or, Some, slice_get, ap, ◌∙◌, sym, true≢false, arith}
use Rattle.std.proofs.lemmas.List.{length-map}
use Rattle.scheme_terms.specs.View.{scheme}
use Rattle.rule_schemes.specs.Reading.{word}
use Rattle.term_reader.specs.Splitting.{tokens_of}
use Rattle.term_reader.specs.View.{token, in_scope}
use Rattle.term_reader.proofs.SplitLemmas.{no_token}
use Rattle.term_reader.proofs.VariableLemmas.{not_alone, no_word, variable_found, variable_lost}
use Rattle.term_reader.proofs.reading.variables.Goals as goal
use Rattle.binding_terms.proofs.Lists.{get_mapped_or}

pub returns-then-to-from-ne1 : goal.returns-then-to-from-ne1
returns-then-to-from-ne1 c =
    let ts = tokens_of c.args.sheet.now in
    let within : c.args.to ≤ length ts = omega (arith, length-map c.args.sheet.now.tokens.now token) in
    let other : c.args.to - c.args.from ≢ 1 = λ e. omega (arith, e) in
    not_alone (in_scope c.args.vars.now) c.args.cat.0 ts c.args.from c.args.to c.requires.range.0 within other

pub returns-then-not-is_any_word : goal.returns-then-not-is_any_word
returns-then-not-is_any_word c =
    let ts = tokens_of c.args.sheet.now in
    let tokens = c.args.sheet.now.tokens.now in
    let within : c.args.to ≤ length ts = omega (arith, length-map tokens token) in
    let one : c.args.to - c.args.from ≡ 1 = omega arith in
    let lt : c.args.from < length tokens = omega arith in
    no_word (in_scope c.args.vars.now) c.args.cat.0 ts c.args.from c.args.to c.requires.range.0 within one (token (get_or tokens c.args.from no_token))
    (get_mapped_or token tokens c.args.from no_token lt) (λ e. true≢false (sym (c.is_any_word.ensures.1 e) ∙ c.if-not-is_any_word.true))

pub returns-in-Some : goal.returns-in-Some
returns-in-Some c =
    let ts = tokens_of c.args.sheet.now in
    let tokens = c.args.sheet.now.tokens.now in
    let within : c.args.to ≤ length ts = omega (arith, length-map tokens token) in
    let one : c.args.to - c.args.from ≡ 1 = omega arith in
    let lt : c.args.from < length tokens = omega arith in
    let here = get_or tokens c.args.from no_token in
    let read : slice_get ts c.args.from ≡ Some (word here.text.now) =
    get_mapped_or token tokens c.args.from no_token lt ∙ ap (λ k. Some (k, here.text.now)) (c.is_any_word.ensures.0 c.if-not-is_any_word.false) in
    variable_found (in_scope c.args.vars.now) c.args.cat.0 ts c.args.from c.args.to c.requires.range.0 within one here.text.now read (scheme c.in-Some.found)
    (rw c.as_bytes.ensures.value at c.in-Some.ensures)

pub returns-in-None : goal.returns-in-None
returns-in-None c =
    let ts = tokens_of c.args.sheet.now in
    let tokens = c.args.sheet.now.tokens.now in
    let within : c.args.to ≤ length ts = omega (arith, length-map tokens token) in
    let one : c.args.to - c.args.from ≡ 1 = omega arith in
    let lt : c.args.from < length tokens = omega arith in
    let here = get_or tokens c.args.from no_token in
    let read : slice_get ts c.args.from ≡ Some (word here.text.now) =
    get_mapped_or token tokens c.args.from no_token lt ∙ ap (λ k. Some (k, here.text.now)) (c.is_any_word.ensures.0 c.if-not-is_any_word.false) in
    variable_lost (in_scope c.args.vars.now) c.args.cat.0 ts c.args.from c.args.to c.requires.range.0 within one here.text.now read
    (rw c.as_bytes.ensures.value at c.in-None.ensures)
