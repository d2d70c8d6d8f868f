use Rattle.std.proofs.Common.{◌≡◌, ◌≢◌, ◌-◌, ◌<◌, length, get_or, Some, slice_get, ap, ◌∙◌, sym, true≢false, arith}
use Rattle.scheme_terms.specs.SchemeTree.{no_parts}
use Rattle.ordered_readings.specs.NodeView.{made}
use Rattle.ordered_readings.proofs.NodeEquations.{reading-Made, row-End}
use Rattle.ordered_readings.specs.declared.node.Row.TheVariants.{End}
use Rattle.rule_schemes.specs.Reading.{word}
use Rattle.form_cells.specs.Cells.{tokens_of}
use Rattle.form_cells.specs.View.{token, in_scope}
use Rattle.form_cells.proofs.Tokens.{no_token, seen}
use Rattle.form_cells.proofs.VariableLemmas.{not_alone, no_word, variable_found, variable_lost}
use Rattle.form_cells.proofs.simple.bound_variable.Goals as goal
use Rattle.binding_terms.proofs.Lists.{get_mapped_or}

pub returns-then-to-from-ne1 : goal.returns-then-to-from-ne1
returns-then-to-from-ne1 c =
    let sheet = c.args.sheet.now in
    let other : c.args.to - c.args.from ≢ 1 = λ e. omega (arith, e) in
    not_alone sheet.sig.now sheet.metas.now (in_scope c.args.vars.now) c.args.cat.0 (tokens_of sheet) c.args.from c.args.to c.requires.range.0 (seen sheet c.args.to c.requires.range.1) other

pub returns-then-not-is_any_word : goal.returns-then-not-is_any_word
returns-then-not-is_any_word c =
    let sheet = c.args.sheet.now in
    let tokens = sheet.tokens.now in
    let one : c.args.to - c.args.from ≡ 1 = omega arith in
    let lt : c.args.from < length tokens = omega (arith, c.requires.range.1) in
    no_word sheet.sig.now sheet.metas.now (in_scope c.args.vars.now) c.args.cat.0 (tokens_of sheet) c.args.from c.args.to c.requires.range.0 (seen sheet c.args.to c.requires.range.1) one
    (token (get_or tokens c.args.from no_token)) (get_mapped_or token tokens c.args.from no_token lt) (λ e. true≢false (sym (c.is_any_word.ensures.1 e) ∙ c.if-not-is_any_word.true))

pub returns-in-Some : goal.returns-in-Some
returns-in-Some c =
    let sheet = c.args.sheet.now in
    let tokens = sheet.tokens.now in
    let one : c.args.to - c.args.from ≡ 1 = omega arith in
    let lt : c.args.from < length tokens = omega (arith, c.requires.range.1) in
    let here = get_or tokens c.args.from no_token in
    let read : slice_get (tokens_of sheet) c.args.from ≡ Some (word here.text.now) =
    get_mapped_or token tokens c.args.from no_token lt ∙ ap (λ k. Some (k, here.text.now)) (c.is_any_word.ensures.0 c.if-not-is_any_word.false) in
    rw (reading-Made 2 c.in-Some.head End, row-End)
    (variable_found sheet.sig.now sheet.metas.now (in_scope c.args.vars.now) c.args.cat.0 (tokens_of sheet) c.args.from c.args.to c.requires.range.0 (seen sheet c.args.to c.requires.range.1) one
    here.text.now read (made c.in-Some.head no_parts) (rw c.as_bytes.ensures.value at c.in-Some.ensures))

pub returns-in-None : goal.returns-in-None
returns-in-None c =
    let sheet = c.args.sheet.now in
    let tokens = sheet.tokens.now in
    let one : c.args.to - c.args.from ≡ 1 = omega arith in
    let lt : c.args.from < length tokens = omega (arith, c.requires.range.1) in
    let here = get_or tokens c.args.from no_token in
    let read : slice_get (tokens_of sheet) c.args.from ≡ Some (word here.text.now) =
    get_mapped_or token tokens c.args.from no_token lt ∙ ap (λ k. Some (k, here.text.now)) (c.is_any_word.ensures.0 c.if-not-is_any_word.false) in
    variable_lost sheet.sig.now sheet.metas.now (in_scope c.args.vars.now) c.args.cat.0 (tokens_of sheet) c.args.from c.args.to c.requires.range.0 (seen sheet c.args.to c.requires.range.1) one
    here.text.now read (rw c.as_bytes.ensures.value at c.in-None.ensures)
