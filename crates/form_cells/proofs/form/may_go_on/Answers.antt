use Rattle.std.proofs.Common.{◌≡◌, ◌+◌, ◌-◌, ◌<◌, ◌≤◌, nat_eq, IsTrue, [], ◌∷◌, length, drop, get_or, slice_get, Some, ap, ◌∙◌, sym, subst, true≢false, arith, length-drop}
use Rattle.std.proofs.lemmas.List.{drop_all}
use Rattle.std.proofs.lemmas.Bool.Decides.{nat_tests}
use Rattle.binding_terms.proofs.Lists.{drop_from, get_mapped_or}
use Rattle.rule_schemes.specs.Reading.{IsTerminal}
use Rattle.form_cells.specs.Cells.{tokens_of}
use Rattle.form_cells.specs.View.{token}
use Rattle.form_cells.proofs.Ranges.{range_length, range_begins}
use Rattle.form_cells.proofs.Tokens.{no_token, seen}
use Rattle.form_cells.proofs.WordLemmas.{enough_tokens, no_token_left, terminal_first}
use Rattle.form_cells.proofs.form.may_go_on.Goals as goal

pub returns-then-to-from : goal.returns-then-to-from
returns-then-to-from c = λ e vars own words xs r.
    (let sheet = c.args.sheet.now in
    let long = range_length (tokens_of sheet) c.args.from c.args.to c.requires.range.0 (seen sheet c.args.to c.requires.range.1) in
    omega (arith, enough_tokens r, long, length-drop c.args.at c.args.items.now, c.if-to-from.true))

pub returns-then-at-items : goal.returns-then-at-items
returns-then-at-items c = λ e vars own words xs r.
    (let sheet = c.args.sheet.now in
    let all : length c.args.items.now ≤ c.args.at = omega arith in
    let none = no_token_left r (drop_all c.args.at c.args.items.now all) in
    let long = range_length (tokens_of sheet) c.args.from c.args.to c.requires.range.0 (seen sheet c.args.to c.requires.range.1) in
    let empty = ap length none in
    let same : c.args.from ≡ c.args.to = omega (arith, long, empty, c.requires.range.0) in
    let yes : nat_eq c.args.from c.args.to ≡ Rattle.std.proofs.Common.true = grind (arith, nat_tests) in
    true≢false (sym yes ∙ e))

pub returns-in-Word : goal.returns-in-Word
returns-in-Word c = λ e vars own words xs r.
    (let sheet = c.args.sheet.now in
    let tokens = sheet.tokens.now in
    let lt : c.args.at < length c.args.items.now = omega arith in
    let first = terminal_first r (drop_from c.args.items.now c.args.at c.index-items-at.result lt c.index-items-at.is ∙ ap (λ i. i ∷ drop (c.args.at + 1) c.args.items.now) c.in-Word.is) in
    let b = range_begins (tokens_of sheet) c.args.from c.args.to first.0 first.1 c.requires.range.0 (seen sheet c.args.to c.requires.range.1) (sym first.2) in
    let here : c.args.from < length tokens = omega (arith, b.0) in
    let two : Some (token (get_or tokens c.args.from no_token)) ≡ Some first.0 = sym (get_mapped_or token tokens c.args.from no_token here) ∙ b.1 in
    let same : token (get_or tokens c.args.from no_token) ≡ first.0 = cc in
    true≢false (sym (c.is_terminal.ensures.1 (rw c.bytes.ensures (subst (IsTerminal c.in-Word.text) (sym same) first.3))) ∙ e))
