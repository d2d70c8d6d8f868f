use Rattle.std.proofs.Common.{◌≡◌, ◌≢◌, ℕ, ◌-◌, ◌<◌, ◌≤◌, List, [], ◌∷◌, map, length, get_or, Some, slice_get, slice_range, ap, ◌∙◌, sym, true≢false, arith}
use Rattle.std.proofs.lemmas.List.{length-map}
use Rattle.proof_lexer.specs.declared.token.Token.{Token}
use Rattle.scheme_terms.specs.View.{scheme}
use Rattle.rule_schemes.specs.Reading.{word}
use Rattle.rule_schemes.specs.Said.{IsBefore}
use Rattle.term_reader.specs.Cases.{IsVariable}
use Rattle.term_reader.specs.Firsts.{AreFirst}
use Rattle.term_reader.specs.Splitting.{tokens_of}
use Rattle.term_reader.specs.View.{token, in_scope}
use Rattle.term_reader.proofs.SplitLemmas.{no_token}
use Rattle.term_reader.proofs.VariableLemmas.{not_alone, no_word, variable_found, variable_lost}
use Rattle.term_reader.proofs.Alone.{variable_first, variable_other}
use Rattle.term_reader.proofs.variable_place.as_variable.Goals as goal
use Rattle.binding_terms.proofs.Lists.{get_mapped_or}

-- the word at a place
word_here : (tokens : List Token) (n : ℕ) → n < length tokens → (token (get_or tokens n no_token)).0 ≡ 0
    → slice_get (map token tokens) n ≡ Some (word (get_or tokens n no_token).text.now)
word_here tokens n lt e = get_mapped_or token tokens n no_token lt ∙ ap (λ k. Some (k, (get_or tokens n no_token).text.now)) e

pub returns-then-to-from-ne1 : goal.returns-then-to-from-ne1
returns-then-to-from-ne1 c =
    let ts = tokens_of c.args.sheet.now in
    let within : c.args.to ≤ length ts = omega (arith, length-map c.args.sheet.now.tokens.now token) in
    let other : c.args.to - c.args.from ≢ 1 = λ e. omega (arith, e) in
    λ w s q. not_alone (in_scope c.args.vars.now) c.args.cat.0 ts c.args.from c.args.to c.requires.range.0 within other w s q.0

pub returns-then-not-is_any_word : goal.returns-then-not-is_any_word
returns-then-not-is_any_word c =
    let ts = tokens_of c.args.sheet.now in
    let tokens = c.args.sheet.now.tokens.now in
    let within : c.args.to ≤ length ts = omega (arith, length-map tokens token) in
    let one : c.args.to - c.args.from ≡ 1 = omega arith in
    let lt : c.args.from < length tokens = omega arith in
    λ w s q. no_word (in_scope c.args.vars.now) c.args.cat.0 ts c.args.from c.args.to c.requires.range.0 within one (token (get_or tokens c.args.from no_token))
    (get_mapped_or token tokens c.args.from no_token lt) (λ e. true≢false (sym (c.is_any_word.ensures.1 e) ∙ c.if-not-is_any_word.true)) w s q.0

pub returns-then-not-same_scheme : goal.returns-then-not-same_scheme
returns-then-not-same_scheme c =
    let vars = in_scope c.args.vars.now in
    let ts = tokens_of c.args.sheet.now in
    let tokens = c.args.sheet.now.tokens.now in
    let within : c.args.to ≤ length ts = omega (arith, length-map tokens token) in
    let one : c.args.to - c.args.from ≡ 1 = omega arith in
    let lt : c.args.from < length tokens = omega arith in
    let here = get_or tokens c.args.from no_token in
    let read = word_here tokens c.args.from lt (c.is_any_word.ensures.0 c.if-not-is_any_word.false) in
    let first : AreFirst IsBefore (IsVariable vars c.args.cat.0 (slice_range ts c.args.from c.args.to)) (scheme c.in-Some.found ∷ []) =
    variable_found vars c.args.cat.0 ts c.args.from c.args.to c.requires.range.0 within one here.text.now read (scheme c.in-Some.found)
    (rw c.as_bytes.ensures.value at c.in-Some.ensures) in
    variable_other c.args.sheet.now.sig.now c.args.sheet.now.metas.now vars c.args.cat.0 (slice_range ts c.args.from c.args.to) (scheme c.in-Some.found) (scheme c.args.term.now)
    (λ e. true≢false (sym (c.same_scheme.ensures.1 e) ∙ c.if-not-same_scheme.true)) first

pub returns-else-not-same_scheme : goal.returns-else-not-same_scheme
returns-else-not-same_scheme c =
    let vars = in_scope c.args.vars.now in
    let ts = tokens_of c.args.sheet.now in
    let tokens = c.args.sheet.now.tokens.now in
    let within : c.args.to ≤ length ts = omega (arith, length-map tokens token) in
    let one : c.args.to - c.args.from ≡ 1 = omega arith in
    let lt : c.args.from < length tokens = omega arith in
    let here = get_or tokens c.args.from no_token in
    let read = word_here tokens c.args.from lt (c.is_any_word.ensures.0 c.if-not-is_any_word.false) in
    let first : AreFirst IsBefore (IsVariable vars c.args.cat.0 (slice_range ts c.args.from c.args.to)) (scheme c.in-Some.found ∷ []) =
    variable_found vars c.args.cat.0 ts c.args.from c.args.to c.requires.range.0 within one here.text.now read (scheme c.in-Some.found)
    (rw c.as_bytes.ensures.value at c.in-Some.ensures) in
    variable_first c.args.sheet.now.sig.now c.args.sheet.now.metas.now vars c.args.cat.0 (slice_range ts c.args.from c.args.to) (scheme c.in-Some.found) (scheme c.args.term.now) c.of_variable.result
    (c.same_scheme.ensures.0 c.if-not-same_scheme.false) c.of_variable.ensures first

pub returns-in-None : goal.returns-in-None
returns-in-None c =
    let ts = tokens_of c.args.sheet.now in
    let tokens = c.args.sheet.now.tokens.now in
    let within : c.args.to ≤ length ts = omega (arith, length-map tokens token) in
    let one : c.args.to - c.args.from ≡ 1 = omega arith in
    let lt : c.args.from < length tokens = omega arith in
    let here = get_or tokens c.args.from no_token in
    let read = word_here tokens c.args.from lt (c.is_any_word.ensures.0 c.if-not-is_any_word.false) in
    λ w s q. variable_lost (in_scope c.args.vars.now) c.args.cat.0 ts c.args.from c.args.to c.requires.range.0 within one here.text.now read
    (rw c.as_bytes.ensures.value at c.in-None.ensures) w s q.0
