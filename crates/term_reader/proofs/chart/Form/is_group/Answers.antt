use Rattle.std.proofs.Common.{◌<◌, ◌≤◌, ◌-◌, length, map, get_or, true≢false, sym, ◌∙◌, arith, inl}
use Rattle.std.proofs.lemmas.List.{length-map}
use Rattle.term_reader.specs.Charting.{charted}
use Rattle.term_reader.specs.View.{token}
use Rattle.term_reader.proofs.ChartSteps.{other_inside, other_front, other_end}
use Rattle.term_reader.proofs.SplitLemmas.{no_token}
use Rattle.term_reader.proofs.chart.Form.is_group.Goals as goal
use Rattle.binding_terms.proofs.Lists.{get_mapped_or}

pub returns-then-to-from : goal.returns-then-to-from
returns-then-to-from c e =
    let h : c.args.to ≤ length (map token c.args.self.now.tokens.now) = omega (arith, c.requires.range.1, length-map c.args.self.now.tokens.now token) in
    other_inside (charted c.args.self.now) c.args.cat c.args.from c.args.to h c.requires.fits (λ lt. absurd (omega arith))

pub returns-then-not-is_punctuation : goal.returns-then-not-is_punctuation
returns-then-not-is_punctuation c e =
    let tokens = c.args.self.now.tokens.now in
    let h : c.args.to ≤ length (map token tokens) = omega (arith, c.requires.range.1, length-map tokens token) in
    let lt : c.args.from < length tokens = omega (arith, c.requires.range.0, c.requires.range.1) in
    other_front (charted c.args.self.now) c.args.cat c.args.from c.args.to (token (get_or tokens c.args.from no_token)) h (get_mapped_or token tokens c.args.from no_token lt)
    (λ same. true≢false (sym (c.is_punctuation.ensures.1 same) ∙ c.if-not-is_punctuation.true))

pub returns-then-not-is_punctuation-2 : goal.returns-then-not-is_punctuation-2
returns-then-not-is_punctuation-2 c e =
    let tokens = c.args.self.now.tokens.now in
    let h : c.args.to ≤ length (map token tokens) = omega (arith, c.requires.range.1, length-map tokens token) in
    let lt : c.args.to - 1 < length tokens = omega (arith, c.requires.range.0, c.requires.range.1) in
    other_end (charted c.args.self.now) c.args.cat c.args.from c.args.to (token (get_or tokens (c.args.to - 1) no_token)) h (get_mapped_or token tokens (c.args.to - 1) no_token lt)
    (λ same. true≢false (sym (c.is_punctuation-2.ensures.1 same) ∙ c.if-not-is_punctuation-2.true))

pub returns : goal.returns
returns c e =
    let h : c.args.to ≤ length (map token c.args.self.now.tokens.now) = omega (arith, c.requires.range.1, length-map c.args.self.now.tokens.now token) in
    let before : c.args.to - 1 < c.args.to = omega (arith, c.requires.range.0) in
    other_inside (charted c.args.self.now) c.args.cat c.args.from c.args.to h c.requires.fits
    (λ lt. c.requires.known c.args.cat _ _ lt (inl before) (c.is_open.ensures e))
