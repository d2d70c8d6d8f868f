use Rattle.std.proofs.Common.{◌≡◌, map, sym, ◌∙◌, true≢false}
use Rattle.term_reader.specs.View.{token}
use Rattle.notation_parser.proofs.CandidateSteps.{a_candidate}
use Rattle.notation_parser.proofs.new_names.candidate.Goals as goal

pub returns-in_ok-of-in-Some-2 : goal.returns-in_ok-of-in-Some-2
returns-in_ok-of-in-Some-2 c =
    let text : (token c.args.t.now).1 ≡ c.as_bytes-name.result.now = sym c.as_bytes-name.ensures.value in
    let kind : (token c.args.t.now).0 ≡ 0 = c.is_any_word.ensures.0 c.if-not-is_any_word.false in
    a_candidate c.args.sig.now c.args.metas.now c.args.found.now (map token c.args.tokens.now) (token c.args.t.now) c.as_bytes-name.result.now c.in_ok-of-in-Some-2.field-0 c.in-Some.cat c.in-Some-2.params
    (λ i. (kind i, text i)) c.in_ok-of-in-Some-2.ensures (c.is_new.ensures.0 c.if-not-is_new.false) (λ a. true≢false (sym (c.is_among.ensures.1 a) ∙ c.if-is_among.false))
    (rw c.in-Some.is at c.in_ok-category.ensures) (rw c.in-Some-2.is at c.in_ok-first_telling-in-Some.ensures)
