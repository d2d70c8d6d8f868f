use Rattle.std.proofs.Common.{◌≡◌, [], map, sym, subst, true≢false, ◌∙◌, arith}
use Rattle.std.proofs.lemmas.List.{nil_from_length}
use Rattle.rule_schemes.specs.NewNames.{TellsBrackets, at_end, no_bracket}
use Rattle.rule_schemes.specs.Reading.{word}
use Rattle.term_reader.specs.View.{token}
use Rattle.term_reader.proofs.SplitLemmas.{if_ok}
use Rattle.notation_parser.proofs.Tellings.{told_nothing, told_opened, told_word}
use Rattle.notation_parser.proofs.parameters.+telling.Goals as goal

pub bracket-returns-then-is_punctuation : goal.bracket-returns-then-is_punctuation
bracket-returns-then-is_punctuation t c =
    if_ok c.words.result _ _ (λ found h. told_opened c.args.sig.now (token c.args.first.now) (map token c.args.rest.now) c.args.told (c.is_punctuation.ensures.0 c.if-is_punctuation.true) found h) c.words.ensures

pub bracket-returns-else-is_punctuation : goal.bracket-returns-else-is_punctuation
bracket-returns-else-is_punctuation t c =
    told_nothing (TellsBrackets c.args.sig.now _) c.args.told (no_bracket (λ e. true≢false (sym (c.is_punctuation.ensures.1 e) ∙ c.if-is_punctuation.false)))

pub brackets-returns-in-empty : goal.brackets-returns-in-empty
brackets-returns-in-empty t c =
    let e : c.args.tokens.now ≡ [] = nil_from_length c.args.tokens.now (omega (arith, c.in-empty.len_below)) in
    told_nothing (TellsBrackets c.args.sig.now (map token c.args.tokens.now)) c.args.told (subst (λ ts. TellsBrackets c.args.sig.now (map token ts) [] []) (sym e) at_end)

pub word-returns-in_ok-more-in-Some : goal.word-returns-in_ok-more-in-Some
word-returns-in_ok-more-in-Some t c =
    let text : (token c.args.first.now).1 ≡ c.as_bytes-text.result.now = sym c.as_bytes-text.ensures.value in
    let kind : (token c.args.first.now).0 ≡ 0 = c.is_any_word.ensures.0 c.if-not-is_any_word.false in
    let is : token c.args.first.now ≡ word c.as_bytes-text.result.now = λ i. (kind i, text i) in
    if_ok c.behind.result _ _
    (λ found h. told_word c.args.sig.now (token c.args.first.now) (map token c.args.rest.now) c.args.told c.in_ok-more-in-Some.more c.as_bytes-text.result.now c.in-Some.cat is
    (rw c.in-Some.is at c.in_ok-variable_category.ensures) c.in_ok-more-in-Some.ensures.0 c.in_ok-more-in-Some.ensures.1 found h) c.behind.ensures
