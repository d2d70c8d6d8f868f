use Rattle.std.proofs.Common.{List, map, sym, subst}
use Rattle.sy_base.specs.Tokens.{AreTokens, not_utf8, open_comment, open_quote}
use Rattle.proof_lexer.specs.View.{token_view, IsRefusedFor}
use Rattle.proof_lexer.specs.declared.token.Token.{Token as Lexed}
use Rattle.rule_schemes.specs.View.{theory}
use Rattle.derivation_text.specs.Contents.{contents}
use Rattle.derivation_text.proofs.LineLemmas.{answer_map}
use Rattle.derivation_text.proofs.ReaderLemmas.{text_of_lines, lines_of_text}
use Rattle.derivation_text.proofs.reader.read_derivs.Goals as goal

pub returns-in-Ok : goal.returns-in-Ok
returns-in-Ok c =
    let th = theory c.args.sys.now in
    let source = c.args.source.now in
    let tokens = map token_view c.as_slice.result.now in
    let are = subst (λ (ts : List Lexed). AreTokens source (map token_view ts)) (sym c.as_slice.ensures.value) c.in-Ok.ensures.tokens in
    answer_map c.read_lines.result
    (λ none around given text. none given (lines_of_text th c.requires.bare c.tokens_are_unique.ensures.tokens source tokens around given are text).1)
    (λ d h. (text_of_lines th source tokens (contents d) are h.0, h.1))
    c.read_lines.ensures

pub returns-in-Err-NotUtf8 : goal.returns-in-Err-NotUtf8
returns-in-Err-NotUtf8 c around given text = c.tokens_are_unique.ensures.apart c.args.source.now text.tokens (not_utf8 c.in-Err-NotUtf8.field-0-0) text.are_tokens (subst (IsRefusedFor c.args.source.now) c.in-Err-NotUtf8.field-0-is c.in-Err-NotUtf8.ensures.refused)

pub returns-in-Err-OpenComment : goal.returns-in-Err-OpenComment
returns-in-Err-OpenComment c around given text = c.tokens_are_unique.ensures.apart c.args.source.now text.tokens (open_comment c.in-Err-OpenComment.field-0-0) text.are_tokens (subst (IsRefusedFor c.args.source.now) c.in-Err-OpenComment.field-0-is c.in-Err-OpenComment.ensures.refused)

pub returns-in-Err-OpenQuote : goal.returns-in-Err-OpenQuote
returns-in-Err-OpenQuote c around given text = c.tokens_are_unique.ensures.apart c.args.source.now text.tokens (open_quote c.in-Err-OpenQuote.field-0-0) text.are_tokens (subst (IsRefusedFor c.args.source.now) c.in-Err-OpenQuote.field-0-is c.in-Err-OpenQuote.ensures.refused)
