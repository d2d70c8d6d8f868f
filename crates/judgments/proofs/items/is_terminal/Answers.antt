use Rattle.std.proofs.Common.{◌∙◌, sym, ap}
use Rattle.proof_lexer.specs.View.{token_view, kind_number}
use Rattle.outline_reader.specs.Plain.{outlined}
use Rattle.judgments.proofs.ItemLemmas.{word_terminal}
use Rattle.judgments.proofs.items.is_terminal.Goals as goal

pub returns-else-is_numeral : goal.returns-else-is_numeral
returns-else-is_numeral c =
    word_terminal c.args.sig.now (outlined c.args.outline.now) (token_view c.args.token.now) c.is_listed.result (ap kind_number c.in-Word.is) (c.requires (ap kind_number c.in-Word.is))
    (sym c.is_numeral.ensures ∙ c.if-is_numeral.false) (rw c.as_bytes-text.ensures.value at c.is_listed.ensures)
