use Rattle.std.proofs.Common.{◌↔◌, IsTrue, subst}
use Rattle.rule_schemes.specs.Reading.{IsSpelling}
use Rattle.user_grammar.specs.Finding.{written_view}
use Rattle.user_grammar.proofs.FaultNames.{word_and}
use Rattle.user_grammar.proofs.fault_context.is_word_of.Goals as goal

pub returns-then-is_word : goal.returns-then-is_word
returns-then-is_word c = λ portions.
    word_and (λ word. IsSpelling (written_view c.args.written.now).name.text word) c.is_spelling.result _ _ c.as_bytes-word.ensures.value (c.is_word.ensures.0 c.if-is_word.true)
    (subst (λ name. IsTrue c.is_spelling.result ↔ IsSpelling name c.as_bytes-word.result.now) c.as_bytes-name.ensures.value c.is_spelling.ensures)
