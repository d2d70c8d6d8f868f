use Rattle.binding_terms.specs.Numbered.{AnyByRecursion}
use Rattle.rule_schemes.specs.Reading.{IsSpelling}
use Rattle.user_grammar.specs.Fault.{category_texts}
use Rattle.user_grammar.specs.Finding.{portions_of}
use Rattle.user_grammar.proofs.FaultNames.{word_and}
use Rattle.user_grammar.proofs.fault_names.is_slot_word.Goals as goal

pub returns-then-is_word : goal.returns-then-is_word
returns-then-is_word c =
    word_and (λ word. AnyByRecursion (λ name. IsSpelling name word) (category_texts (portions_of c.args.lists.now))) c.is_spelled.result _ _ c.as_bytes.ensures.value
    (c.is_word.ensures.0 c.if-is_word.true) c.is_spelled.ensures
