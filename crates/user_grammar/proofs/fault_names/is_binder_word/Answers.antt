use Rattle.std.proofs.Common.{map}
use Rattle.binding_terms.specs.Numbered.{AnyByRecursion}
use Rattle.proof_lexer.specs.View.{token_view}
use Rattle.user_grammar.specs.File.{WrittenCategory, categories}
use Rattle.user_grammar.specs.Fault.{SpellsVariable}
use Rattle.user_grammar.specs.Finding.{portions_of}
use Rattle.user_grammar.proofs.FaultNames.{word_and, by_same, spells_some_variable}
use Rattle.user_grammar.proofs.fault_names.is_binder_word.Goals as goal

pub returns-then-is_word : goal.returns-then-is_word
returns-then-is_word c =
    let portions = portions_of c.args.names.now.lists in
    word_and (λ word. AnyByRecursion (λ (w : WrittenCategory). AnyByRecursion (SpellsVariable portions word) w.forms) (categories portions)) c.is_spelling_of_one.result _ _ c.as_bytes.ensures.value
    (c.is_word.ensures.0 c.if-is_word.true)
    (by_same c.is_spelling_of_one.result c.is_spelling_of_one.ensures
    (spells_some_variable portions (categories portions) (map (λ name. token_view name.now) c.args.names.now.variables.now) c.as_bytes.result.now c.requires.variables))
