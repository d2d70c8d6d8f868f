use Rattle.std.proofs.Common.{◌↔◌, IsTrue, ◌∙◌, ap, sym, subst, option_map}
use Rattle.proof_lexer.specs.View.{token_view}
use Rattle.outline_reader.specs.Plain.{plain_portion}
use Rattle.outline_reader.specs.Views.{portion_view}
use Rattle.user_grammar.specs.Names.{IsAmong}
use Rattle.user_grammar.specs.Fault.{category_texts}
use Rattle.user_grammar.specs.Finding.{portions_of}
use Rattle.user_grammar.proofs.FaultAssumed.{unknown_assumed}
use Rattle.user_grammar.proofs.Tests.{refused}
use Rattle.user_grammar.proofs.fault_assumed.unknown_context.Goals as goal

pub returns : goal.returns
returns c =
    unknown_assumed (portions_of c.args.lists.now) (plain_portion (portion_view c.args.portion.now)) (token_view c.in-Some.name.now) c.at_token.result
    (sym c.assumed_of.ensures ∙ ap (option_map (λ name. token_view name.now)) c.in-Some.is)
    (refused c.is_category.result
    (subst (λ word. IsTrue c.is_category.result ↔ IsAmong (category_texts (portions_of c.args.lists.now)) word) c.as_bytes.ensures.value c.is_category.ensures) c.if-is_category.false)
    c.at_token.ensures
