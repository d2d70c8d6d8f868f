use Rattle.std.proofs.Common.{◌≡◌, sym, ◌∙◌, false, true}
use Rattle.proof_lexer.specs.View.{token_view}
use Rattle.outline_reader.specs.Plain.{outlined}
use Rattle.judgments.proofs.ItemLemmas.{no_terminal}
use Rattle.judgments.proofs.items.terminal_of.Goals as goal

pub returns-then-not-is_terminal : goal.returns-then-not-is_terminal
returns-then-not-is_terminal c =
    no_terminal c.args.sig.now (outlined c.args.outline.now) (token_view c.args.token.now) c.requires
    (λ h. (let never : false ≡ true = sym c.if-not-is_terminal.true ∙ c.is_terminal.ensures.1 h in cc))
