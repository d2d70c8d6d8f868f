use Rattle.std.proofs.Common.{map, ◌∙◌}
use Rattle.proof_lexer.specs.View.{token_view}
use Rattle.outline_reader.specs.Plain.{plain_form}
use Rattle.user_grammar.proofs.MadeReadings.{first_here}
use Rattle.user_grammar.specs.Indexed.{names_in}
use Rattle.user_grammar.proofs.made_productions.variable.Goals as goal

pub returns-in-Some : goal.returns-in-Some
returns-in-Some c =
    first_here plain_form (λ form. form.now) (map (λ name. name.now) c.args.names.now) (names_in c.args.listed.now) c.args.forms.now c.loop-form.form-index _
    (token_view c.in-Some.token.now) _ c.loop-form-test.true c.loop-form.invariant c.in-Some.ensures.0 c.in-Some.ensures.1 (c.in_ok-of.ensures ∙ c.as_bytes.ensures.value)
