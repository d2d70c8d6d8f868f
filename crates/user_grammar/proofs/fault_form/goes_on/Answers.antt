use Rattle.std.proofs.Common.{sym, subst}
use Rattle.proof_lexer.specs.View.{token_view}
use Rattle.user_grammar.specs.Finding.{GoesOnAs}
use Rattle.user_grammar.proofs.fault_form.goes_on.Goals as goal

pub returns-in-Opening : goal.returns-in-Opening
returns-in-Opening c = subst (λ e. GoesOnAs e (token_view c.args.token.now) c.behind_bracket.result) (sym c.in-Opening.is) c.behind_bracket.ensures

pub returns-in-Name : goal.returns-in-Name
returns-in-Name c = subst (λ e. GoesOnAs e (token_view c.args.token.now) c.behind_opening.result) (sym c.in-Name.is) c.behind_opening.ensures

pub returns-in-Comma : goal.returns-in-Comma
returns-in-Comma c = subst (λ e. GoesOnAs e (token_view c.args.token.now) c.behind_name.result) (sym c.in-Comma.is) c.behind_name.ensures
