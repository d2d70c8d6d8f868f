use Rattle.std.proofs.Common.{refl}
use Rattle.sy_base.specs.declared.fault.Code.TheVariants.{EmptyProduction}
use Rattle.proof_lexer.specs.View.{token_view}
use Rattle.sy_base.specs.FirstFault.{at_token}
use Rattle.user_grammar.specs.Finding.{AtToken, IsEmptyOf, written_view, lent_words}
use Rattle.sy_base.proofs.FirstLemmas.{found_one, none_found}
use Rattle.user_grammar.proofs.Tests.{refused}
use Rattle.user_grammar.proofs.fault_form.empty_production.Goals as goal

pub returns-then-has_empty : goal.returns-then-has_empty
returns-then-has_empty c =
    found_one at_token lent_words EmptyProduction (λ one. one.text) (IsEmptyOf (written_view c.args.written.now)) (token_view c.args.written.now.name.now) c.at_token.result c.at_token.ensures
    (record { is = refl; empty = c.has_empty.ensures.0 c.if-has_empty.true }) (λ s y. y.is)

pub returns : goal.returns
returns c =
    none_found at_token lent_words (AtToken EmptyProduction (IsEmptyOf (written_view c.args.written.now)))
    (λ o t d x. refused c.has_empty.result c.has_empty.ensures c.if-has_empty.false x.2.empty)
