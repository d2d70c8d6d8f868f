use Rattle.std.proofs.Common.{◌++◌, map, subst, sym}
use Rattle.proof_lexer.specs.View.{token_view}
use Rattle.outline_reader.specs.Plain.{plain_form, plain_portion}
use Rattle.outline_reader.specs.Views.{portion_view}
use Rattle.user_grammar.specs.File.{WrittenCategory, category_in}
use Rattle.user_grammar.specs.Grammar.{AreForms, AreProductions}
use Rattle.user_grammar.proofs.MadeReadings.{category_more}
use Rattle.user_grammar.specs.Indexed.{names_in}
use Rattle.user_grammar.proofs.made_productions.add_made.Goals as goal

pub returns-else-number-eq4294967295 : goal.returns-else-number-eq4294967295
returns-else-number-eq4294967295 c = λ written vars own are.
    let texts = names_in c.args.listed.now in
    let w : WrittenCategory = record { name = token_view c.in-Category.name.now; mark = token_view c.in-Category.mark.now; forms = map plain_form (map (λ form. form.now) c.in-Category.productions.items) } in
    category_more c.args.cats.now texts c.args.number w written vars own _ _
    (subst (λ p. AreProductions c.args.cats.now texts c.args.number (category_in (plain_portion (portion_view p)) ++ written) vars own) c.in-Category.is are)
    (λ var first stands. c.in_ok-add_forms-in-Category.ensures var first
    (subst (λ fs. AreForms c.args.cats.now texts c.args.number var (map plain_form (map (λ form. form.now) fs)) first) (sym c.as_slice-forms.ensures.value) stands))
