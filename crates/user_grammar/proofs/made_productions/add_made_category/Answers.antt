use Rattle.std.proofs.Common.{◌≡◌, ◌++◌, ◌∷◌, [], List, map, subst, sym}
use Rattle.std.specs.List.{AllZip}
use Rattle.binding_terms.specs.declared.grammar.Cat.{Cat}
use Rattle.proof_lexer.specs.View.{token_view}
use Rattle.outline_reader.specs.Plain.{plain_form, plain_portion}
use Rattle.outline_reader.specs.Views.{portion_view}
use Rattle.user_grammar.specs.File.{category_in}
use Rattle.user_grammar.specs.Indexed.{names_in}
use Rattle.user_grammar.specs.MadeItems.{IsMadeCategory}
use Rattle.user_grammar.proofs.made_productions.add_made_category.Goals as goal

pub returns-in_ok-push-in-Category : goal.returns-in_ok-push-in-Category
returns-in_ok-push-in-Category c =
    let made = IsMadeCategory (map (λ name. name.now) c.args.names.now) (names_in c.args.listed.now) (names_in c.args.assumed.now) in
    let mark = token_view c.in-Category.mark.now in
    subst (λ p. (own : List Cat) × (c.push.new.self.items ≡ c.args.cats.now.items ++ own) × AllZip made (category_in (plain_portion (portion_view p))) own) (sym c.in-Category.is) (
      c.in_ok-made_category-in-Category.field-0 ∷ [],
      c.in_ok-push-in-Category.ensures.items,
      (
        subst (λ fs. made (record { name = token_view c.in-Category.name.now; mark = mark; forms = map plain_form (map (λ form. form.now) fs) }) c.in_ok-made_category-in-Category.field-0)
            c.as_slice-forms.ensures.value (c.in_ok-made_category-in-Category.ensures mark),
        tt,
      ),
    )
