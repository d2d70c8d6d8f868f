use Rattle.std.proofs.Common.{map, subst}
use Rattle.std.specs.List.{AllZip}
use Rattle.user_grammar.specs.File.{assumed, categories}
use Rattle.user_grammar.specs.Indexed.{names_in}
use Rattle.user_grammar.specs.Made.{plains}
use Rattle.user_grammar.specs.MadeItems.{IsMadeCategory}
use Rattle.user_grammar.proofs.MadeCategories.{made_are, made_same}
use Rattle.user_grammar.proofs.made.written_categories.Goals as goal

pub returns-clause-are : goal.returns-clause-are
returns-clause-are c = λ sig is.
    let portions = plains c.args.portions.now in
    let cats = c.in_ok-cats.cats.items in
    let names = map (λ name. name.now) c.args.names.now in
    made_are portions names cats sig is c.requires.named
    (subst (λ texts. AllZip (IsMadeCategory names texts (assumed portions)) (categories portions) cats) c.requires.are_listed
    (made_same names (names_in c.args.texts.now) (names_in c.in_ok-assumed.assumed) (assumed portions) c.in_ok-assumed.ensures (categories portions) cats c.in_ok-cats.ensures))
