use Rattle.std.proofs.Common.{map}
use Rattle.user_grammar.specs.MadeItems.{IsMadeCategory}
use Rattle.user_grammar.proofs.MadeReadings.{zip_portion}
use Rattle.user_grammar.specs.Indexed.{names_in}
use Rattle.user_grammar.proofs.made_productions.made_categories.Goals as goal

pub loop-portion-preserved : goal.loop-portion-preserved
loop-portion-preserved c =
    let added = c.in_ok-add_made_category.ensures in
    zip_portion (IsMadeCategory (map (λ name. name.now) c.args.names.now) (names_in c.args.listed.now) (names_in c.args.assumed.now))
    c.args.portions.now c.loop-portion.portion-index c.portion-item.result _ _ added.0 c.loop-portion-test.true c.portion-item.is c.loop-portion.invariant added.1 added.2
