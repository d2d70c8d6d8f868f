use Rattle.std.proofs.Common.{map, take}
use Rattle.std.specs.List.{AllZip}
use Rattle.user_grammar.specs.File.{categories}
use Rattle.user_grammar.specs.Made.{plains}
use Rattle.user_grammar.specs.MadeItems.{IsMadeCategory}
use Rattle.user_grammar.specs.Indexed.{names_in}
use Rattle.user_grammar.proofs.made_productions.made_categories.Given as goal

abbrev pub invariant-loop-portion : goal.invariant-loop-portion
invariant-loop-portion l =
    AllZip (IsMadeCategory (map (λ name. name.now) l.names) (names_in l.listed) (names_in l.assumed))
    (categories (plains (take l.portion-index l.portions))) l.cats.items
