use Rattle.std.proofs.Common.{◌≡◌, ◌++◌, ℕ, List, Option, drop}
use Rattle.binding_terms.specs.declared.grammar.Prod.{Prod}
use Rattle.user_grammar.specs.File.{categories}
use Rattle.user_grammar.specs.Grammar.{AreProductions}
use Rattle.user_grammar.specs.Made.{plains}
use Rattle.user_grammar.specs.Indexed.{names_in}
use Rattle.user_grammar.proofs.made_productions.made_productions.Given as goal

-- the categories that are left stand for the productions that are left
abbrev pub invariant-loop-portion : goal.invariant-loop-portion
invariant-loop-portion l =
    (vars : List (Option (List ℕ))) (own : List Prod)
    → AreProductions l.cats (names_in l.listed) 0 (categories (plains l.portions)) vars own
    → (left_vars : List (Option (List ℕ))) × (left : List Prod)
    × AreProductions l.cats (names_in l.listed) l.number (categories (plains (drop l.portion-index l.portions))) left_vars left
    × (l.prods.items ++ left ≡ own)
