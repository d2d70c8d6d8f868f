use Rattle.std.proofs.Common.{◌≡◌, map, take}
use Rattle.user_grammar.specs.File.{categories}
use Rattle.user_grammar.specs.Finding.{written_view}
use Rattle.user_grammar.specs.Made.{plains}
use Rattle.user_grammar.proofs.fault_lists.lent_categories.Given as goal

abbrev pub invariant-loop-portion : goal.invariant-loop-portion
invariant-loop-portion l = map written_view l.all.items ≡ categories (plains (take l.portion-index l.portions))
