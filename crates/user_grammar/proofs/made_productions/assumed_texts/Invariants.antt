use Rattle.std.proofs.Common.{◌≡◌, map, take}
use Rattle.user_grammar.specs.File.{assumed}
use Rattle.user_grammar.specs.Made.{plains}
use Rattle.user_grammar.proofs.made_productions.assumed_texts.Given as goal

abbrev pub invariant-loop-portion : goal.invariant-loop-portion
invariant-loop-portion l = map (λ text. text.now) l.texts.items ≡ assumed (plains (take l.portion-index l.portions))
