use Rattle.std.proofs.Common.{◌≡◌, map, take}
use Rattle.user_grammar.specs.File.{listed}
use Rattle.user_grammar.specs.Made.{plains}
use Rattle.user_grammar.proofs.portions.listed.Given as goal

abbrev pub invariant-loop-portion : goal.invariant-loop-portion
invariant-loop-portion l = map (λ text. text.now) l.texts.items ≡ listed (plains (take l.portion-index l.portions))
