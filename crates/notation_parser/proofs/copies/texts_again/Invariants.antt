use Rattle.std.proofs.Common.{◌≡◌, take}
use Rattle.notation_parser.proofs.copies.texts_again.Given as goal

abbrev pub invariant-loop-one : goal.invariant-loop-one
invariant-loop-one l = l.all ≡ take l.one-index l.words
