use Rattle.std.proofs.Common.{◌≡◌, ◌++◌, map, take}
use Rattle.scheme_terms.specs.View.{known_variable}
use Rattle.notation_parser.specs.Knowns.{known_texts}
use Rattle.notation_parser.proofs.knowns.all_words.Given as goal

abbrev pub invariant-loop-known : goal.invariant-loop-known
invariant-loop-known l = l.all ≡ l.words ++ known_texts l.sig (map known_variable (take l.known-index l.knowns))
