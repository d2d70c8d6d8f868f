use Rattle.std.proofs.Common.{◌≡◌, map, take}
use Rattle.scheme_terms.specs.View.{scheme_part}
use Rattle.term_reader.proofs.firsts.again.Given as goal

abbrev pub invariant-loop-part : goal.invariant-loop-part
invariant-loop-part l = map scheme_part l.all ≡ map scheme_part (take l.part-index l.parts)
