use Rattle.std.proofs.Common.{◌≡◌, ℕ, map, take}
use Rattle.scheme_terms.specs.SchemeTree.{SchemeTree}
use Rattle.scheme_terms.specs.View.{scheme, scheme_part}
use Rattle.term_reader.proofs.reading.bodies.Given as goal

abbrev pub invariant-loop-part : goal.invariant-loop-part
invariant-loop-part l = map scheme l.all ≡ map (λ (a : ℕ × SchemeTree). a.1) (map scheme_part (take l.part-index l.parts))
