use Rattle.std.proofs.Common.{◌↔◌, ◌≤◌, drop, length}
use Rattle.scheme_terms.specs.View.{scheme_parts}
use Rattle.term_reader.specs.PlaceCases.{BindAsMany}
use Rattle.term_reader.proofs.counting.bind_as_many.Given as goal

abbrev pub invariant-loop-item : goal.invariant-loop-item
invariant-loop-item l =
    (BindAsMany l.items (scheme_parts l.parts) ↔ BindAsMany (drop l.item-index l.items) (scheme_parts (drop l.at l.parts)))
    × (l.at ≤ length l.parts)
