use Rattle.std.proofs.Common.{◌≡◌, Some, map, take}
use Rattle.scheme_match.proofs.matcher.places.Given as goal

abbrev pub invariant-loop-place : goal.invariant-loop-place
invariant-loop-place l = l.all ≡ map Some (take l.place-index l.knowns)
