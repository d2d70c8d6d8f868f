-- Lists that say the same have as many elements, and say the same at each place.
use Rattle.std.proofs.Common.{◌≡◌, ℕ, ◌<◌, get_or, List, length, map, ap, ◌∙◌, sym}
use Rattle.std.proofs.lemmas.List.{get_or-map, length-map}
