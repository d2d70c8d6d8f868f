-- Schemes before others, one by one.
use Rattle.std.proofs.Common.{◌≡◌, ℕ, List, [], ◌∷◌, ◌++◌, refl, ap}
use Rattle.scheme_terms.specs.SchemeTree.{SchemeTree, Values, no_values, value, values, Parts, no_parts, part}
use Rattle.scheme_terms.specs.View.{parts_of}
use Rattle.ordered_readings.specs.NodeView.{more_values, more_parts}

pub values_end : (ss : List SchemeTree) → values ss ≡ more_values ss no_values
values_end [] = refl
values_end (s ∷ ss) = ap (value s) (values_end ss)

pub values_more : (ss : List SchemeTree) (s : SchemeTree) (vs : Values) → more_values (ss ++ s ∷ []) vs ≡ more_values ss (value s vs)
values_more [] s vs = refl
values_more (t ∷ ss) s vs = ap (value t) (values_more ss s vs)

pub parts_end : (ps : List (ℕ × SchemeTree)) → parts_of ps ≡ more_parts ps no_parts
parts_end [] = refl
parts_end (p ∷ ps) = ap (part p.0 p.1) (parts_end ps)

pub parts_more : (ps : List (ℕ × SchemeTree)) (p : ℕ × SchemeTree) (xs : Parts) → more_parts (ps ++ p ∷ []) xs ≡ more_parts ps (part p.0 p.1 xs)
parts_more [] p xs = refl
parts_more (q ∷ ps) p xs = ap (part q.0 q.1) (parts_more ps p xs)
