-- Arguments before others.
use Rattle.std.specs.Prelude.{List, [], ◌∷◌}
use Rattle.scheme_terms.specs.SchemeTree.{SchemeTree, Values, value}

-- the schemes as arguments that stand before the others
abbrev pub before : List SchemeTree → Values → Values
before [] vs = vs
before (s ∷ ss) vs = value s (before ss vs)
