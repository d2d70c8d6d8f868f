-- The inputs of a statement with what is given for them.
use Rattle.std.specs.Prelude.{List, [], ◌∷◌, Option, Some, None}
use Rattle.rule_schemes.specs.Derivation.{judgment}
use Rattle.rule_schemes.specs.Statement.{StatementInput, given, InputTree, derived}
use Rattle.scheme_match.specs.Matching.{Matched, judgments}

-- the pairs, unless a term is among them or there are more of one kind
abbrev pub put_pair : Matched → Option (List Matched) → Option (List Matched)
put_pair p None = None
put_pair p (Some ps) = Some (p ∷ ps)

abbrev pub input_pairs : List StatementInput → List InputTree → Option (List Matched)
input_pairs [] [] = Some []
input_pairs (given j ∷ inputs) (derived d ∷ xs) = put_pair (judgments j (judgment d)) (input_pairs inputs xs)
input_pairs _ _ = None
