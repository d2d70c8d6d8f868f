-- The names of a scope.
use Rattle.std.specs.Prelude.{◌≢◌, List, [], ◌∷◌}
use Rattle.std.specs.List.{AllByRecursion}
use Rattle.scheme_terms.specs.declared.scheme.MetaDecl.{MetaDecl}

-- no two metavariables have one name
abbrev pub NamesApart : List MetaDecl → Type 0
NamesApart [] = Unit {0}
NamesApart (m ∷ metas) = AllByRecursion (λ n. m.name ≢ n.name) metas × NamesApart metas
