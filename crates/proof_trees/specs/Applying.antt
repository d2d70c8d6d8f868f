-- Schemes for one variable. To be held against docs/notation.md, 'Rules and statements'.
use Rattle.std.specs.Prelude.{ℕ, ◌-◌, ◌==◌, if◌then◌else◌}
use Rattle.scheme_terms.specs.SchemeTree.{SchemeTree, known, local, filled}

-- a scheme with another for its innermost local, the others lowered
abbrev pub put_innermost : SchemeTree → SchemeTree → SchemeTree
put_innermost t s = filled (λ i. if i == 0 then t else local (i - 1)) s

-- a scheme with a known variable for its one local
abbrev pub known_innermost : ℕ → SchemeTree → SchemeTree
known_innermost k s = filled (λ i. known k) s
