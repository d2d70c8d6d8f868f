-- The first name of a statement without the strict occurrence that is asked of it. To be held against docs/definitions.md, 'Statements'.
use Rattle.std.specs.Prelude.{◌≡◌, ◌⊎◌, ℕ, suc, List, [], ◌∷◌}
use Rattle.binding_terms.specs.Numbered.{AllNumbered}
use Rattle.scheme_terms.specs.declared.scheme.MetaDecl.{MetaDecl}
use Rattle.rule_schemes.specs.Statement.{Theorem, StrictInStatement}

-- the first name that lacks what is asked has this number, where the first of the list has the number n
abbrev pub IsFirstLacking : (Has : ℕ → Type 0) → (n : ℕ) → List MetaDecl → (number : ℕ) → Type 0
IsFirstLacking Has n [] m = ⊥
IsFirstLacking Has n (decl ∷ decls) m = ((n ≡ m) × (Has n → ⊥)) ⊎ (Has n × IsFirstLacking Has (suc n) decls m)

-- the first metavariable of the statement without a strict occurrence has this number
abbrev pub IsFirstUnstrictName : Theorem → (number : ℕ) → Type 0
IsFirstUnstrictName st m = IsFirstLacking (StrictInStatement st) 0 st.scope.metas m

-- each metavariable of the statement has a strict occurrence
abbrev pub AllNamesStrict : Theorem → Type 0
AllNamesStrict st = AllNumbered (λ m decl. StrictInStatement st m) 0 st.scope.metas
