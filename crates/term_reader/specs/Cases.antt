-- How a term reads: as a group, as a metavariable, as a variable or by a production, each at its place in the reading order.
use Rattle.std.specs.Prelude.{◌≡◌, ◌<◌, ◌+◌, ◌⊎◌, ℕ, List, [], ◌∷◌, ◌++◌, map, Some, slice_get}
use Rattle.binding_terms.specs.Signature.{Signature, binders}
use Rattle.binding_terms.specs.declared.grammar.Prod.{Prod}
use Rattle.binding_terms.specs.declared.grammar.Item.{Item}
use Rattle.scheme_terms.specs.SchemeTree.{SchemeTree, meta, con, Values, Parts}
use Rattle.scheme_terms.specs.declared.scheme.MetaDecl.{MetaDecl}
use Rattle.rule_schemes.specs.Reading.{Token, punctuation, word, Variable, Means, variables_of}
use Rattle.rule_schemes.specs.Said.{Way, way, Ways, no_ways, then_way}
use Rattle.term_reader.specs.Ordered.{ReadsTermAt, ReadsBracketsAt, ReadsItemsAt}

abbrev pub IsGroup : Signature → List MetaDecl → List Variable → (cat : ℕ) → List Token → Way → SchemeTree → Type 0
IsGroup sig metas vars c ts w s =
    (inner : List Token) × (v : Way) × (ts ≡ punctuation 40 ∷ (inner ++ punctuation 41 ∷ []))
    × (w ≡ way 0 [] (then_way v no_ways)) × ReadsTermAt sig metas vars c inner v s

-- the metavariable with this number, with its arguments in brackets
abbrev pub IsNameOf : Signature → List MetaDecl → List Variable → (number : ℕ) → MetaDecl → (cat : ℕ) → List Token → Way → SchemeTree → Type 0
IsNameOf sig metas vars m decl c ts w s =
    (vs : Values) × (ls : List ℕ) × (ws : Ways) × (w ≡ way 1 ls ws) × (s ≡ meta m vs) × (decl.cat.0 ≡ c)
    × (rest : List Token) × (ts ≡ word decl.name ∷ rest) × ReadsBracketsAt sig metas vars (map (λ p. p.0) decl.params) rest ls ws vs

abbrev pub IsName : Signature → List MetaDecl → List Variable → (cat : ℕ) → List Token → Way → SchemeTree → Type 0
IsName sig metas vars c ts w s =
    (m : ℕ) × (decl : MetaDecl) × (slice_get metas m ≡ Some decl) × IsNameOf sig metas vars m decl c ts w s

-- one of these, the number below that
abbrev pub IsNameBelow : ℕ → Signature → List MetaDecl → List Variable → (cat : ℕ) → List Token → Way → SchemeTree → Type 0
IsNameBelow n sig metas vars c ts w s =
    (m : ℕ) × (m < n) × (decl : MetaDecl) × (slice_get metas m ≡ Some decl) × IsNameOf sig metas vars m decl c ts w s

-- a variable that is in scope
abbrev pub IsVariable : List Variable → (cat : ℕ) → List Token → Way → SchemeTree → Type 0
IsVariable vars c ts w s = (w ≡ way 2 [] no_ways) × (name : List ℕ) × (ts ≡ word name ∷ []) × Means 0 vars name c s

-- the alternative with this number, kept under that one, its items split over all the tokens
abbrev pub IsMade : Signature → List MetaDecl → List Variable → (alternative number : ℕ) → List Item → List Token → Way → SchemeTree → Type 0
IsMade sig metas vars alternative p items ts w s =
    (xs : Parts) × (ls : List ℕ) × (ws : Ways) × (w ≡ way alternative ls ws) × (s ≡ con p xs)
    × (words : List (List ℕ)) × ReadsItemsAt sig metas vars (variables_of words (binders items)) words items ts ls ws xs

abbrev pub IsProduct : Signature → List MetaDecl → List Variable → (number cat : ℕ) → List Token → Way → SchemeTree → Type 0
IsProduct sig metas vars p c ts w s =
    (prod : Prod) × (slice_get sig.prods p ≡ Some prod) × (prod.cat.0 ≡ c) × IsMade sig metas vars (3 + p) p prod.items ts w s

-- a group, a metavariable, a variable, or by one of the productions below that
abbrev pub IsReadBelow : ℕ → Signature → List MetaDecl → List Variable → (cat : ℕ) → List Token → Way → SchemeTree → Type 0
IsReadBelow n sig metas vars c ts w s =
    IsGroup sig metas vars c ts w s ⊎ IsName sig metas vars c ts w s ⊎ IsVariable vars c ts w s
    ⊎ ((p : ℕ) × (p < n) × IsProduct sig metas vars p c ts w s)
