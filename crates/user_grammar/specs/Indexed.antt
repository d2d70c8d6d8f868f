-- What functions inside the crate say of names with look-up by name.
use Rattle.std.specs.Prelude.{◌≡◌, ◌↔◌, ◌⊎◌, ℕ, List, [], ◌∷◌, ◌++◌, map}
use Rattle.user_grammar.specs.Names.{IsAmong}
use Rattle.user_grammar.specs.declared.name_index.NameIndex.{NameIndex}

-- the names, in the order of their declaration, each once
abbrev pub names_in : NameIndex → List (List ℕ)
names_in index = map (λ name. name.now) index.names.keys

-- after a name was added: one that is there keeps its place, and another goes last
abbrev pub IsAdded : (old : List (List ℕ)) → (name : List ℕ) → (new : List (List ℕ)) → Type 0
IsAdded old name new = (IsAmong old name × (new ≡ old)) ⊎ ((IsAmong old name → ⊥) × (new ≡ old ++ name ∷ []))

-- the same names stand in both lists
abbrev pub HaveSame : (one other : List (List ℕ)) → Type 0
HaveSame one other = (text : List ℕ) → IsAmong one text ↔ IsAmong other text
