-- Spellings of categories. To be held against docs/notation.md, 'Grammar'.
use Rattle.std.specs.Prelude.{ℕ, List}
use Rattle.binding_terms.specs.declared.grammar.Cat.{Cat}
use Rattle.user_grammar.specs.Names as names
use Rattle.user_grammar.specs.Names.{category_names}

-- the word is a spelling of none of the categories
abbrev pub IsNoSpelling : List Cat → List ℕ → Type 0
IsNoSpelling cats w = names.IsNoSpelling (category_names cats) w
