-- What functions inside the crate say of the tokens of a production and of the variable of a category.
use Rattle.std.specs.Prelude.{◌≡◌, ◌⊎◌, ℕ, List, [], ◌∷◌, ◌++◌, Option, MatchOption}
use Rattle.std.specs.List.{AllByRecursion}
use Rattle.sy_base.specs.Tokens.{PlainToken}
use Rattle.binding_terms.specs.declared.grammar.Cat.{Cat}
use Rattle.rule_schemes.specs.Reading.{IsVariableWord, IsCategoryWord}
use Rattle.user_grammar.specs.File.{WrittenCategory}
use Rattle.user_grammar.specs.Names.{names, IsNoSpelling}
use Rattle.user_grammar.specs.Production.{IsMark, IsVariable, AreBrackets, AreWords}
use Rattle.user_grammar.specs.Grammar.{IsCategory}
use Rattle.user_grammar.specs.declared.made_tokens.Meaning.{Meaning}
use Rattle.user_grammar.specs.declared.made_tokens.Meaning.TheVariants.{Slot, Binder, Other}
use Rattle.user_grammar.specs.declared.made_tokens.Spot.{Spot}
use Rattle.user_grammar.specs.declared.made_tokens.Spot.TheVariants.{Outside, BeforeWord, BehindWord}

-- the word is a spelling of the variable of the category with this number
abbrev pub IsBinderSpelling : List Cat → ℕ → List ℕ → Type 0
IsBinderSpelling cats c word = IsVariableWord (record { cats = cats; prods = [] }) c word

-- what a word stands for outside brackets: a part of a category, a binder, or itself
abbrev pub WordMeans : List Cat → List ℕ → Meaning → Type 0
WordMeans cats word (Slot c) = IsCategoryWord cats c.0 word
WordMeans cats word (Binder c) = IsBinderSpelling cats c.0 word
WordMeans cats word Other = IsNoSpelling (names cats) word

-- what a token stands for outside brackets
abbrev pub Means : List Cat → PlainToken → Meaning → Type 0
Means cats token (Slot c) = (token.kind ≡ 0) × IsCategoryWord cats c.0 token.text
Means cats token (Binder c) = (token.kind ≡ 0) × IsBinderSpelling cats c.0 token.text
Means cats token Other = token.kind ≡ 0 → IsNoSpelling (names cats) token.text

-- brackets from a spot on: behind a slot, after a bracket or a comma, or after a word
abbrev pub AreBracketsFrom : Spot → (words : List (List ℕ)) → (tokens rest : List PlainToken) → Type 0
AreBracketsFrom Outside words tokens rest = AreBrackets words tokens rest
AreBracketsFrom BeforeWord words tokens rest = AreWords words tokens rest
AreBracketsFrom BehindWord words [] rest = ⊥
AreBracketsFrom BehindWord words (token ∷ tokens) rest =
    (IsMark 44 token × AreWords words tokens rest) ⊎ (IsMark 93 token × AreBrackets words tokens rest)

-- the words that a token adds at a spot
abbrev pub taken_words : Spot → PlainToken → List (List ℕ)
taken_words BeforeWord token = token.text ∷ []
taken_words _ token = []

-- no bracket opens here
abbrev pub IsNotOpened : List PlainToken → Type 0
IsNotOpened [] = Unit {0}
IsNotOpened (token ∷ tokens) = IsMark 91 token → ⊥

-- the first of these forms that is a variable, with its name, or none where none is one
abbrev pub IsFirstVariable : (categories listed : List (List ℕ)) → List (List PlainToken) → Option (List ℕ) → Type 0
IsFirstVariable categories listed forms var =
    MatchOption var (AllByRecursion (λ form. IsVariable categories listed form → ⊥) forms)
    (λ name. (before : List (List PlainToken)) × (token : PlainToken) × (after : List (List PlainToken))
    × (forms ≡ before ++ (token ∷ []) ∷ after) × AllByRecursion (λ form. IsVariable categories listed form → ⊥) before
    × IsVariable categories listed (token ∷ []) × (name ≡ token.text))

-- the category has the written name and its first variable, and is one of contexts exactly where it is assumed
pub record IsMadeCategory (categories listed assumed : List (List ℕ)) (written : WrittenCategory) (cat : Cat) : Type 0 where
  pub category : IsCategory assumed written cat
  pub variable : IsFirstVariable categories listed written.forms cat.var
