-- What functions inside the crate find on the way to the first fault: the first of a family of faults that stand at tokens.
use Rattle.std.specs.Prelude.{◌≡◌, ◌↔◌, ◌⊎◌, ◌++◌, ℕ, List, [], ◌∷◌, map, flat_map, Option, None, Some, MatchOption}
use Rattle.binding_terms.specs.Numbered.{AnyByRecursion}
use Rattle.sy_base.specs.FirstFault.{Either, Faults, IsFirstFound, OfCode, OfSome, at_token, IsFoundAt as IsThere}
use Rattle.sy_base.specs.Tokens.{PlainToken}
use Rattle.sy_base.specs.declared.fault.Code.{Code}
use Rattle.sy_base.specs.declared.fault.Code.TheVariants as code
use Rattle.sy_base.specs.declared.first_fault.Found.{Found}
use denote.Ref.{Bor}
use Rattle.proof_lexer.specs.View.{token_view}
use Rattle.outline_reader.specs.Plain.{PlainPortion, judgment_of, theorem_of, plain_form}
use Rattle.user_grammar.specs.File.{WrittenCategory, categories, listed}
use Rattle.user_grammar.specs.Made.{plains}
use Rattle.user_grammar.specs.Fault.{Sort, a_terminal, a_category, a_variable, Declared, declared_as, IsSpelledAs, AreVariables, IsOneSlot, AssumesHere, category_texts}
use Rattle.user_grammar.specs.Names.{IsAmong}
use Rattle.user_grammar.specs.Indexed.{HaveSame, names_in}
use Rattle.user_grammar.specs.Production.{IsMark}
use Rattle.user_grammar.specs.declared.fault_form.Expected.{Expected}
use Rattle.user_grammar.specs.declared.fault_form.Expected.TheVariants as expected
use Rattle.user_grammar.specs.declared.fault_lists.Written.{Written}
use Rattle.user_grammar.specs.declared.fault_lists.Lists.{Lists}
use Rattle.user_grammar.specs.declared.fault_names.Names.{Names}
use Rattle.user_grammar.specs.declared.fault_declared.Declaration.{Declaration}
use Rattle.user_grammar.specs.declared.fault_declared.Seen.{Seen}
use Rattle.user_grammar.specs.declared.fault_declared.Means.{Means}
use Rattle.user_grammar.specs.declared.fault_declared.Means.TheVariants as means

-- the words of a detail that is lent
abbrev pub lent_words : Bor (List ℕ) → List ℕ
lent_words text = text.now

-- a fault that was found, with a detail that is lent
abbrev pub LentFault : Type 0
LentFault = Found (Bor (List ℕ))

-- the first fault of the family, which stands at tokens, or none where it has none
abbrev pub IsLeast : Faults PlainToken → Option LentFault → Type 0
IsLeast faults found = IsFirstFound at_token lent_words faults found

-- the code was found at the token, with its text
abbrev pub IsFoundAt : Code → PlainToken → LentFault → Type 0
IsFoundAt is token found = IsThere at_token lent_words is token token.text found

-- a category as the portions lend it
abbrev pub written_view : Written → WrittenCategory
written_view written = record { name = token_view written.name.now; mark = token_view written.mark.now; forms = map plain_form (map (λ form. form.now) written.forms.now) }

-- the portions of the file
abbrev pub portions_of : Lists → List PlainPortion
portions_of lists = plains lists.portions.now

-- these are the categories, their names and the listed terminals of the portions
pub record AreLists (lists : Lists) : Type 0 where
  pub categories : map written_view lists.categories.now ≡ categories (portions_of lists)
  pub named : HaveSame (names_in lists.names.now) (category_texts (portions_of lists))
  pub listed : HaveSame (names_in lists.listed.now) (listed (portions_of lists))

-- one code stands at a token that is so, with the token's text
abbrev pub AtToken : Code → (PlainToken → Type 0) → Code → PlainToken → List ℕ → Type 0
AtToken is IsAt found token detail = OfCode is (λ one. one.text) IsAt found token detail

-- the forms of all categories
abbrev pub all_forms : List WrittenCategory → List (List PlainToken)
all_forms written = flat_map (λ w. w.forms) written

-- the variables are those of the portions
pub record AreNames (names : Names) : Type 0 where
  pub lists : AreLists names.lists
  pub variables : AreVariables (portions_of names.lists) (all_forms (categories (portions_of names.lists))) (map (λ name. token_view name.now) names.variables.now)

-- a declaration as contracts see it
abbrev pub sort_view : Means → Sort
sort_view means.Terminal = a_terminal
sort_view means.Category = a_category
sort_view means.Variable = a_variable

abbrev pub declaration_view : Declaration → Declared
declaration_view declaration = declared_as (sort_view declaration.means) (token_view declaration.token.now)

-- the word of a listed terminal, and of another declaration none
abbrev pub words_if : Sort → PlainToken → List (List ℕ)
words_if a_terminal token = token.text ∷ []
words_if a_category token = []
words_if a_variable token = []

abbrev pub terminal_words : Declared → List (List ℕ)
terminal_words d = words_if d.sort d.token

-- the declaration of a category or a variable, and of a listed terminal none
abbrev pub alone_if : Sort → PlainToken → List Declared
alone_if a_terminal token = []
alone_if a_category token = declared_as a_category token ∷ []
alone_if a_variable token = declared_as a_variable token ∷ []

abbrev pub names_alone : Declared → List Declared
names_alone d = alone_if d.sort d.token

-- what was seen are the words of the listed terminals among the declarations, and its categories and variables
pub record HaveSeen (before : List Declared) (seen : Seen) : Type 0 where
  pub terminals : HaveSame (names_in seen.terminals) (flat_map terminal_words before)
  pub names : map declaration_view seen.names.items ≡ flat_map names_alone before

-- two declared words have a common spelling
pub record HaveCommon (one other : Declared) : Type 0 where
  pub word : List ℕ
  pub one_spelled : IsSpelledAs one word
  pub other_spelled : IsSpelledAs other word

-- a token by which a word is declared that has a common spelling with one declared before it
pub record IsCommon (all : List Declared) (token : PlainToken) : Type 0 where
  pub before : List Declared
  pub sort : Sort
  pub after : List Declared
  pub split : all ≡ before ++ declared_as sort token ∷ after
  pub common : AnyByRecursion (λ earlier. HaveCommon earlier (declared_as sort token)) before

-- one of the tokens
pub record IsOneToken (tokens : List PlainToken) (token : PlainToken) : Type 0 where
  pub is : AnyByRecursion (λ one. one ≡ token) tokens

-- a variable of these forms that is not the first one
pub record IsSecond (portions : List PlainPortion) (forms : List (List PlainToken)) (token : PlainToken) : Type 0 where
  pub first : PlainToken
  pub others : List PlainToken
  pub variables : AreVariables portions forms (first ∷ others)
  pub second : IsOneToken others token

-- the category has a production without an item, and this is its name
pub record IsEmptyOf (written : WrittenCategory) (token : PlainToken) : Type 0 where
  pub is : token ≡ written.name
  pub empty : AnyByRecursion (λ form. form ≡ []) written.forms

-- Whether tokens go on as the brackets behind a slot do, from a bracket that opens, from a word, or from what follows a word.
abbrev pub BracketsLeft : Expected → List PlainToken → Type 0
BracketsLeft expected.Opening [] = Unit {0}
BracketsLeft expected.Opening (token ∷ rest) = IsMark 91 token × BracketsLeft expected.Name rest
BracketsLeft expected.Name [] = ⊥
BracketsLeft expected.Name (token ∷ rest) = (token.kind ≡ 0) × BracketsLeft expected.Comma rest
BracketsLeft expected.Comma [] = ⊥
BracketsLeft expected.Comma (token ∷ rest) = (IsMark 44 token × BracketsLeft expected.Name rest) ⊎ (IsMark 93 token × BracketsLeft expected.Opening rest)

-- what is expected behind a token
pub record GoesOn (before : Expected) (token : PlainToken) (next : Expected) : Type 0 where
  pub goes_on : (rest : List PlainToken) → BracketsLeft before (token ∷ rest) ↔ BracketsLeft next rest

abbrev pub GoesOnAs : Expected → PlainToken → Option Expected → Type 0
GoesOnAs before token next = MatchOption next ((rest : List PlainToken) → BracketsLeft before (token ∷ rest) → ⊥) (GoesOn before token)

-- the first token of a form that is one slot alone
pub record IsSingle (portions : List PlainPortion) (form : List PlainToken) (token : PlainToken) : Type 0 where
  pub rest : List PlainToken
  pub split : form ≡ token ∷ rest
  pub one : IsOneSlot portions (token ∷ rest)

-- the fault of a form that is one slot alone
abbrev pub SingleOf : List PlainPortion → List ℕ → List PlainToken → Code → PlainToken → List ℕ → Type 0
SingleOf portions name form found token detail = (found ≡ code.SingleCategory) × (detail ≡ name) × IsSingle portions form token

-- what is found of a category and of its forms
abbrev pub ShortOf : List PlainPortion → WrittenCategory → Code → PlainToken → List ℕ → Type 0
ShortOf portions written = Either (AtToken code.EmptyProduction (IsEmptyOf written)) (OfSome (SingleOf portions written.name.text) written.forms)

-- the name that a portion has behind `assumes`
abbrev pub assumed_token : PlainPortion → Option PlainToken
assumed_token (judgment_of first name form assumes) = assumes
assumed_token (theorem_of first joined kind name assumes inputs outputs targets) = assumes
assumed_token _ = None

-- a name behind `assumes` that is no category
pub record IsUnknownContext (portions : List PlainPortion) (portion : PlainPortion) (token : PlainToken) : Type 0 where
  pub assumes : AssumesHere portion token
  pub unknown : IsAmong (category_texts portions) token.text → ⊥

-- these are found of the names that a portion assumes
abbrev pub UnknownContexts : List PlainPortion → PlainPortion → Code → PlainToken → List ℕ → Type 0
UnknownContexts portions portion = AtToken code.UnknownWord (IsUnknownContext portions portion)
