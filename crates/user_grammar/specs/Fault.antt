-- The faults of the grammar of a file: which code stands at which token, with which detail. To be held against 'Grammar' and 'Faults of
-- grammars' of docs/notation.md. A kind is 0 a word, 2 punctuation; of punctuation 91 and 93 are brackets, 44 is the comma.
use Rattle.std.specs.Prelude.{◌≡◌, ◌≢◌, ◌⊎◌, ℕ, List, [], ◌∷◌, ◌++◌, map, Some}
use Rattle.std.specs.List.{AllByRecursion, Contains}
use Rattle.binding_terms.specs.Numbered.{AnyByRecursion}
use Rattle.rule_schemes.specs.Reading.{IsSpelling}
use Rattle.sy_base.specs.FirstFault.{IsFaultless, at_token, IsFirstFault as IsFirstOf}
use Rattle.sy_base.specs.Tokens.{PlainToken}
use Rattle.sy_base.specs.declared.fault.Code.{Code}
use Rattle.sy_base.specs.declared.fault.Code.TheVariants as code
use Rattle.outline_reader.specs.Plain.{PlainPortion, terminals, category, judgment_of, theorem_of}
use Rattle.user_grammar.specs.File.{WrittenCategory, listed, categories, assumed}
use Rattle.user_grammar.specs.Names.{IsAmong}
use Rattle.user_grammar.specs.Production.{IsTerminal, IsMark, IsVariable, AreBrackets}

-- exactly one of these is so
abbrev pub ExactlyOne : {A : Type 0} → (A → Type 0) → List A → Type 0
ExactlyOne {A} P xs =
    (before : List A) × (x : A) × (after : List A) × (xs ≡ before ++ x ∷ after) × P x
    × AllByRecursion (λ y. P y → ⊥) before × AllByRecursion (λ y. P y → ⊥) after

-- how a word is declared
pub data Sort : Type 0 where
  a_terminal : Sort
  a_category : Sort
  a_variable : Sort

-- a token by which a word is declared
pub record Declared : Type 0 where
  pub sort : Sort
  pub token : PlainToken

abbrev pub declared_as : Sort → PlainToken → Declared
declared_as s t = record { sort = s; token = t }

-- the spellings of what is declared: of a terminal only itself
abbrev pub IsSpelledBy : Sort → List ℕ → List ℕ → Type 0
IsSpelledBy a_terminal text word = word ≡ text
IsSpelledBy a_category text word = IsSpelling text word
IsSpelledBy a_variable text word = IsSpelling text word

abbrev pub IsSpelledAs : Declared → List ℕ → Type 0
IsSpelledAs d word = IsSpelledBy d.sort d.token.text word

-- Where a token of a production stands: outside brackets; right behind a slot or its brackets; or in brackets, where a word is expected or
-- else a comma or the end. With the words that the brackets of the slot have so far.
pub data Place : Type 0 where
  outside : Place
  behind_slot : (named : List (List ℕ)) → Place
  before_word : (named : List (List ℕ)) → Place
  behind_word : (named : List (List ℕ)) → Place

-- a token at this place stands outside brackets
abbrev pub IsOutside : Place → PlainToken → Type 0
IsOutside outside token = Unit {0}
IsOutside (behind_slot named) token = IsMark 91 token → ⊥
IsOutside (before_word named) token = ⊥
IsOutside (behind_word named) token = ⊥

-- a token names a portion's context behind `assumes`
abbrev pub AssumesHere : PlainPortion → PlainToken → Type 0
AssumesHere (judgment_of first name form assumes) token = assumes ≡ Some token
AssumesHere (theorem_of first joined kind name assumes inputs outputs targets) token = assumes ≡ Some token
AssumesHere _ token = ⊥

module _ (portions : List PlainPortion) where
  -- the names of the categories
  abbrev pub category_texts : List (List ℕ)
  category_texts = map (λ written. written.name.text) (categories portions)

  -- a production that is a word alone, not listed and no category: a variable of its category
  abbrev pub DeclaresVariable : List PlainToken → Type 0
  DeclaresVariable form = IsVariable category_texts (listed portions) form

  -- the variables that productions declare, in text order
  pub data AreVariables : List (List PlainToken) → List PlainToken → Type 0 where
    no_variables : AreVariables [] []
    a_word : {token : PlainToken} {forms : List (List PlainToken)} {tokens : List PlainToken} →
        DeclaresVariable (token ∷ []) → AreVariables forms tokens → AreVariables ((token ∷ []) ∷ forms) (token ∷ tokens)
    a_production : {form : List PlainToken} {forms : List (List PlainToken)} {tokens : List PlainToken} →
        (DeclaresVariable form → ⊥) → AreVariables forms tokens → AreVariables (form ∷ forms) tokens

  -- what a category with this name and these forms declares, in text order
  abbrev pub CategoryDeclares : PlainToken → List (List PlainToken) → List Declared → Type 0
  CategoryDeclares name forms ds =
      (tokens : List PlainToken) × AreVariables forms tokens × (ds ≡ declared_as a_category name ∷ map (declared_as a_variable) tokens)

  -- what a portion declares, in text order
  abbrev pub DeclaresHere : PlainPortion → List Declared → Type 0
  DeclaresHere (terminals first tokens) ds = ds ≡ map (declared_as a_terminal) tokens
  DeclaresHere (category name mark forms) ds = CategoryDeclares name forms ds
  DeclaresHere _ ds = ds ≡ []

  -- what these portions declare, in text order
  abbrev pub DeclareAll : List PlainPortion → List Declared → Type 0
  DeclareAll [] ds = ds ≡ []
  DeclareAll (portion ∷ rest) ds =
      (here : List Declared) × (others : List Declared) × (ds ≡ here ++ others) × DeclaresHere portion here × DeclareAll rest others

  -- A word that is declared a second time: something declared before it has a common spelling with it, or its category has a variable before it.
  pub data IsDuplicate (token : PlainToken) : Type 0 where
    common_spelling : (all before after : List Declared) (sort : Sort) (earlier : Declared) (word : List ℕ) →
        DeclareAll portions all → all ≡ before ++ declared_as sort token ∷ after → Contains before earlier →
        IsSpelledAs earlier word → IsSpelledAs (declared_as sort token) word → IsDuplicate token
    second_variable : (written : WrittenCategory) (first : PlainToken) (before after : List PlainToken) →
        Contains (categories portions) written → AreVariables written.forms (first ∷ (before ++ token ∷ after)) → IsDuplicate token

  -- the word of the token is spelled as a category
  abbrev pub IsSlotWord : PlainToken → Type 0
  IsSlotWord token = (token.kind ≡ 0) × AnyByRecursion (λ name. IsSpelling name token.text) category_texts

  -- the word is spelled as the variable that the form declares
  abbrev pub SpellsVariable : List ℕ → List PlainToken → Type 0
  SpellsVariable word [] = ⊥
  SpellsVariable word (token ∷ rest) = DeclaresVariable (token ∷ rest) × IsSpelling token.text word

  -- the word of the token is spelled as some variable
  abbrev pub IsBinderWord : PlainToken → Type 0
  IsBinderWord token =
      (token.kind ≡ 0) × AnyByRecursion (λ written. AnyByRecursion (SpellsVariable token.text) written.forms) (categories portions)

  -- the token is a terminal, and no word of a category or variable
  abbrev pub StandsForItself : PlainToken → Type 0
  StandsForItself token = IsTerminal (listed portions) token × (IsSlotWord token → ⊥) × (IsBinderWord token → ⊥)

  -- the place behind a token that stands at a place
  pub data Follows : (place : Place) → PlainToken → (next : Place) → Type 0 where
    slot : {place : Place} {token : PlainToken} → IsOutside place token → IsSlotWord token → Follows place token (behind_slot [])
    item : {place : Place} {token : PlainToken} → IsOutside place token → (IsSlotWord token → ⊥) → Follows place token outside
    opens : {named : List (List ℕ)} {token : PlainToken} → IsMark 91 token → Follows (behind_slot named) token (before_word named)
    in_brackets : {named : List (List ℕ)} {token : PlainToken} → (IsMark 93 token → ⊥) → Follows (before_word named) token (behind_word (token.text ∷ named))
    separator : {named : List (List ℕ)} {token : PlainToken} → (IsMark 93 token → ⊥) → Follows (behind_word named) token (before_word named)
    closes : {named : List (List ℕ)} {token : PlainToken} → IsMark 93 token → Follows (before_word named) token (behind_slot named)
    closes_behind : {named : List (List ℕ)} {token : PlainToken} → IsMark 93 token → Follows (behind_word named) token (behind_slot named)

  -- the place behind these first tokens of a production
  pub data IsPlaceBehind : (front : List PlainToken) → Place → Type 0 where
    at_start : IsPlaceBehind [] outside
    behind_one_more : {front : List PlainToken} {place next : Place} {token : PlainToken} →
        IsPlaceBehind front place → Follows place token next → IsPlaceBehind (front ++ token ∷ []) next

  -- the token stands in the form at this place, with these before and behind it
  pub record StandsAt (form : List PlainToken) (place : Place) (token : PlainToken) : Type 0 where
    pub front : List PlainToken
    pub rest : List PlainToken
    pub split : form ≡ front ++ token ∷ rest
    pub is_place : IsPlaceBehind front place

  -- it stands outside brackets
  pub record StandsOutside (form : List PlainToken) (token : PlainToken) : Type 0 where
    pub place : Place
    pub stands : StandsAt form place token
    pub is_outside : IsOutside place token

  -- a word that is a binder of the form
  pub record IsBinderOf (form : List PlainToken) (word : List ℕ) : Type 0 where
    pub token : PlainToken
    pub stands : StandsOutside form token
    pub is_binder : IsBinderWord token
    pub same : token.text ≡ word

  -- one slot alone, with brackets or without
  abbrev pub IsOneSlot : List PlainToken → Type 0
  IsOneSlot [] = ⊥
  IsOneSlot (token ∷ rest) = IsSlotWord token × ((words : List (List ℕ)) × AreBrackets words rest [])

  -- outside brackets, neither a slot nor a binder nor a terminal
  pub record IsUnknown (form : List PlainToken) (token : PlainToken) : Type 0 where
    pub stands : StandsOutside form token
    pub no_slot : IsSlotWord token → ⊥
    pub no_binder : IsBinderWord token → ⊥
    pub no_terminal : IsTerminal (listed portions) token → ⊥

  -- In the brackets of a slot: no word where one is expected, a word that is no binder of the form or stands in the brackets a second time,
  -- no comma where one is expected; or the bracket that opens, where no bracket closes behind it.
  pub data IsWrongInBrackets (form : List PlainToken) (token : PlainToken) : Type 0 where
    no_word : (named : List (List ℕ)) → StandsAt form (before_word named) token → token.kind ≢ 0 → IsWrongInBrackets form token
    no_binder : (named : List (List ℕ)) → StandsAt form (before_word named) token → (IsBinderOf form token.text → ⊥) → IsWrongInBrackets form token
    again : (named : List (List ℕ)) → StandsAt form (before_word named) token → token.kind ≡ 0 → IsAmong named token.text → IsWrongInBrackets form token
    no_comma : (named : List (List ℕ)) → StandsAt form (behind_word named) token → (IsMark 44 token → ⊥) → (IsMark 93 token → ⊥) → IsWrongInBrackets form token
    not_closed : (named : List (List ℕ)) → (stands : StandsAt form (behind_slot named) token) → IsMark 91 token →
        AllByRecursion (λ t. IsMark 93 t → ⊥) stands.rest → IsWrongInBrackets form token

  -- a binder whose word is a binder before it
  pub record IsSecondBinder (form : List PlainToken) (token : PlainToken) : Type 0 where
    pub stands : StandsOutside form token
    pub is_binder : IsBinderWord token
    pub earlier : IsBinderOf stands.stands.front token.text

  -- terminals alone
  abbrev pub IsEmptyForm : List PlainToken → Type 0
  IsEmptyForm form = AllByRecursion StandsForItself form

  -- no token of the form stands in brackets
  abbrev pub HasNoBrackets : List PlainToken → Type 0
  HasNoBrackets form = (named : List (List ℕ)) (token : PlainToken) → StandsAt form (behind_slot named) token → IsMark 91 token → ⊥

  -- the word of the token is spelled as this category
  abbrev pub IsWordOf : WrittenCategory → PlainToken → Type 0
  IsWordOf written token = (token.kind ≡ 0) × IsSpelling written.name.text token.text

  -- a context with one entry more: the category itself, and exactly one binder, and no slot that binds
  abbrev pub IsEntryForm : WrittenCategory → List PlainToken → Type 0
  IsEntryForm written [] = ⊥
  IsEntryForm written (token ∷ rest) = IsWordOf written token × HasNoBrackets (token ∷ rest) × ExactlyOne IsBinderWord (token ∷ rest)

  -- the category is a slot only at the front of its own productions, which are those of the categories with its name
  abbrev pub IsOnlyInFront : WrittenCategory → Type 0
  IsOnlyInFront written =
      (other : WrittenCategory) (form : List PlainToken) (token : PlainToken) → Contains (categories portions) other → Contains other.forms form →
      (stands : StandsOutside form token) → IsWordOf written token → (other.name.text ≡ written.name.text) × (stands.stands.front ≡ [])

  -- the rule on context categories, in the syntax parts
  pub record IsContextCategory (written : WrittenCategory) : Type 0 where
    pub no_variable : AllByRecursion (λ form. DeclaresVariable form → ⊥) written.forms
    pub empty_form : ExactlyOne IsEmptyForm written.forms
    pub others : AllByRecursion (λ form. IsEmptyForm form ⊎ IsEntryForm written form) written.forms
    pub only_in_front : IsOnlyInFront written

  -- A code stands at a token with a detail.
  pub data IsFault (found : Code) (token : PlainToken) (detail : List ℕ) : Type 0 where
    duplicate : found ≡ code.Duplicate → detail ≡ token.text → IsDuplicate token → IsFault found token detail
    empty_production : (written : WrittenCategory) → found ≡ code.EmptyProduction → detail ≡ token.text →
        Contains (categories portions) written → token ≡ written.name → Contains written.forms [] → IsFault found token detail
    single_category : (written : WrittenCategory) (rest : List PlainToken) → found ≡ code.SingleCategory → detail ≡ written.name.text →
        Contains (categories portions) written → Contains written.forms (token ∷ rest) → IsOneSlot (token ∷ rest) → IsFault found token detail
    unknown_word : (written : WrittenCategory) (form : List PlainToken) → found ≡ code.UnknownWord → detail ≡ token.text →
        Contains (categories portions) written → Contains written.forms form → IsUnknown form token → IsFault found token detail
    unknown_context : (portion : PlainPortion) → found ≡ code.UnknownWord → detail ≡ token.text →
        Contains portions portion → AssumesHere portion token → (IsAmong category_texts token.text → ⊥) → IsFault found token detail
    bad_binder : (written : WrittenCategory) (form : List PlainToken) → found ≡ code.BadBinder → detail ≡ token.text →
        Contains (categories portions) written → Contains written.forms form → IsWrongInBrackets form token → IsFault found token detail
    binder_twice : (written : WrittenCategory) (form : List PlainToken) → found ≡ code.BinderTwice → detail ≡ token.text →
        Contains (categories portions) written → Contains written.forms form → IsSecondBinder form token → IsFault found token detail
    bad_context : (written : WrittenCategory) → found ≡ code.BadContext → detail ≡ written.name.text →
        Contains (categories portions) written → token ≡ written.mark → IsAmong (assumed portions) written.name.text → (IsContextCategory written → ⊥) →
        IsFault found token detail

  -- the grammar has no fault
  abbrev pub HasNoFault : Type 0
  HasNoFault = IsFaultless IsFault

-- the first fault of the grammar, with its line
abbrev pub IsFirstFault : List PlainPortion → (line : ℕ) → Code → (detail : List ℕ) → Type 0
IsFirstFault portions line found detail = IsFirstOf at_token (IsFault portions) line found detail
