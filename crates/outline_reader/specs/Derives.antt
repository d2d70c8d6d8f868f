-- Which lists of tokens are a file: derivations of the grammar. To be held against the notation's words on forms and lines.
use Rattle.std.specs.Prelude.{◌≡◌, ◌≢◌, ℕ, ◌+◌, Bool, true, false, not, ◌&&◌, if◌then◌else◌, ◌==◌, List, [], ◌∷◌, ◌++◌, map, Option, Some, None}
use denote.Enum.Bare.{sameb}
use Rattle.outline_reader.specs.contracts.sort.Sort.{the_type}
use Rattle.proof_lexer.specs.declared.token.Token.{Token}
use Rattle.outline_reader.specs.declared.fault.Part.{Part}
use Rattle.outline_reader.specs.declared.fault.Part.TheVariants.{Terminals}
use Rattle.outline_reader.specs.declared.sort.Sort.{Sort}
use Rattle.outline_reader.specs.declared.sort.Sort.TheVariants as s
use Rattle.outline_reader.specs.declared.machine.Seen.{Seen}
use Rattle.outline_reader.specs.declared.machine.Awaited.{Awaited}
use Rattle.outline_reader.specs.declared.symbols.Place.{Place}
use Rattle.outline_reader.specs.declared.symbols.Place.TheVariants as place
use Rattle.outline_reader.specs.declared.symbols.Class.{Class}
use Rattle.outline_reader.specs.declared.symbols.Class.TheVariants as class
use Rattle.outline_reader.specs.declared.symbols.Role.{Role}
use Rattle.outline_reader.specs.declared.symbols.Phrase.{Phrase}
use Rattle.outline_reader.specs.declared.symbols.Phrase.TheVariants as p
use Rattle.outline_reader.specs.declared.symbols.Times.{Times}
use Rattle.outline_reader.specs.declared.symbols.Times.TheVariants as times
use Rattle.outline_reader.specs.declared.symbols.Rest.{Rest}
use Rattle.outline_reader.specs.declared.symbols.Symbol.{Symbol}
use Rattle.outline_reader.specs.declared.symbols.Symbol.TheVariants.{One, Choice}
use Rattle.outline_reader.specs.declared.symbols.Item.{Item}
use Rattle.outline_reader.specs.declared.symbols.Item.TheVariants.{Here, In}
use Rattle.outline_reader.specs.Sorts.{sort_of}
use Rattle.outline_reader.specs.Grammar.{Alternative, times_of, alternatives, items}

-- ---- tokens

-- the sorts of the tokens of a form: all but those of the reserved words
abbrev pub is_formed : Sort → Bool
is_formed s.Name = true
is_formed s.Colon = true
is_formed s.Define = true
is_formed s.Or = true
is_formed s.Dot = true
is_formed s.Comma = true
is_formed s.Open = true
is_formed s.Close = true
is_formed s.Mark = true
is_formed s.Bar = true
is_formed s.Other = true
is_formed _ = false

-- the sorts of what a list of terminals may have
abbrev pub is_listed : Sort → Bool
is_listed s.Name = true
is_listed s.Colon = true
is_listed s.Define = true
is_listed s.Or = true
is_listed s.Other = true
is_listed _ = false

abbrev pub same_sort : Sort → Sort → Bool
same_sort a b = sameb the_type a b

-- a token of a form, of another sort than this one
abbrev pub is_other : Sort → Sort → Bool
is_other but sort = not (same_sort sort but)

-- the class has tokens of the sort
abbrev pub has : Class → Sort → Bool
has (class.Is one) sort = same_sort sort one
has class.Listed sort = is_listed sort
has class.Formed sort = is_formed sort
has class.ButBar sort = is_formed sort && is_other s.Bar sort
has class.ButDot sort = is_formed sort && is_other s.Dot sort
has class.ButParenthesis sort = is_formed sort && is_other s.Open sort && is_other s.Close sort
has class.ButOr sort = is_formed sort && is_other s.Or sort
has class.ButOrDefine sort = is_formed sort && is_other s.Or sort && is_other s.Define sort
has class.ButOrName sort = is_formed sort && is_other s.Or sort && is_other s.Name sort

abbrev pub stands : Place → Bool → Bool
stands place.First begins = begins
stands place.Next begins = not begins
stands place.Anywhere begins = true

-- the token may stand at the place and is of the class
abbrev pub fits : Place → Class → Seen → Bool
fits place class seen = stands place seen.begins && has class seen.sort

-- a token begins its line where the token before it, if any, stands on another line
abbrev pub begins_line : Option ℕ → ℕ → Bool
begins_line None line = true
begins_line (Some before) line = not (line == before)

-- what the grammar sees of tokens, after a token on this line
abbrev pub seen_after : Option ℕ → List Token → List Seen
seen_after before [] = []
seen_after before (token ∷ tokens) =
    record { sort = sort_of token; begins = begins_line before token.line } ∷ seen_after (Some token.line) tokens

abbrev pub seen : List Token → List Seen
seen tokens = seen_after None tokens

-- ---- derivations

-- what a token is, and how many blocks and inversions are open behind it
pub record Mark : Type 0 where
  pub role : Role
  pub level : ℕ

abbrev pub is_level : Symbol → Bool
is_level (Choice p.CaseList) = true
is_level (Choice p.Inverted) = true
is_level _ = false

-- how many blocks and inversions are open while these symbols are to come
abbrev pub level : List Awaited → ℕ
level [] = 0
level (next ∷ awaited) = if is_level next.symbol then level awaited + 1 else level awaited

-- a symbol stands in the part that is open, or in the one that begins with it
abbrev pub await : Part → Item → Awaited
await within (Here symbol) = record { within = within; symbol = symbol }
await within (In part symbol) = record { within = part; symbol = symbol }

abbrev pub again : Times → Awaited → List Awaited
again times.Any next = next ∷ []
again _ next = []

-- what is to come where an alternative of the phrase has begun
abbrev pub opened : Part → Phrase → Rest → List Awaited
opened within phrase rest = map (await within) (items rest) ++ again (times_of phrase) (record { within = within; symbol = Choice phrase })

-- the list has the alternative
pub data IsOneOf (one : Alternative) : List Alternative → Type 0 where
  first : (rest : List Alternative) → IsOneOf one (one ∷ rest)
  later : (other : Alternative) (rest : List Alternative) → IsOneOf one rest → IsOneOf one (other ∷ rest)

-- The symbols are written as these tokens, which are marked so, up to those that are left to come.
pub data Reaches (left : List Awaited) : List Awaited → List Seen → List Mark → Type 0 where
  -- nothing was written
  here : Reaches left left [] []
  -- one token stands for a symbol
  token : (within : Part) (place : Place) (class : Class) (role : Role) (rest : List Awaited) (one : Seen) (more : List Seen) (marks : List Mark) →
      fits place class one ≡ true → Reaches left rest more marks →
      Reaches left (record { within = within; symbol = One place class role } ∷ rest) (one ∷ more) (record { role = role; level = level rest } ∷ marks)
  -- an alternative of a phrase begins
  alternative : (within : Part) (phrase : Phrase) (rest : List Awaited) (place : Place) (class : Class) (role : Role) (what : Rest) (one : Seen) (more : List Seen) (marks : List Mark) →
      IsOneOf (place, class, role, what) (alternatives phrase) → fits place class one ≡ true → Reaches left (opened within phrase what ++ rest) more marks →
      Reaches left (record { within = within; symbol = Choice phrase } ∷ rest) (one ∷ more) (record { role = role; level = level (opened within phrase what ++ rest) } ∷ marks)
  -- no alternative of a phrase comes, or no further one
  left_out : (within : Part) (phrase : Phrase) (rest : List Awaited) (more : List Seen) (marks : List Mark) →
      times_of phrase ≢ times.Once → Reaches left rest more marks → Reaches left (record { within = within; symbol = Choice phrase } ∷ rest) more marks

-- the symbols are written as these tokens, which are marked so, and nothing is left to come
abbrev pub Derives : List Awaited → List Seen → List Mark → Type 0
Derives awaited tokens marks = Reaches [] awaited tokens marks

-- a file: parts, and after the first theorem others. The part of these two is never told, since nothing need come for them.
abbrev pub whole : List Awaited
whole = record { within = Terminals; symbol = Choice p.Parts } ∷ record { within = Terminals; symbol = Choice p.FirstTheorem } ∷ []
