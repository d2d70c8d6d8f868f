-- Reading tokens one after another, by the first token alone; Laws say that it is what the grammar derives.
use Rattle.std.specs.Prelude.{◌≡◌, Bool, true, false, not, if◌then◌else◌, List, [], ◌∷◌, ◌++◌, Option, Some, None}
use Rattle.outline_reader.specs.declared.fault.Part.{Part}
use Rattle.outline_reader.specs.declared.machine.Seen.{Seen}
use Rattle.outline_reader.specs.declared.machine.Awaited.{Awaited}
use Rattle.outline_reader.specs.declared.symbols.Role.{Role}
use Rattle.outline_reader.specs.declared.symbols.Phrase.{Phrase}
use Rattle.outline_reader.specs.declared.symbols.Times.{Times}
use Rattle.outline_reader.specs.declared.symbols.Times.TheVariants as times
use Rattle.outline_reader.specs.declared.symbols.Rest.{Rest}
use Rattle.outline_reader.specs.declared.symbols.Symbol.{Symbol}
use Rattle.outline_reader.specs.declared.symbols.Symbol.TheVariants.{One, Choice}
use Rattle.outline_reader.specs.Grammar.{Alternative, times_of, alternatives}
use Rattle.outline_reader.specs.Derives.{fits, opened}

-- the first alternative that the token begins
abbrev pub chosen : List Alternative → Seen → Option (Role × Rest)
chosen [] seen = None
chosen (one ∷ others) seen = if fits one.0 one.1 seen then Some (one.2, one.3) else chosen others seen

abbrev pub is_once : Times → Bool
is_once times.Once = true
is_once times.AtMostOnce = false
is_once times.Any = false

abbrev pub take_choice : Option (Role × Rest) → Part → Phrase → List Awaited → Option (Role × List Awaited) → Option (Role × List Awaited)
take_choice (Some found) within phrase rest later = Some (found.0, opened within phrase found.1 ++ rest)
take_choice None within phrase rest later = if is_once (times_of phrase) then None else later

abbrev pub take_symbol : Symbol → Part → List Awaited → Seen → Option (Role × List Awaited) → Option (Role × List Awaited)
take_symbol (One place class role) within rest seen later = if fits place class seen then Some (role, rest) else None
take_symbol (Choice phrase) within rest seen later = take_choice (chosen (alternatives phrase) seen) within phrase rest later

-- the role of the token, and what is to come behind it; nothing where none of what is to come begins so
abbrev pub take : List Awaited → Seen → Option (Role × List Awaited)
take [] seen = None
take (next ∷ rest) seen = take_symbol next.symbol next.within rest seen (take rest seen)

abbrev pub may_be_left_out : Symbol → Bool
may_be_left_out (One place class role) = false
may_be_left_out (Choice phrase) = not (is_once (times_of phrase))

-- the part of the first symbol that must still come
abbrev pub missing : List Awaited → Option Part
missing [] = None
missing (next ∷ rest) = if may_be_left_out next.symbol then missing rest else Some next.within

-- what one step of reading answers
abbrev pub Takes : List Awaited → Seen → List Awaited → Option Role → Type 0
Takes old seen new None = take old seen ≡ None
Takes old seen new (Some role) = take old seen ≡ Some (role, new)
