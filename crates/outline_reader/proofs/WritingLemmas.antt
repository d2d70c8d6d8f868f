-- What the grammar writes, by the roles of the tokens alone.
use Rattle.std.proofs.Common.{◌≡◌, ◌≢◌, List, [], ◌∷◌, ◌++◌, map, refl, ◌∙◌, ap, subst}
use Rattle.outline_reader.specs.declared.fault.Part.{Part}
use Rattle.outline_reader.specs.declared.machine.Awaited.{Awaited}
use Rattle.outline_reader.specs.declared.machine.Seen.{Seen}
use Rattle.outline_reader.specs.declared.symbols.Place.{Place}
use Rattle.outline_reader.specs.declared.symbols.Class.{Class}
use Rattle.outline_reader.specs.declared.symbols.Role.{Role}
use Rattle.outline_reader.specs.declared.symbols.Phrase.{Phrase}
use Rattle.outline_reader.specs.declared.symbols.Times.{Times}
use Rattle.outline_reader.specs.declared.symbols.Times.TheVariants as times
use Rattle.outline_reader.specs.declared.symbols.Rest.{Rest}
use Rattle.outline_reader.specs.declared.symbols.Symbol.{Symbol}
use Rattle.outline_reader.specs.declared.symbols.Symbol.TheVariants.{One, Choice}
use Rattle.outline_reader.specs.declared.symbols.Item.{Item}
use Rattle.outline_reader.specs.declared.symbols.Item.TheVariants.{Here, In}
use Rattle.outline_reader.specs.Grammar.{Alternative, times_of, alternatives, items}
use Rattle.outline_reader.specs.Derives.{Mark, again, await, opened, IsOneOf, here, token, alternative, left_out, Derives}

-- ---- writing

abbrev pub symbol_of : Item → Symbol
symbol_of (Here symbol) = symbol
symbol_of (In part symbol) = symbol

abbrev pub once_more : Times → Phrase → List Symbol
once_more times.Any phrase = Choice phrase ∷ []
once_more _ phrase = []

-- what is to come where an alternative of the phrase has begun
abbrev pub then_come : Phrase → Rest → List Symbol
then_come phrase rest = map symbol_of (items rest) ++ once_more (times_of phrase) phrase

-- the symbols are written as tokens with these roles
pub data Writes : List Symbol → List Role → Type 0 where
  nothing : Writes [] []
  one_token : (place : Place) (class : Class) (role : Role) (rest : List Symbol) (roles : List Role) → Writes rest roles → Writes (One place class role ∷ rest) (role ∷ roles)
  begun : (phrase : Phrase) (rest : List Symbol) (chosen : Alternative) (roles : List Role) →
      IsOneOf chosen (alternatives phrase) → Writes (then_come phrase chosen.3 ++ rest) roles → Writes (Choice phrase ∷ rest) (chosen.2 ∷ roles)
  none : (phrase : Phrase) (rest : List Symbol) (roles : List Role) → times_of phrase ≢ times.Once → Writes rest roles → Writes (Choice phrase ∷ rest) roles

abbrev pub symbols : List Awaited → List Symbol
symbols awaited = map (λ next. next.symbol) awaited

abbrev pub marked_roles : List Mark → List Role
marked_roles marks = map (λ mark. mark.role) marks

symbols_await : (within : Part) (all : List Item) → symbols (map (await within) all) ≡ map symbol_of all
symbols_await within [] = refl
symbols_await within (Here symbol ∷ all) = ap (λ (rest : List Symbol). symbol ∷ rest) (symbols_await within all)
symbols_await within (In part symbol ∷ all) = ap (λ (rest : List Symbol). symbol ∷ rest) (symbols_await within all)

symbols_again : (often : Times) (within : Part) (phrase : Phrase) → symbols (again often (record { within = within; symbol = Choice phrase })) ≡ once_more often phrase
symbols_again times.Once within phrase = refl
symbols_again times.AtMostOnce within phrase = refl
symbols_again times.Any within phrase = refl

symbols_append : (front back : List Awaited) → symbols (front ++ back) ≡ symbols front ++ symbols back
symbols_append [] back = refl
symbols_append (next ∷ front) back = ap (λ (rest : List Symbol). next.symbol ∷ rest) (symbols_append front back)

pub symbols_opened : (within : Part) (phrase : Phrase) (what : Rest) (rest : List Awaited) → symbols (opened within phrase what ++ rest) ≡ then_come phrase what ++ symbols rest
symbols_opened within phrase what rest =
    symbols_append (opened within phrase what) rest
    ∙ ap (λ (front : List Symbol). front ++ symbols rest)
    (symbols_append (map (await within) (items what)) (again (times_of phrase) (record { within = within; symbol = Choice phrase }))
    ∙ (λ i. symbols_await within (items what) i ++ symbols_again (times_of phrase) within phrase i))

-- what the grammar derives, it writes
pub writes : {awaited : List Awaited} {tokens : List Seen} {marks : List Mark} → Derives awaited tokens marks → Writes (symbols awaited) (marked_roles marks)
writes here = nothing
writes (token within place class role rest one more marks fit d) = one_token place class role (symbols rest) (marked_roles marks) (writes d)
writes (alternative within phrase rest place class role what one more marks is_one fit d) =
    begun phrase (symbols rest) (place, class, role, what) (marked_roles marks) is_one
    (subst (λ (all : List Symbol). Writes all (marked_roles marks)) (symbols_opened within phrase what rest) (writes d))
writes (left_out within phrase rest more marks optional d) = none phrase (symbols rest) (marked_roles marks) optional (writes d)
