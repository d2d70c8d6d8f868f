-- What reading takes, the grammar derives.
use Rattle.std.proofs.Common.{◌≡◌, ◌≢◌, Bool, true, false, cond, not, List, [], ◌∷◌, ◌++◌, Option, Some, None, refl, sym, subst}
use Rattle.std.proofs.lemmas.Option.{cond_some, none-some}
use Rattle.outline_reader.specs.declared.fault.Part.{Part}
use Rattle.outline_reader.specs.declared.machine.Seen.{Seen}
use Rattle.outline_reader.specs.declared.machine.Awaited.{Awaited}
use Rattle.outline_reader.specs.declared.symbols.Place.{Place}
use Rattle.outline_reader.specs.declared.symbols.Class.{Class}
use Rattle.outline_reader.specs.declared.symbols.Role.{Role}
use Rattle.outline_reader.specs.declared.symbols.Phrase.{Phrase}
use Rattle.outline_reader.specs.declared.symbols.Times.{Times}
use Rattle.outline_reader.specs.declared.symbols.Times.TheVariants as times
use Rattle.outline_reader.specs.declared.symbols.Rest.{Rest}
use Rattle.outline_reader.specs.declared.symbols.Symbol.{Symbol}
use Rattle.outline_reader.specs.declared.symbols.Symbol.TheVariants.{One, Choice}
use Rattle.outline_reader.specs.Grammar.{Alternative, times_of, alternatives}
use Rattle.outline_reader.specs.Derives.{fits, opened, level, Mark, IsOneOf, first, later, Reaches, Derives, here, token, alternative, left_out}
use Rattle.outline_reader.specs.Machine.{chosen, is_once, take_choice, take_symbol, take, may_be_left_out, missing}

abbrev pub marked : Role → List Awaited → Mark
marked role next = record { role = role; level = level next }

cond_none_some : {A : Type 0} (b : Bool) (x : A) (y : Option A) → cond b None y ≡ Some x → (b ≡ false) × (y ≡ Some x)
cond_none_some true x y e = absurd (none-some x e)
cond_none_some false x y e = (refl, e)

some_one : {A : Type 0} (x y : A) → Some x ≡ Some y → x ≡ y
some_one x y e = cc

pub not_once : (often : Times) → is_once often ≡ false → often ≢ times.Once
not_once times.Once e = λ _. cc
not_once times.AtMostOnce e = λ f. cc
not_once times.Any e = λ f. cc

-- what is chosen is one of the alternatives, and the token begins it
pub chosen_is : (others : List Alternative) (one : Seen) (found : Role × Rest) → chosen others one ≡ Some found →
    (place : Place) × (class : Class) × IsOneOf (place, class, found.0, found.1) others × (fits place class one ≡ true)
chosen_is [] one found e = absurd (none-some found e)
chosen_is (x ∷ others) one found e = split (λ e. chosen_is others one found e) (fits x.0 x.1 one) refl e
  where
    split : (chosen others one ≡ Some found → (place : Place) × (class : Class) × IsOneOf (place, class, found.0, found.1) others × (fits place class one ≡ true)) → (b : Bool) → fits x.0 x.1 one ≡ b → cond b (Some (x.2, x.3)) (chosen others one) ≡ Some found →
        (place : Place) × (class : Class) × IsOneOf (place, class, found.0, found.1) (x ∷ others) × (fits place class one ≡ true)
    split below true fit e = let same : (x.2, x.3) ≡ found = some_one _ _ e in
        (x.0, x.1, subst (λ (f : Role × Rest). IsOneOf (x.0, x.1, f.0, f.1) (x ∷ others)) same (first others), fit)
    split below false fit e = let rest = below e in (rest.0, rest.1, later x others rest.2, rest.3)

-- one token more in front
choice_step : {left : List Awaited} (within : Part) (phrase : Phrase) (rest : List Awaited) (one : Seen) (more : List Seen) (marks : List Mark) (taken : Role × List Awaited) →
    ((taken : Role × List Awaited) → take rest one ≡ Some taken → Reaches left taken.1 more marks → Reaches left rest (one ∷ more) (marked taken.0 taken.1 ∷ marks)) →
    (found : Option (Role × Rest)) → chosen (alternatives phrase) one ≡ found → take_choice found within phrase rest (take rest one) ≡ Some taken →
    Reaches left taken.1 more marks → Reaches left (record { within = within; symbol = Choice phrase } ∷ rest) (one ∷ more) (marked taken.0 taken.1 ∷ marks)
choice_step {left = left} within phrase rest one more marks taken below (Some found) is e =
    let is_one = chosen_is (alternatives phrase) one found is in
    let same : (found.0, opened within phrase found.1 ++ rest) ≡ taken = some_one _ _ e in
    subst (λ (t : Role × List Awaited). Reaches left t.1 more marks → Reaches left (record { within = within; symbol = Choice phrase } ∷ rest) (one ∷ more) (marked t.0 t.1 ∷ marks)) same
    (λ d. alternative within phrase rest is_one.0 is_one.1 found.0 found.1 one more marks is_one.2 is_one.3 d)
choice_step {left = left} within phrase rest one more marks taken below None is e =
    let split = cond_none_some (is_once (times_of phrase)) taken (take rest one) e in
    λ d. left_out within phrase rest (one ∷ more) (marked taken.0 taken.1 ∷ marks) (not_once (times_of phrase) split.0) (below taken split.1 d)

symbol_step : {left : List Awaited} (within : Part) (symbol : Symbol) (rest : List Awaited) (one : Seen) (more : List Seen) (marks : List Mark) (taken : Role × List Awaited) →
    ((taken : Role × List Awaited) → take rest one ≡ Some taken → Reaches left taken.1 more marks → Reaches left rest (one ∷ more) (marked taken.0 taken.1 ∷ marks)) →
    take_symbol symbol within rest one (take rest one) ≡ Some taken →
    Reaches left taken.1 more marks → Reaches left (record { within = within; symbol = symbol } ∷ rest) (one ∷ more) (marked taken.0 taken.1 ∷ marks)
symbol_step {left = left} within (One place class role) rest one more marks taken below e =
    let split = cond_some (fits place class one) (role, rest) taken e in
    subst (λ (t : Role × List Awaited). Reaches left t.1 more marks → Reaches left (record { within = within; symbol = One place class role } ∷ rest) (one ∷ more) (marked t.0 t.1 ∷ marks)) split.1
    (λ d. token within place class role rest one more marks split.0 d)
symbol_step {left = left} within (Choice phrase) rest one more marks taken below e = choice_step within phrase rest one more marks taken below (chosen (alternatives phrase) one) refl e

pub take_reaches : {left : List Awaited} (awaited : List Awaited) (one : Seen) (more : List Seen) (marks : List Mark) (taken : Role × List Awaited) →
    take awaited one ≡ Some taken → Reaches left taken.1 more marks → Reaches left awaited (one ∷ more) (marked taken.0 taken.1 ∷ marks)
take_reaches [] one more marks taken e = absurd (none-some taken e)
take_reaches (x ∷ rest) one more marks taken e =
    symbol_step x.within x.symbol rest one more marks taken (λ taken e. take_reaches rest one more marks taken e) e

-- where nothing need come, the grammar derives nothing
pub missing_derives : (awaited : List Awaited) → missing awaited ≡ None → Derives awaited [] []
missing_derives [] e = here
missing_derives (x ∷ rest) e = by_symbol (λ e. missing_derives rest e) x.within x.symbol e
  where
    by_times : (missing rest ≡ None → Derives rest [] []) → (within : Part) (phrase : Phrase) (b : Bool) → is_once (times_of phrase) ≡ b → cond (not b) (missing rest) (Some within) ≡ None → Derives (record { within = within; symbol = Choice phrase } ∷ rest) [] []
    by_times below within phrase true is e = absurd (none-some within (sym e))
    by_times below within phrase false is e = left_out within phrase rest [] [] (not_once (times_of phrase) is) (below e)

    by_symbol : (missing rest ≡ None → Derives rest [] []) → (within : Part) (symbol : Symbol) → cond (may_be_left_out symbol) (missing rest) (Some within) ≡ None → Derives (record { within = within; symbol = symbol } ∷ rest) [] []
    by_symbol below within (One place class role) e = absurd (none-some within (sym e))
    by_symbol below within (Choice phrase) e = by_times below within phrase (is_once (times_of phrase)) refl e
