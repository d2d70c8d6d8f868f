-- The first fault of a phase: where faults stand, which one is told first, and the faults of families of them. To be held against 'Faults'
-- of docs/notation.md. A family says which code stands at which point with which detail. A point is a token, or whatever tells a place.
use Rattle.std.specs.Prelude.{◌≡◌, ◌⊎◌, ◌<◌, ◌≤◌, ℕ, List, MatchOption}
use Rattle.std.specs.declared.option.Option.{Option}
use Rattle.std.specs.declared.option.Option.TheVariants.{Some, None}
use Rattle.binding_terms.specs.Numbered.{AnyByRecursion}
use Rattle.sy_base.specs.Rank.{rank}
use Rattle.sy_base.specs.Tokens.{PlainToken}
use Rattle.sy_base.specs.declared.fault.Code.{Code}
use Rattle.sy_base.specs.declared.fault.Fault.{Fault}
use Rattle.sy_base.specs.declared.first_fault.Found.{Found}
use Rattle.sy_base.specs.declared.first_fault.Place.{Place}

-- which code stands at which point with which detail
abbrev pub Faults : Type 0 → Type 1
Faults P = Code → P → List ℕ → Type 0

-- a place at which a fault counts as on its own line
abbrev pub own_place : (line from : ℕ) → Place
own_place line from = record { counts_on = line; line = line; from = from }

-- the place of a token, on whose line a fault counts and is told
abbrev pub at_token : PlainToken → Place
at_token token = own_place token.line token.from

-- The place of a token in a step: there a fault counts as at the step's first token, and is told with its own line.
abbrev pub in_step : (first token : PlainToken) → Place
in_step first token = record { counts_on = first.line; line = token.line; from = token.from }

-- A fault is told before another, or stands where that one does: by line, then by the order of the codes, then by place.
abbrev pub IsToldFirst : Code → Place → (other : Code) → (at : Place) → Type 0
IsToldFirst code place other at =
    (place.counts_on < at.counts_on)
    ⊎ ((place.counts_on ≡ at.counts_on) × ((rank code < rank other) ⊎ ((rank code ≡ rank other) × (place.from ≤ at.from))))

-- what a fault says
abbrev pub Says : Fault → (line : ℕ) → Code → (detail : List ℕ) → Type 0
Says fault line code detail = (fault.line ≡ line) × (fault.code ≡ code) × (fault.detail ≡ detail)

-- no fault of the family stands: a phase with these faults is right
abbrev pub IsFaultless : {P : Type 0} → Faults P → Type 0
IsFaultless {P} faults = (code : Code) (point : P) (detail : List ℕ) → faults code point detail → ⊥

-- the fault of the family that is told before each other one
pub record IsFirst {P : Type 0} (place_of : P → Place) (faults : Faults P) (code : Code) (point : P) (detail : List ℕ) : Type 0 where
  pub stands : faults code point detail
  pub first : (other : Code) (at : P) (words : List ℕ) → faults other at words → IsToldFirst code (place_of point) other (place_of at)

-- what is told of it: the line, the code and the detail
pub record IsFirstFault {P : Type 0} (place_of : P → Place) (faults : Faults P) (line : ℕ) (code : Code) (detail : List ℕ) : Type 0 where
  pub point : P
  pub line_is : line ≡ (place_of point).line
  pub is_first : IsFirst place_of faults code point detail

-- the faults of two families
abbrev pub Either : {P : Type 0} → (one other : Faults P) → Faults P
Either one other code point detail = one code point detail ⊎ other code point detail

-- the faults of some members of a list, as of the forms of a phase
pub record OfSome {A P : Type 0} (faults : A → Faults P) (members : List A) (code : Code) (point : P) (detail : List ℕ) : Type 0 where
  pub some : AnyByRecursion (λ member. faults member code point detail) members

-- the faults of two phases: those of the second count only where the first has none
abbrev pub Then : {P : Type 0} → (one other : Faults P) → Faults P
Then one other code point detail = one code point detail ⊎ (IsFaultless one × other code point detail)

-- the faults of a family by their places alone
pub record ByPlace {P : Type 0} (place_of : P → Place) (faults : Faults P) (code : Code) (place : Place) (detail : List ℕ) : Type 0 where
  pub point : P
  pub there : place ≡ place_of point
  pub stands : faults code point detail

-- what is told of a fault is told by its code and its place in the text
abbrev pub AreTold : {P : Type 0} → (P → Place) → Faults P → Type 0
AreTold {P} place_of faults =
    (code : Code) (point other : P) (detail words : List ℕ) → faults code point detail → faults code other words →
    (place_of point).counts_on ≡ (place_of other).counts_on → (place_of point).from ≡ (place_of other).from →
    ((place_of point).line ≡ (place_of other).line) × (detail ≡ words)

-- ---- faults that were found

-- the first is told before the second
pub record IsBefore {D : Type 0} (found other : Found D) : Type 0 where
  pub told : IsToldFirst found.code found.place other.code other.place

-- the earlier of two, where there are two
abbrev pub IsOneOf : {D : Type 0} → (found other result : Found D) → Type 0
IsOneOf found other result = ((result ≡ found) × IsBefore found other) ⊎ ((result ≡ other) × IsBefore other found)

abbrev pub IsEarlierOf : {D : Type 0} → (found other result : Option (Found D)) → Type 0
IsEarlierOf None other result = result ≡ other
IsEarlierOf (Some found) None result = result ≡ Some found
IsEarlierOf (Some found) (Some other) result = MatchOption result ⊥ (IsOneOf found other)

-- the first fault of the family was found, with the words of its detail
pub record IsFoundFirst {D P : Type 0} (place_of : P → Place) (words_of : D → List ℕ) (faults : Faults P) (found : Found D) : Type 0 where
  pub point : P
  pub there : found.place ≡ place_of point
  pub is_first : IsFirst place_of faults found.code point (words_of found.detail)

-- the first fault of the family, or none where it has none
pub record IsFirstFound {D P : Type 0} (place_of : P → Place) (words_of : D → List ℕ) (faults : Faults P) (found : Option (Found D)) : Type 0 where
  pub is : MatchOption found (IsFaultless faults) (IsFoundFirst place_of words_of faults)

-- a fault was found at the point, with this code and this detail
pub record IsFoundAt {D P : Type 0} (place_of : P → Place) (words_of : D → List ℕ) (code : Code) (point : P) (detail : List ℕ) (found : Found D) : Type 0 where
  pub code_is : found.code ≡ code
  pub there : found.place ≡ place_of point
  pub detail_is : words_of found.detail ≡ detail

-- the faults of one code at the points that are so, with these details
abbrev pub OfCode : {P : Type 0} → Code → (P → List ℕ) → (P → Type 0) → Faults P
OfCode is detail_at IsAt code point detail = (code ≡ is) × (detail ≡ detail_at point) × IsAt point
