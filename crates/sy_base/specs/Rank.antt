-- The order of the codes. To be held against 'Faults' of docs/notation.md.
use Rattle.std.specs.Prelude.{◌≡◌, ℕ, List, [], ◌∷◌, Some, slice_get}
use Rattle.sy_base.specs.declared.fault.Code.{Code}
use Rattle.sy_base.specs.declared.fault.Code.TheVariants.{NotUtf8, OpenComment, OpenQuote, Unexpected, MissingEnd, TooMany, NotBuilt, Duplicate, EmptyProduction, SingleCategory, UnknownWord, BadBinder, BinderTwice, BadContext, NameTaken, TooLong, NoReading, Ambiguous, UnknownName, BadConclusion, NotStrict, NeedsContext, TwoAssumptions, TargetCount, NoRule, NoTheorem, NoName, WrongCount, RootMismatch, ArgMismatch, ResultMismatch, NotInstance, BadStep, NoContext, NotLast, NoAssumptionRule, NotTheAssumption, Depends, NotSmaller, Outside, MissingCase, DuplicateCase, ImpossibleCase, NotMostGeneral, NotTheGoal, WrongInputs, TooBig}

-- all codes: of several for one line the one that stands first here counts
abbrev pub all_codes : List Code
all_codes =
    NotUtf8 ∷ OpenComment ∷ OpenQuote ∷ Unexpected ∷ MissingEnd ∷ TooMany ∷ NotBuilt ∷ Duplicate ∷ EmptyProduction ∷
    SingleCategory ∷ UnknownWord ∷ BadBinder ∷ BinderTwice ∷ BadContext ∷ NameTaken ∷ TooLong ∷ NoReading ∷
    Ambiguous ∷ UnknownName ∷ BadConclusion ∷ NotStrict ∷ NeedsContext ∷ TwoAssumptions ∷ TargetCount ∷ NoRule ∷
    NoTheorem ∷ NoName ∷ WrongCount ∷ RootMismatch ∷ ArgMismatch ∷ ResultMismatch ∷ NotInstance ∷ BadStep ∷
    NoContext ∷ NotLast ∷ NoAssumptionRule ∷ NotTheAssumption ∷ Depends ∷ NotSmaller ∷ Outside ∷ MissingCase ∷
    DuplicateCase ∷ ImpossibleCase ∷ NotMostGeneral ∷ NotTheGoal ∷ WrongInputs ∷ TooBig ∷ []

-- the place of a code among them, from 0
abbrev pub rank : Code → ℕ
rank NotUtf8 = 0
rank OpenComment = 1
rank OpenQuote = 2
rank Unexpected = 3
rank MissingEnd = 4
rank TooMany = 5
rank NotBuilt = 6
rank Duplicate = 7
rank EmptyProduction = 8
rank SingleCategory = 9
rank UnknownWord = 10
rank BadBinder = 11
rank BinderTwice = 12
rank BadContext = 13
rank NameTaken = 14
rank TooLong = 15
rank NoReading = 16
rank Ambiguous = 17
rank UnknownName = 18
rank BadConclusion = 19
rank NotStrict = 20
rank NeedsContext = 21
rank TwoAssumptions = 22
rank TargetCount = 23
rank NoRule = 24
rank NoTheorem = 25
rank NoName = 26
rank WrongCount = 27
rank RootMismatch = 28
rank ArgMismatch = 29
rank ResultMismatch = 30
rank NotInstance = 31
rank BadStep = 32
rank NoContext = 33
rank NotLast = 34
rank NoAssumptionRule = 35
rank NotTheAssumption = 36
rank Depends = 37
rank NotSmaller = 38
rank Outside = 39
rank MissingCase = 40
rank DuplicateCase = 41
rank ImpossibleCase = 42
rank NotMostGeneral = 43
rank NotTheGoal = 44
rank WrongInputs = 45
rank TooBig = 46

-- each code stands at its rank, and so no two have one rank
abbrev pub RanksArePlaces : Type 0
RanksArePlaces = (code : Code) → slice_get all_codes (rank code) ≡ Some code

abbrev pub RanksAreDifferent : Type 0
RanksAreDifferent = (one other : Code) → rank one ≡ rank other → one ≡ other
