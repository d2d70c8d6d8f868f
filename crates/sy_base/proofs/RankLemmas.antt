-- The ranks of the codes are their places in the table.
use Rattle.std.proofs.Common.{◌≡◌, ℕ, Some, slice_get, refl, sym, ap, ◌∙◌}
use Rattle.sy_base.specs.Rank.{all_codes, rank, RanksArePlaces, RanksAreDifferent}
use Rattle.sy_base.specs.declared.fault.Code.{Code}
use Rattle.sy_base.specs.declared.fault.Code.TheVariants.{NotUtf8, OpenComment, OpenQuote, Unexpected, MissingEnd, TooMany, NotBuilt, Duplicate, EmptyProduction, SingleCategory, UnknownWord, BadBinder, BinderTwice, BadContext, NameTaken, TooLong, NoReading, Ambiguous, UnknownName, BadConclusion, NotStrict, NeedsContext, TwoAssumptions, TargetCount, NoRule, NoTheorem, NoName, WrongCount, RootMismatch, ArgMismatch, ResultMismatch, NotInstance, BadStep, NoContext, NotLast, NoAssumptionRule, NotTheAssumption, Depends, NotSmaller, Outside, MissingCase, DuplicateCase, ImpossibleCase, NotMostGeneral, NotTheGoal, WrongInputs, TooBig}

pub ranks_are_places : RanksArePlaces
ranks_are_places NotUtf8 = refl
ranks_are_places OpenComment = refl
ranks_are_places OpenQuote = refl
ranks_are_places Unexpected = refl
ranks_are_places MissingEnd = refl
ranks_are_places TooMany = refl
ranks_are_places NotBuilt = refl
ranks_are_places Duplicate = refl
ranks_are_places EmptyProduction = refl
ranks_are_places SingleCategory = refl
ranks_are_places UnknownWord = refl
ranks_are_places BadBinder = refl
ranks_are_places BinderTwice = refl
ranks_are_places BadContext = refl
ranks_are_places NameTaken = refl
ranks_are_places TooLong = refl
ranks_are_places NoReading = refl
ranks_are_places Ambiguous = refl
ranks_are_places UnknownName = refl
ranks_are_places BadConclusion = refl
ranks_are_places NotStrict = refl
ranks_are_places NeedsContext = refl
ranks_are_places TwoAssumptions = refl
ranks_are_places TargetCount = refl
ranks_are_places NoRule = refl
ranks_are_places NoTheorem = refl
ranks_are_places NoName = refl
ranks_are_places WrongCount = refl
ranks_are_places RootMismatch = refl
ranks_are_places ArgMismatch = refl
ranks_are_places ResultMismatch = refl
ranks_are_places NotInstance = refl
ranks_are_places BadStep = refl
ranks_are_places NoContext = refl
ranks_are_places NotLast = refl
ranks_are_places NoAssumptionRule = refl
ranks_are_places NotTheAssumption = refl
ranks_are_places Depends = refl
ranks_are_places NotSmaller = refl
ranks_are_places Outside = refl
ranks_are_places MissingCase = refl
ranks_are_places DuplicateCase = refl
ranks_are_places ImpossibleCase = refl
ranks_are_places NotMostGeneral = refl
ranks_are_places NotTheGoal = refl
ranks_are_places WrongInputs = refl
ranks_are_places TooBig = refl

pub ranks_are_different : RanksAreDifferent
ranks_are_different one other same =
    let both : Some one ≡ Some other = sym (ranks_are_places one) ∙ ap (slice_get all_codes) same ∙ ranks_are_places other in (cc)
