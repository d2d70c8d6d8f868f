-- What each portion of an outline has: a token for each of its fields. To be held against 'Outline' of docs/notation.md.
use Rattle.std.specs.Prelude.{Bool, true, false, ◌||◌, IsTrue, List, [], ◌∷◌, take}
use Rattle.std.specs.List.{AllByRecursion}
use Rattle.outline_reader.specs.declared.symbols.Role.{Role}
use Rattle.outline_reader.specs.declared.symbols.Role.TheVariants as role
use Rattle.outline_reader.specs.Fields.{is_arg}
use Rattle.outline_reader.specs.Portions.{names_category, portion_length, is_call}

-- what a portion must have behind one of its tokens
pub data Need : Type 0 where
  a_name : Need
  a_second_name : Need
  a_kind_word : Need
  a_form : Need
  an_output : Need
  an_argument : Need
  a_conclusion : Need
  -- what justifies a step
  a_justification : Need
  -- the last word of an `end` line
  an_ending : Need
  -- the `::=` of a syntax part's first category, and of a later one
  a_definition : Need
  a_new_definition : Need

abbrev pub is_name : Role → Bool
is_name role.Name = true
is_name _ = false

abbrev pub is_second_name : Role → Bool
is_second_name role.SecondName = true
is_second_name _ = false

abbrev pub is_kind_word : Role → Bool
is_kind_word role.KindWord = true
is_kind_word _ = false

abbrev pub is_form : Role → Bool
is_form role.Form = true
is_form _ = false

abbrev pub is_output : Role → Bool
is_output role.Output = true
is_output _ = false

abbrev pub is_conclusion : Role → Bool
is_conclusion role.HeadConclusion = true
is_conclusion _ = false

abbrev pub is_justification : Role → Bool
is_justification role.NameAlone = true
is_justification other = is_call other

abbrev pub is_ending : Role → Bool
is_ending role.EndTheorem = true
is_ending role.EndLemma = true
is_ending role.EndCase = true
is_ending role.EndAnalysis = true
is_ending role.EndInduction = true
is_ending _ = false

abbrev pub is_sign : Role → Bool
is_sign role.Sign = true
is_sign _ = false

abbrev pub is_new_definition : Role → Bool
is_new_definition role.NewCategory = true
is_new_definition _ = false

-- a token with the role is what is needed
abbrev pub meets : Need → Role → Bool
meets a_name = is_name
meets a_second_name = is_second_name
meets a_kind_word = is_kind_word
meets a_form = is_form
meets an_output = is_output
meets an_argument = is_arg
meets a_conclusion = is_conclusion
meets a_justification = is_justification
meets an_ending = is_ending
meets a_definition = is_sign
meets a_new_definition = is_new_definition

-- one of the tokens is what is needed
abbrev pub met_in : Need → List Role → Bool
met_in need [] = false
met_in need (role ∷ roles) = meets need role || met_in need roles

-- what a portion has behind a token with this role
abbrev pub needs : Role → List Need
needs role.CategoryName = a_definition ∷ []
needs role.JudgmentWord = a_name ∷ a_form ∷ []
needs role.RulePremise = a_name ∷ a_form ∷ []
needs role.RuleBar = a_name ∷ a_form ∷ []
needs role.AndWord = a_kind_word ∷ a_name ∷ an_output ∷ []
needs role.TheoremWord = a_name ∷ an_output ∷ []
needs role.StepName = a_form ∷ a_justification ∷ []
needs role.ProofWord = a_justification ∷ []
needs role.InversionWord = an_argument ∷ a_name ∷ a_conclusion ∷ a_form ∷ []
needs role.CaseWord = a_form ∷ []
needs role.RuleCase = a_name ∷ a_conclusion ∷ []
needs role.EndWord = an_ending ∷ []
needs role.HeadName = a_form ∷ []
needs role.HeadConclusion = a_form ∷ []
needs role.RuleCall = a_name ∷ []
needs role.TheoremCall = a_name ∷ []
needs role.Cases = an_argument ∷ []
needs role.Induction = an_argument ∷ []
needs role.Contradiction = an_argument ∷ []
needs role.Weakening = a_name ∷ []
needs role.Exchange = a_name ∷ []
needs role.Substitution = a_name ∷ a_second_name ∷ []
needs _ = []

-- the roles up to the next portion
abbrev pub within_portion : List Role → List Role
within_portion roles = take (portion_length roles) roles

-- each token has behind it, in its portion, what it needs; where a later category is defined, the token before the `::=` begins its portion
abbrev pub AreFilled : List Role → Type 0
AreFilled [] = Unit {0}
AreFilled (first ∷ roles) =
    AllByRecursion (λ need. IsTrue (met_in need (within_portion roles))) (needs first)
    × (IsTrue (names_category roles) → IsTrue (met_in a_new_definition (within_portion roles)))
    × AreFilled roles
