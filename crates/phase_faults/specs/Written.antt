-- What the judgments, rules and theorems of a file write, with the tokens at which their faults stand. To be held against 'Outline' of
-- docs/notation.md.
use Rattle.std.specs.Prelude.{◌≡◌, ℕ, suc, Bool, List, [], ◌∷◌, ◌++◌, map, flat_map, Option}
use Rattle.binding_terms.specs.Numbered.{AnyByRecursion}
use Rattle.sy_base.specs.Tokens.{PlainToken}
use Rattle.outline_reader.specs.Plain.{PlainPortion, judgment_of, rule_of, theorem_of, step_of, PlainInput, given_form, of_syntax, PlainArgument, name_alone, PlainJustification, by_induction, taken}
use Rattle.rule_schemes.specs.Reading.{Token}

-- a judgment as it is declared
pub record WrittenJudgment : Type 0 where
  pub first : PlainToken
  pub name : PlainToken
  pub form : List PlainToken
  pub assumes : Option PlainToken

-- A rule as it is written. It stands in the part of the last of the judgments before it; so many there are.
pub record WrittenRule : Type 0 where
  pub declared : ℕ
  pub premises : List (List PlainToken)
  pub name : PlainToken
  pub conclusion : List PlainToken

-- a theorem up to its steps, with the targets of its line `use` or of its first step
pub record WrittenTheorem : Type 0 where
  pub first : PlainToken
  pub joined : Bool
  pub name : PlainToken
  pub assumes : Option PlainToken
  pub inputs : List PlainInput
  pub outputs : List (List PlainToken)
  pub targets : List PlainArgument

abbrev pub judgment_in : PlainPortion → List WrittenJudgment
judgment_in (judgment_of first name form assumes) = record { first = first; name = name; form = form; assumes = assumes } ∷ []
judgment_in _ = []

-- the judgments that the portions declare, in text order
abbrev pub judgments : List PlainPortion → List WrittenJudgment
judgments portions = flat_map judgment_in portions

abbrev pub rule_in : (declared : ℕ) → PlainPortion → List WrittenRule
rule_in n (rule_of premises name conclusion) = record { declared = n; premises = premises; name = name; conclusion = conclusion } ∷ []
rule_in n _ = []

-- how many judgments are declared up to a portion, this one included
abbrev pub declared_after : ℕ → PlainPortion → ℕ
declared_after n (judgment_of first name form assumes) = suc n
declared_after n _ = n

-- the rules of the portions, in text order, where so many judgments are declared before these
abbrev pub rules_behind : (declared : ℕ) → List PlainPortion → List WrittenRule
rules_behind n [] = []
rules_behind n (portion ∷ rest) = rule_in n portion ++ rules_behind (declared_after n portion) rest

abbrev pub rules : List PlainPortion → List WrittenRule
rules portions = rules_behind 0 portions

-- the forms of a rule in text order: the premises, then the conclusion
abbrev pub rule_forms : WrittenRule → List (List PlainToken)
rule_forms rule = rule.premises ++ rule.conclusion ∷ []

-- the target that a step by induction names
abbrev pub target_of : PlainJustification → List PlainArgument
target_of (by_induction subject) = subject ∷ []
target_of _ = []

abbrev pub target_in : PlainPortion → List PlainArgument
target_in (step_of first names forms why) = target_of why
target_in _ = []

-- the target of a proof whose first step is by induction
abbrev pub first_target : List PlainPortion → List PlainArgument
first_target [] = []
first_target (portion ∷ rest) = target_in portion

-- the theorem that a portion states, before these portions
abbrev pub theorem_in : PlainPortion → (rest : List PlainPortion) → List WrittenTheorem
theorem_in (theorem_of first joined kind name assumes inputs outputs targets) rest =
    record {
      first = first;
      joined = joined;
      name = name;
      assumes = assumes;
      inputs = inputs;
      outputs = outputs;
      targets = map name_alone targets ++ first_target rest;
    } ∷ []
theorem_in _ rest = []

-- the theorems that the portions state, in text order
abbrev pub theorems : List PlainPortion → List WrittenTheorem
theorems [] = []
theorems (portion ∷ rest) = theorem_in portion rest ++ theorems rest

-- the form of an input that is a derivation
abbrev pub given_in : PlainInput → List (List PlainToken)
given_in (given_form labelled) = labelled.form ∷ []
given_in (of_syntax name) = []

-- the word of an input that is a term, as a form of one token
abbrev pub term_in : PlainInput → List (List PlainToken)
term_in (given_form labelled) = []
term_in (of_syntax name) = (name ∷ []) ∷ []

-- the tokens of an input that may hold names
abbrev pub input_tokens : PlainInput → List PlainToken
input_tokens (given_form labelled) = labelled.form
input_tokens (of_syntax name) = name ∷ []

-- the forms of a statement in text order: those of its inputs that are derivations, then the conclusions
abbrev pub statement_forms : WrittenTheorem → List (List PlainToken)
statement_forms theorem = flat_map given_in theorem.inputs ++ theorem.outputs

-- The forms that tell the parameters of a statement's names. The words of its terms stand first, since these have no parameters, wherever
-- they are named first.
abbrev pub telling_forms : WrittenTheorem → List (List PlainToken)
telling_forms theorem = flat_map term_in theorem.inputs ++ (map input_tokens theorem.inputs ++ theorem.outputs)

-- a form as readings take it
abbrev pub as_read : List PlainToken → List Token
as_read form = map taken form

abbrev pub all_as_read : List (List PlainToken) → List (List Token)
all_as_read forms = map as_read forms

-- the token is the first of the form
abbrev pub IsFirstToken : List PlainToken → PlainToken → Type 0
IsFirstToken form token = (rest : List PlainToken) × (form ≡ token ∷ rest)

-- one of these names that has the text of one before it
pub record IsDeclaredAgain (names : List PlainToken) (token : PlainToken) : Type 0 where
  pub before : List PlainToken
  pub after : List PlainToken
  pub split : names ≡ before ++ token ∷ after
  pub again : AnyByRecursion (λ earlier. earlier.text ≡ token.text) before
