-- What the portions of a file declare: judgments, rules and theorems, in the order of the text. To be held against docs/notation.md, 'Outline'.
use Rattle.std.specs.Prelude.{ℕ, suc, ◌-◌, Bool, List, [], ◌∷◌, ◌++◌, map, Option, if◌then◌else◌}
use Rattle.sy_base.specs.Tokens.{PlainToken}
use Rattle.outline_reader.specs.Plain.{PlainPortion, judgment_of, rule_of, theorem_of, step_of, PlainInput, given_form, of_syntax, PlainArgument, name_alone, PlainJustification, by_induction, taken}
use Rattle.rule_schemes.specs.Reading.{Token}
use Rattle.judgments.specs.Written.{WrittenInput, for_derivation, for_term}

-- a form as it is read
abbrev pub as_read : List PlainToken → List Token
as_read form = map taken form

-- a judgment as it is declared
pub record JudgmentText : Type 0 where
  pub name : List ℕ
  pub form : List PlainToken
  pub assumes : Option PlainToken

-- a rule as it is written; its block is the number of judgments that are declared before it
pub record RuleText : Type 0 where
  pub block : ℕ
  pub name : List ℕ
  pub premises : List (List Token)
  pub conclusion : List Token

-- a theorem as it is stated, with the number of its group
pub record TheoremText : Type 0 where
  pub group : ℕ
  pub name : List ℕ
  pub assumes : Option PlainToken
  pub inputs : List WrittenInput
  pub outputs : List (List Token)
  pub targets : List PlainArgument

abbrev pub judgment_in : PlainPortion → List JudgmentText
judgment_in (judgment_of first name form assumes) = record { name = name.text; form = form; assumes = assumes } ∷ []
judgment_in _ = []

-- the judgments that the portions declare
abbrev pub judgments_in : List PlainPortion → List JudgmentText
judgments_in [] = []
judgments_in (p ∷ ps) = judgment_in p ++ judgments_in ps

abbrev pub rule_in : (block : ℕ) → PlainPortion → List RuleText
rule_in n (rule_of premises name conclusion) =
    record { block = n; name = name.text; premises = map as_read premises; conclusion = as_read conclusion } ∷ []
rule_in n _ = []

-- the number of judgments up to a portion, this one included
abbrev pub block_after : ℕ → PlainPortion → ℕ
block_after n (judgment_of first name form assumes) = suc n
block_after n _ = n

-- the rules of the portions, where so many judgments are declared before these
abbrev pub rules_in : (block : ℕ) → List PlainPortion → List RuleText
rules_in n [] = []
rules_in n (p ∷ ps) = rule_in n p ++ rules_in (block_after n p) ps

-- the forms of a rule, the premises first
abbrev pub rule_forms : RuleText → List (List Token)
rule_forms text = text.premises ++ text.conclusion ∷ []

abbrev pub written_input : PlainInput → WrittenInput
written_input (given_form labelled) = for_derivation labelled.name.text (as_read labelled.form)
written_input (of_syntax name) = for_term name.text

-- the number of a theorem's group, where so many groups stand before it: `and` joins it to the last one
abbrev pub group_of : (groups : ℕ) → (joined : Bool) → ℕ
group_of n joined = if joined then n - 1 else n

-- the target that a step by induction names
abbrev pub target_of : PlainJustification → List PlainArgument
target_of (by_induction subject) = subject ∷ []
target_of _ = []

abbrev pub target_in : PlainPortion → List PlainArgument
target_in (step_of first names forms why) = target_of why
target_in _ = []

-- the target of a proof whose first step is by induction
abbrev pub first_target : List PlainPortion → List PlainArgument
first_target [] = []
first_target (p ∷ ps) = target_in p

-- the theorem that a portion states, before these portions; its targets are those of the line `use`, or of the first step
abbrev pub theorem_in : (groups : ℕ) → PlainPortion → (rest : List PlainPortion) → List TheoremText
theorem_in n (theorem_of first joined kind name assumes inputs outputs targets) rest =
    record {
      group = group_of n joined;
      name = name.text;
      assumes = assumes;
      inputs = map written_input inputs;
      outputs = map as_read outputs;
      targets = map name_alone targets ++ first_target rest;
    } ∷ []
theorem_in n _ rest = []

abbrev pub groups_after : ℕ → PlainPortion → ℕ
groups_after n (theorem_of first joined kind name assumes inputs outputs targets) = suc (group_of n joined)
groups_after n _ = n

-- the theorems of the portions, where so many groups stand before these
abbrev pub theorems_in : (groups : ℕ) → List PlainPortion → List TheoremText
theorems_in n [] = []
theorems_in n (p ∷ ps) = theorem_in n p ps ++ theorems_in (groups_after n p) ps
