-- The portions of a file with plain tokens, wherever these lie: what the definitions of the crates above speak of. To be held against
-- 'Outline' of docs/notation.md.
use Rattle.std.specs.Prelude.{◌≡◌, ℕ, Bool, List, map, Option, option_map}
use Rattle.sy_base.specs.Tokens.{PlainToken, AreTokens, TokenFault, HasFault}
use Rattle.proof_lexer.specs.View.{token_view}
use Rattle.proof_lexer.specs.declared.token.Token.{Token}
use Rattle.outline_reader.specs.declared.fault.Part.{Part}
use Rattle.outline_reader.specs.declared.fault.OutlineFault.{OutlineFault}
use Rattle.outline_reader.specs.declared.parts.Outline.{Outline}
use Rattle.outline_reader.specs.Views as lent
use Rattle.outline_reader.specs.Views.{portion_view}
use Rattle.outline_reader.specs.Outline.{IsOutline, IsFault}

-- an argument: a name, or a form without the parentheses around it
pub data PlainArgument : Type 0 where
  name_alone : PlainToken → PlainArgument
  enclosed : List PlainToken → PlainArgument

-- a form with its name
pub record PlainLabelled : Type 0 where
  pub name : PlainToken
  pub form : List PlainToken

pub data PlainInput : Type 0 where
  given_form : PlainLabelled → PlainInput
  of_syntax : PlainToken → PlainInput

-- what justifies a step; a rule or theorem with its name and arguments, a theorem also with its word
pub data PlainJustification : Type 0 where
  by_rule_of : PlainToken → List PlainArgument → PlainJustification
  by_theorem : PlainToken → PlainToken → List PlainArgument → PlainJustification
  by_hypothesis : List PlainArgument → PlainJustification
  by_cases : PlainArgument → PlainJustification
  by_induction : PlainArgument → PlainJustification
  by_contradiction : PlainArgument → PlainJustification
  by_weakening : PlainToken → PlainJustification
  by_exchange : PlainToken → PlainJustification
  by_substitution : PlainToken → PlainToken → PlainJustification
  by_none : PlainJustification
  by_names : List PlainToken → PlainJustification

-- A portion of a file. The first token of each is its first word, but of a category, which has its name, and of a rule.
pub data PlainPortion : Type 0 where
  terminals : PlainToken → List PlainToken → PlainPortion
  syntax_word : PlainToken → PlainPortion
  -- the name, the `::=`, the productions
  category : PlainToken → PlainToken → List (List PlainToken) → PlainPortion
  -- the first token, the name, the form, what is assumed
  judgment_of : PlainToken → PlainToken → List PlainToken → Option PlainToken → PlainPortion
  -- the premises, the name, the conclusion
  rule_of : List (List PlainToken) → PlainToken → List PlainToken → PlainPortion
  -- the first token, whether `and` stands in front, the word `theorem` or `lemma`, the name, what is assumed, the inputs, the conclusions, the targets
  theorem_of : PlainToken → Bool → PlainToken → PlainToken → Option PlainToken → List PlainInput → List (List PlainToken) → List PlainToken → PlainPortion
  -- the first token, the names, the forms
  step_of : PlainToken → List PlainToken → List (List PlainToken) → PlainJustification → PlainPortion
  -- the first token, the subject, the premises, the rule's name, the conclusion
  inversion : PlainToken → PlainArgument → List PlainLabelled → PlainToken → PlainLabelled → PlainPortion
  case_rule : PlainToken → List PlainLabelled → PlainToken → PlainLabelled → PlainPortion
  -- the first token, the form, what is assumed
  case_term : PlainToken → List PlainToken → Option (List PlainToken) → PlainPortion
  end_line : PlainToken → Part → PlainPortion

-- the number of a token's kind and its text, as readings take it
abbrev pub taken : PlainToken → ℕ × List ℕ
taken token = (token.kind, token.text)

abbrev pub plain_form : List Token → List PlainToken
plain_form form = map token_view form

abbrev pub plain_argument : lent.Argument → PlainArgument
plain_argument (lent.name_alone name) = name_alone (token_view name)
plain_argument (lent.enclosed form) = enclosed (plain_form form)

abbrev pub plain_labelled : lent.Labelled → PlainLabelled
plain_labelled labelled = record { name = token_view labelled.name; form = plain_form labelled.form }

abbrev pub plain_input : lent.Input → PlainInput
plain_input (lent.given labelled) = given_form (plain_labelled labelled)
plain_input (lent.of_syntax name) = of_syntax (token_view name)

abbrev pub plain_justification : lent.Justification → PlainJustification
plain_justification (lent.by_rule name on) = by_rule_of (token_view name) (map plain_argument on)
plain_justification (lent.by_theorem kind name on) = by_theorem (token_view kind) (token_view name) (map plain_argument on)
plain_justification (lent.by_hypothesis on) = by_hypothesis (map plain_argument on)
plain_justification (lent.by_cases subject) = by_cases (plain_argument subject)
plain_justification (lent.by_induction subject) = by_induction (plain_argument subject)
plain_justification (lent.by_contradiction subject) = by_contradiction (plain_argument subject)
plain_justification (lent.by_weakening name) = by_weakening (token_view name)
plain_justification (lent.by_exchange name) = by_exchange (token_view name)
plain_justification (lent.by_substitution name second) = by_substitution (token_view name) (token_view second)
plain_justification lent.by_none = by_none
plain_justification (lent.by_names names) = by_names (map token_view names)

-- the portion with plain tokens
abbrev pub plain_portion : lent.Piece → PlainPortion
plain_portion (lent.terminals first items) = terminals (token_view first) (plain_form items)
plain_portion (lent.syntax first) = syntax_word (token_view first)
plain_portion (lent.category name mark productions) = category (token_view name) (token_view mark) (map plain_form productions)
plain_portion (lent.judgment first name form assumes) = judgment_of (token_view first) (token_view name) (plain_form form) (option_map token_view assumes)
plain_portion (lent.rule premises name conclusion) = rule_of (map plain_form premises) (token_view name) (plain_form conclusion)
plain_portion (lent.theorem first joined kind name assumes inputs outputs targets) =
    theorem_of (token_view first) joined (token_view kind) (token_view name) (option_map token_view assumes) (map plain_input inputs) (map plain_form outputs) (map token_view targets)
plain_portion (lent.step first names forms why) = step_of (token_view first) (map token_view names) (map plain_form forms) (plain_justification why)
plain_portion (lent.inversion first subject premises name conclusion) =
    inversion (token_view first) (plain_argument subject) (map plain_labelled premises) (token_view name) (plain_labelled conclusion)
plain_portion (lent.case_rule first premises name conclusion) = case_rule (token_view first) (map plain_labelled premises) (token_view name) (plain_labelled conclusion)
plain_portion (lent.case_term first form assumes) = case_term (token_view first) (plain_form form) (option_map plain_form assumes)
plain_portion (lent.end_line first part) = end_line (token_view first) part

-- the portions of an outline
abbrev pub outlined : Outline → List PlainPortion
outlined outline = map (λ portion. plain_portion (portion_view portion)) outline.parts.items

-- the source is tokens that are outlined in these portions
pub record HasPortions (source : List ℕ) (portions : List PlainPortion) : Type 0 where
  pub tokens : List Token
  pub are_tokens : AreTokens source (map token_view tokens)
  pub pieces : List lent.Piece
  pub outline : IsOutline tokens pieces
  pub plain : portions ≡ map plain_portion pieces

-- the source is tokens, and these have the fault
pub record HasFaultyOutline (source : List ℕ) (fault : OutlineFault) : Type 0 where
  pub tokens : List Token
  pub are_tokens : AreTokens source (map token_view tokens)
  pub is_fault : IsFault tokens fault

-- the fault of a source that has no portions: that of its tokens, or that of their outline
pub data SourceFault : Type 0 where
  of_tokens : TokenFault → SourceFault
  of_outline : OutlineFault → SourceFault

abbrev pub HasSourceFault : List ℕ → SourceFault → Type 0
HasSourceFault source (of_tokens fault) = HasFault source fault
HasSourceFault source (of_outline fault) = HasFaultyOutline source fault
