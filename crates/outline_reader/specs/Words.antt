-- What the tokens of portions are: names, and forms without reserved words. To be held against 'Outline' of docs/notation.md.
use Rattle.std.specs.Prelude.{◌≡◌, ◌≢◌, List, [], IfSome, false}
use Rattle.std.specs.List.{AllByRecursion}
use Rattle.sy_base.specs.Tokens.{PlainToken, is_numeral}
use Rattle.outline_reader.specs.Sorts.{IsReserved}
use Rattle.outline_reader.specs.Plain.{PlainArgument, name_alone, enclosed, PlainLabelled, PlainInput, given_form, of_syntax, PlainJustification, by_rule_of, by_theorem, by_hypothesis, by_cases, by_induction, by_contradiction, by_weakening, by_exchange, by_substitution, by_none, by_names, PlainPortion, terminals, syntax_word, category, judgment_of, rule_of, theorem_of, step_of, inversion, case_rule, case_term, end_line}

-- the token is a word that is neither reserved nor a numeral
pub record IsName (token : PlainToken) : Type 0 where
  pub word : token.kind ≡ 0
  pub not_reserved : IsReserved token.text → ⊥
  pub no_numeral : is_numeral token.text ≡ false

-- the token is no reserved word; in quotes it may be spelled like one
abbrev pub IsUnreserved : PlainToken → Type 0
IsUnreserved token = token.kind ≡ 0 → IsReserved token.text → ⊥

-- the form has tokens, and no reserved word outside quotes
pub record IsFormText (form : List PlainToken) : Type 0 where
  pub some : form ≢ []
  pub unreserved : AllByRecursion IsUnreserved form

abbrev pub ArgumentHasWords : PlainArgument → Type 0
ArgumentHasWords (name_alone name) = IsName name
ArgumentHasWords (enclosed form) = IsFormText form

abbrev pub LabelledHasWords : PlainLabelled → Type 0
LabelledHasWords labelled = IsName labelled.name × IsFormText labelled.form

abbrev pub InputHasWords : PlainInput → Type 0
InputHasWords (given_form labelled) = LabelledHasWords labelled
InputHasWords (of_syntax name) = IsName name

abbrev pub JustificationHasWords : PlainJustification → Type 0
JustificationHasWords (by_rule_of name on) = IsName name × AllByRecursion ArgumentHasWords on
JustificationHasWords (by_theorem word name on) = IsName name × AllByRecursion ArgumentHasWords on
JustificationHasWords (by_hypothesis on) = AllByRecursion ArgumentHasWords on
JustificationHasWords (by_cases subject) = ArgumentHasWords subject
JustificationHasWords (by_induction subject) = ArgumentHasWords subject
JustificationHasWords (by_contradiction subject) = ArgumentHasWords subject
JustificationHasWords (by_weakening name) = IsName name
JustificationHasWords (by_exchange name) = IsName name
JustificationHasWords (by_substitution name second) = IsName name × IsName second
JustificationHasWords by_none = Unit {0}
JustificationHasWords (by_names names) = AllByRecursion IsName names

-- The names of the portion are names, and its forms are forms. Productions and lists of terminals hold no reserved word.
abbrev pub HasWords : PlainPortion → Type 0
HasWords (terminals first items) = AllByRecursion IsUnreserved items
HasWords (syntax_word first) = Unit {0}
HasWords (category name mark productions) = IsName name × AllByRecursion (AllByRecursion IsUnreserved) productions
HasWords (judgment_of first name form assumes) = IsName name × IsFormText form × IfSome assumes IsName
HasWords (rule_of premises name conclusion) = AllByRecursion IsFormText premises × IsName name × IsFormText conclusion
HasWords (theorem_of first joined word name assumes inputs outputs targets) =
    IsName name × IfSome assumes IsName × AllByRecursion InputHasWords inputs × AllByRecursion IsFormText outputs × AllByRecursion IsName targets
HasWords (step_of first names forms why) = AllByRecursion IsName names × AllByRecursion IsFormText forms × JustificationHasWords why
HasWords (inversion first subject premises name conclusion) =
    ArgumentHasWords subject × AllByRecursion LabelledHasWords premises × IsName name × LabelledHasWords conclusion
HasWords (case_rule first premises name conclusion) = AllByRecursion LabelledHasWords premises × IsName name × LabelledHasWords conclusion
HasWords (case_term first form assumes) = IsFormText form × IfSome assumes IsFormText
HasWords (end_line first part) = Unit {0}
