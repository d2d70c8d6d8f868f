-- Where the tokens of portions stand among those of the source. To be held against 'Outline' of docs/notation.md.
use Rattle.std.specs.Prelude.{◌≢◌, codes, ◌≡◌, List, [], ◌∷◌, ◌++◌, IfSome}
use Rattle.std.specs.List.{AllByRecursion}
use Rattle.sy_base.specs.Tokens.{PlainToken}
use Rattle.outline_reader.specs.Words.{IsName}
use Rattle.outline_reader.specs.Plain.{PlainArgument, name_alone, enclosed, PlainLabelled, PlainInput, given_form, of_syntax, PlainJustification, by_rule_of, by_theorem, by_hypothesis, by_cases, by_induction, by_contradiction, by_weakening, by_exchange, by_substitution, by_none, by_names, PlainPortion, terminals, syntax_word, category, judgment_of, rule_of, theorem_of, step_of, inversion, case_rule, case_term, end_line}

-- this part stands among the tokens, in one piece
pub record Holds (tokens part : List PlainToken) : Type 0 where
  pub front : List PlainToken
  pub rest : List PlainToken
  pub split : tokens ≡ front ++ (part ++ rest)

-- the token is one of the tokens
abbrev pub HoldsToken : List PlainToken → PlainToken → Type 0
HoldsToken tokens token = Holds tokens (token ∷ [])

abbrev pub HoldsArgument : List PlainToken → PlainArgument → Type 0
HoldsArgument tokens (name_alone name) = HoldsToken tokens name
HoldsArgument tokens (enclosed form) = Holds tokens form

abbrev pub HoldsLabelled : List PlainToken → PlainLabelled → Type 0
HoldsLabelled tokens labelled = HoldsToken tokens labelled.name × Holds tokens labelled.form

abbrev pub HoldsInput : List PlainToken → PlainInput → Type 0
HoldsInput tokens (given_form labelled) = HoldsLabelled tokens labelled
HoldsInput tokens (of_syntax name) = HoldsToken tokens name

abbrev pub HoldsJustification : List PlainToken → PlainJustification → Type 0
HoldsJustification tokens (by_rule_of name on) = HoldsToken tokens name × AllByRecursion (HoldsArgument tokens) on
HoldsJustification tokens (by_theorem word name on) = HoldsToken tokens word × HoldsToken tokens name × AllByRecursion (HoldsArgument tokens) on
HoldsJustification tokens (by_hypothesis on) = AllByRecursion (HoldsArgument tokens) on
HoldsJustification tokens (by_cases subject) = HoldsArgument tokens subject
HoldsJustification tokens (by_induction subject) = HoldsArgument tokens subject
HoldsJustification tokens (by_contradiction subject) = HoldsArgument tokens subject
HoldsJustification tokens (by_weakening name) = HoldsToken tokens name
HoldsJustification tokens (by_exchange name) = HoldsToken tokens name
HoldsJustification tokens (by_substitution name second) = HoldsToken tokens name × HoldsToken tokens second
HoldsJustification tokens by_none = Unit {0}
HoldsJustification tokens (by_names names) = AllByRecursion (HoldsToken tokens) names

-- each word, name and form of the portion stands among the tokens, a form in one piece
abbrev pub HoldsPortion : List PlainToken → PlainPortion → Type 0
HoldsPortion tokens (terminals first items) = HoldsToken tokens first × Holds tokens items
HoldsPortion tokens (syntax_word first) = HoldsToken tokens first
HoldsPortion tokens (category name mark productions) = HoldsToken tokens name × HoldsToken tokens mark × AllByRecursion (Holds tokens) productions
HoldsPortion tokens (judgment_of first name form assumes) = HoldsToken tokens first × HoldsToken tokens name × Holds tokens form × IfSome assumes (HoldsToken tokens)
HoldsPortion tokens (rule_of premises name conclusion) = AllByRecursion (Holds tokens) premises × HoldsToken tokens name × Holds tokens conclusion
HoldsPortion tokens (theorem_of first joined word name assumes inputs outputs targets) =
    HoldsToken tokens first × HoldsToken tokens word × HoldsToken tokens name × IfSome assumes (HoldsToken tokens) × AllByRecursion (HoldsInput tokens) inputs
    × AllByRecursion (Holds tokens) outputs × AllByRecursion (HoldsToken tokens) targets
HoldsPortion tokens (step_of first names forms why) =
    HoldsToken tokens first × AllByRecursion (HoldsToken tokens) names × AllByRecursion (Holds tokens) forms × HoldsJustification tokens why
HoldsPortion tokens (inversion first subject premises name conclusion) =
    HoldsToken tokens first × HoldsArgument tokens subject × AllByRecursion (HoldsLabelled tokens) premises × HoldsToken tokens name × HoldsLabelled tokens conclusion
HoldsPortion tokens (case_rule first premises name conclusion) =
    HoldsToken tokens first × AllByRecursion (HoldsLabelled tokens) premises × HoldsToken tokens name × HoldsLabelled tokens conclusion
HoldsPortion tokens (case_term first form assumes) = HoldsToken tokens first × Holds tokens form × IfSome assumes (Holds tokens)
HoldsPortion tokens (end_line first part) = HoldsToken tokens first

-- the portion begins with the token: a category with its name, and each other with its first word; of a rule this says nothing
abbrev pub BeginsWith : PlainPortion → PlainToken → Type 0
BeginsWith (terminals first items) token = first ≡ token
BeginsWith (syntax_word first) token = first ≡ token
BeginsWith (category name mark productions) token = name ≡ token
BeginsWith (judgment_of first name form assumes) token = first ≡ token
BeginsWith (rule_of premises name conclusion) token = Unit {0}
BeginsWith (theorem_of first joined word name assumes inputs outputs targets) token = first ≡ token
BeginsWith (step_of first names forms why) token = first ≡ token
BeginsWith (inversion first subject premises name conclusion) token = first ≡ token
BeginsWith (case_rule first premises name conclusion) token = first ≡ token
BeginsWith (case_term first form assumes) token = first ≡ token
BeginsWith (end_line first part) token = first ≡ token

-- the token is the symbol `::=`
abbrev pub IsDefinition : PlainToken → Type 0
IsDefinition token = (token.kind ≡ 1) × (token.text ≡ codes "::=")

-- behind the first of these tokens no name begins a line with `::=` behind it on that line
abbrev pub DefinesNothing : List PlainToken → Type 0
DefinesNothing [] = Unit {0}
DefinesNothing (before ∷ []) = Unit {0}
DefinesNothing (before ∷ name ∷ []) = Unit {0}
DefinesNothing (before ∷ name ∷ sign ∷ rest) =
    (IsName name → before.line ≢ name.line → IsDefinition sign → sign.line ≡ name.line → ⊥) × DefinesNothing (name ∷ sign ∷ rest)

-- a category, of which these tokens stand behind its name, ends before the next name that begins a line with `::=` behind it
abbrev pub EndsBeforeNext : PlainPortion → List PlainToken → Type 0
EndsBeforeNext (category name mark productions) tokens = DefinesNothing tokens
EndsBeforeNext _ tokens = Unit {0}

-- The tokens are stretches, one for each portion in turn, with nothing between them. A stretch holds the tokens of its portion, the
-- portion begins with its first one, and a category ends where the next one begins.
pub data AreStretches : List PlainPortion → List PlainToken → Type 0 where
  none : AreStretches [] []
  next : (portion : PlainPortion) (portions : List PlainPortion) (first : PlainToken) (stretch rest tokens : List PlainToken) →
      tokens ≡ first ∷ (stretch ++ rest) → BeginsWith portion first → HoldsPortion (first ∷ stretch) portion → EndsBeforeNext portion stretch → AreStretches portions rest →
      AreStretches (portion ∷ portions) tokens
