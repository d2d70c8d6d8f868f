-- What the roles of a portion's tokens say that its fields are.
use Rattle.std.specs.Prelude.{ℕ, ◌+◌, ◌-◌, Bool, true, false, if◌then◌else◌, List, [], ◌∷◌, length, take, drop, Option, Some, None}
use denote.Enum.Bare.{sameb}
use Rattle.outline_reader.specs.contracts.symbols.Role.{the_type}
use Rattle.proof_lexer.specs.declared.token.Token.{Token}
use Rattle.outline_reader.specs.declared.symbols.Role.{Role}
use Rattle.outline_reader.specs.declared.symbols.Role.TheVariants as role
use Rattle.outline_reader.specs.Views.{Argument, name_alone, enclosed, Labelled, Input, given, of_syntax}

abbrev pub same_role : Role → Role → Bool
same_role a b = sameb the_type a b

-- how many further tokens of a form come first
abbrev pub more_after : Role → ℕ → ℕ
more_after role.More count = count + 1
more_after _ count = 0

abbrev pub more : List Role → ℕ
more [] = 0
more (role ∷ roles) = more_after role (more roles)

-- the form that begins with the first token
abbrev pub form_here : List Role → List Token → List Token
form_here [] tokens = []
form_here (role ∷ roles) tokens = take (more roles + 1) tokens

-- the first token with the role
abbrev pub named : Role → List Role → List Token → Option Token
named role [] tokens = None
named role (other ∷ roles) [] = None
named role (other ∷ roles) (token ∷ tokens) = if same_role other role then Some token else named role roles tokens

-- the first token with the role, or else the other token
abbrev pub name_or : Token → Role → List Role → List Token → Token
name_or otherwise role [] tokens = otherwise
name_or otherwise role (other ∷ roles) [] = otherwise
name_or otherwise role (other ∷ roles) (token ∷ tokens) = if same_role other role then token else name_or otherwise role roles tokens

-- the first form whose first token has the role
abbrev pub form_if : Role → List Role → List Token → Option (List Token)
form_if role [] tokens = None
form_if role (other ∷ roles) [] = None
form_if role (other ∷ roles) (token ∷ tokens) = if same_role other role then Some (form_here (other ∷ roles) (token ∷ tokens)) else form_if role roles tokens

-- the same, and an empty one where there is none
abbrev pub form_of : Role → List Role → List Token → List Token
form_of role [] tokens = []
form_of role (other ∷ roles) [] = []
form_of role (other ∷ roles) (token ∷ tokens) = if same_role other role then form_here (other ∷ roles) (token ∷ tokens) else form_of role roles tokens

-- the name and the form of a line in the head of a case; the roles and tokens are those behind the name, the first of them that of the colon
abbrev pub named_form : Token → List Role → List Token → Labelled
named_form name [] tokens = record { name = name; form = [] }
named_form name (colon ∷ roles) tokens = record { name = name; form = form_here roles (drop 1 tokens) }

-- an input has a form where one follows behind a colon
abbrev pub input : Token → List Role → List Token → Input
input name (colon ∷ role.Form ∷ roles) tokens = given (named_form name (colon ∷ role.Form ∷ roles) tokens)
input name _ tokens = of_syntax name

abbrev pub without_last : List Token → List Token
without_last form = take (length form - 1) form

abbrev pub is_premise : Role → Bool
is_premise role.RulePremise = true
is_premise role.Premise = true
is_premise _ = false

abbrev pub is_arg : Role → Bool
is_arg role.ArgName = true
is_arg role.ArgForm = true
is_arg _ = false

-- the argument that begins with the token
abbrev pub arg : Token → List Role → List Token → Argument
arg token (role.ArgForm ∷ roles) tokens = enclosed (form_here (role.ArgForm ∷ roles) tokens)
arg token _ tokens = name_alone token

-- the first argument, or else the other token
abbrev pub subject : Token → List Role → List Token → Argument
subject otherwise [] tokens = name_alone otherwise
subject otherwise (other ∷ roles) [] = name_alone otherwise
subject otherwise (other ∷ roles) (token ∷ tokens) = if is_arg other then arg token (other ∷ roles) (token ∷ tokens) else subject otherwise roles tokens

-- the conclusion in the head of a case, or else the other token with no form
abbrev pub head_conclusion : Token → List Role → List Token → Labelled
head_conclusion otherwise [] tokens = record { name = otherwise; form = [] }
head_conclusion otherwise (other ∷ roles) [] = record { name = otherwise; form = [] }
head_conclusion otherwise (other ∷ roles) (token ∷ tokens) = if same_role other role.HeadConclusion then named_form token roles tokens else head_conclusion otherwise roles tokens

-- the tokens with the role
abbrev pub all_named : Role → List Role → List Token → List Token
all_named role [] tokens = []
all_named role (other ∷ roles) [] = []
all_named role (other ∷ roles) (token ∷ tokens) = if same_role other role then token ∷ all_named role roles tokens else all_named role roles tokens

-- the forms whose first token has the role
abbrev pub forms : Role → List Role → List Token → List (List Token)
forms role [] tokens = []
forms role (other ∷ roles) [] = []
forms role (other ∷ roles) (token ∷ tokens) = if same_role other role then form_here (other ∷ roles) (token ∷ tokens) ∷ forms role roles tokens else forms role roles tokens

-- the premises of a rule
abbrev pub premises : List Role → List Token → List (List Token)
premises [] tokens = []
premises (other ∷ roles) [] = []
premises (other ∷ roles) (token ∷ tokens) = if is_premise other then form_here (other ∷ roles) (token ∷ tokens) ∷ premises roles tokens else premises roles tokens

-- the conclusions of a theorem: each without the dot that ends it
abbrev pub outputs : List Role → List Token → List (List Token)
outputs [] tokens = []
outputs (other ∷ roles) [] = []
outputs (other ∷ roles) (token ∷ tokens) = if same_role other role.Output then without_last (form_here (other ∷ roles) (token ∷ tokens)) ∷ outputs roles tokens else outputs roles tokens

-- the premises in the head of a case
abbrev pub named_forms : List Role → List Token → List Labelled
named_forms [] tokens = []
named_forms (other ∷ roles) [] = []
named_forms (other ∷ roles) (token ∷ tokens) = if same_role other role.HeadName then named_form token roles tokens ∷ named_forms roles tokens else named_forms roles tokens

-- the inputs of a theorem
abbrev pub inputs : List Role → List Token → List Input
inputs [] tokens = []
inputs (other ∷ roles) [] = []
inputs (other ∷ roles) (token ∷ tokens) = if same_role other role.InputName then input token roles tokens ∷ inputs roles tokens else inputs roles tokens

-- the arguments of a justification
abbrev pub args : List Role → List Token → List Argument
args [] tokens = []
args (other ∷ roles) [] = []
args (other ∷ roles) (token ∷ tokens) = if is_arg other then arg token (other ∷ roles) (token ∷ tokens) ∷ args roles tokens else args roles tokens

-- how many tokens come before the next `|`
abbrev pub production_length : List Role → ℕ
production_length [] = 0
production_length (other ∷ roles) = if same_role other role.Or then 0 else production_length roles + 1

abbrev pub later_productions : List Role → List Token → List (List Token)
later_productions [] tokens = []
later_productions (other ∷ roles) [] = []
later_productions (other ∷ roles) (token ∷ tokens) = if same_role other role.Or then take (production_length roles) tokens ∷ later_productions roles tokens else later_productions roles tokens

-- the productions of a category: the tokens behind its `::=`, divided at each `|`
abbrev pub productions : List Role → List Token → List (List Token)
productions roles tokens = take (production_length roles) tokens ∷ later_productions roles tokens
