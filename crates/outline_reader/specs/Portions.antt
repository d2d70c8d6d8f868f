-- The portions of a text whose tokens have roles; to be held against the notation's words on the outline's portions.
use Rattle.std.specs.Prelude.{ℕ, ◌+◌, Bool, true, false, ◌||◌, if◌then◌else◌, List, [], ◌∷◌, take, drop}
use Rattle.proof_lexer.specs.declared.token.Token.{Token}
use Rattle.outline_reader.specs.declared.fault.Part.{Part}
use Rattle.outline_reader.specs.declared.fault.Part.TheVariants as part
use Rattle.outline_reader.specs.declared.symbols.Role.{Role}
use Rattle.outline_reader.specs.declared.symbols.Role.TheVariants as role
use Rattle.outline_reader.specs.Fields.{all_named, args, form_if, form_of, forms, head_conclusion, inputs, name_or, named, named_forms, outputs, premises, productions, subject}
use Rattle.outline_reader.specs.Views.{Justification, by_rule, by_theorem, by_hypothesis, by_cases, by_induction, by_contradiction, by_weakening, by_exchange, by_substitution, by_none, by_names, Piece, terminals, syntax, category, judgment, rule, theorem, step, inversion, case_rule, case_term, end_line}

-- ---- where portions begin

-- the role is that of a portion's first token
abbrev pub begins : Role → Bool
begins role.TerminalsWord = true
begins role.SyntaxWord = true
begins role.CategoryName = true
begins role.JudgmentWord = true
begins role.RulePremise = true
begins role.RuleBar = true
begins role.AndWord = true
begins role.TheoremWord = true
begins role.StepName = true
begins role.ProofWord = true
begins role.InversionWord = true
begins role.CaseWord = true
begins role.EndWord = true
begins _ = false

-- a category after the first begins with the token before its `::=`
abbrev pub names_category : List Role → Bool
names_category (role.NewCategory ∷ after) = true
names_category _ = false

-- how many tokens come before the next portion
abbrev pub portion_length : List Role → ℕ
portion_length [] = 0
portion_length (first ∷ rest) = if begins first || names_category rest then 0 else portion_length rest + 1

-- how many tokens the portion has that begins with the first token
abbrev pub portion_size : List Role → ℕ
portion_size [] = 0
portion_size (first ∷ rest) = portion_length rest + 1

-- ---- portions

-- what the last word of an `end` line ends
abbrev pub ended_by : Role → Part → Part
ended_by role.EndTheorem other = part.Theorem
ended_by role.EndLemma other = part.Lemma
ended_by role.EndAnalysis other = part.CaseAnalysis
ended_by role.EndInduction other = part.Induction
ended_by _ other = other

abbrev pub ended : List Role → Part
ended [] = part.Case
ended (first ∷ rest) = ended_by first (ended rest)

abbrev pub is_call : Role → Bool
is_call role.RuleCall = true
is_call role.TheoremCall = true
is_call role.HypothesisCall = true
is_call role.Cases = true
is_call role.Induction = true
is_call role.Contradiction = true
is_call role.Weakening = true
is_call role.Exchange = true
is_call role.Substitution = true
is_call role.Unproved = true
is_call _ = false

-- the word that tells the justification; a name alone where there is none
abbrev pub call : List Role → Role
call [] = role.NameAlone
call (first ∷ rest) = if is_call first then first else call rest

abbrev pub just_by : Role → Token → List Role → List Token → Justification
just_by role.RuleCall first roles tokens = by_rule (name_or first role.Name roles tokens) (args roles tokens)
just_by role.TheoremCall first roles tokens = by_theorem (name_or first role.TheoremCall roles tokens) (name_or first role.Name roles tokens) (args roles tokens)
just_by role.HypothesisCall first roles tokens = by_hypothesis (args roles tokens)
just_by role.Cases first roles tokens = by_cases (subject first roles tokens)
just_by role.Induction first roles tokens = by_induction (subject first roles tokens)
just_by role.Contradiction first roles tokens = by_contradiction (subject first roles tokens)
just_by role.Weakening first roles tokens = by_weakening (name_or first role.Name roles tokens)
just_by role.Exchange first roles tokens = by_exchange (name_or first role.Name roles tokens)
just_by role.Substitution first roles tokens = by_substitution (name_or first role.Name roles tokens) (name_or first role.SecondName roles tokens)
just_by role.Unproved first roles tokens = by_none
just_by _ first roles tokens = by_names (all_named role.NameAlone roles tokens)

-- what justifies a step that begins with the first token
abbrev pub just : Token → List Role → List Token → Justification
just first roles tokens = just_by (call roles) first roles tokens

abbrev pub theorem_header : Bool → Token → List Role → List Token → Piece
theorem_header joined first roles tokens =
    theorem first joined (name_or first role.KindWord roles tokens) (name_or first role.Name roles tokens) (named role.Assumed roles tokens) (inputs roles tokens) (outputs roles tokens) (all_named role.Target roles tokens)

abbrev pub step_line : Token → List Role → List Token → Piece
step_line first roles tokens = step first (all_named role.StepName roles tokens) (forms role.Form roles tokens) (just first roles tokens)

abbrev pub case_head : Token → List Role → List Token → Piece
case_head first (word ∷ role.RuleCase ∷ roles) tokens =
    case_rule first (named_forms (word ∷ role.RuleCase ∷ roles) tokens) (name_or first role.Name (word ∷ role.RuleCase ∷ roles) tokens) (head_conclusion first (word ∷ role.RuleCase ∷ roles) tokens)
case_head first roles tokens = case_term first (form_of role.Form roles tokens) (form_if role.AssumedForm roles tokens)

abbrev pub inversion_head : Token → List Role → List Token → Piece
inversion_head first roles tokens = inversion first (subject first roles tokens) (named_forms roles tokens) (name_or first role.Name roles tokens) (head_conclusion first roles tokens)

abbrev pub rule_lines : Token → List Role → List Token → Piece
rule_lines first roles tokens = rule (premises roles tokens) (name_or first role.Name roles tokens) (form_of role.Form roles tokens)

-- the second token, or else the first of the portion
abbrev pub second_or : Token → List Token → Token
second_or first (one ∷ second ∷ tokens) = second
second_or first _ = first

-- the name, the `::=`, and the productions behind it
abbrev pub category_line : Token → List Role → List Token → Piece
category_line first (one ∷ define ∷ roles) tokens = category first (second_or first tokens) (productions roles (drop 2 tokens))
category_line first _ tokens = category first first (productions [] [])

-- the portion that begins with the first token, which has this role
abbrev pub portion : Role → Token → List Role → List Token → Piece
portion role.TerminalsWord first roles tokens = terminals first (drop 1 tokens)
portion role.SyntaxWord first roles tokens = syntax first
portion role.JudgmentWord first roles tokens = judgment first (name_or first role.Name roles tokens) (form_of role.Form roles tokens) (named role.Assumed roles tokens)
portion role.RulePremise first roles tokens = rule_lines first roles tokens
portion role.RuleBar first roles tokens = rule_lines first roles tokens
portion role.AndWord first roles tokens = theorem_header true first roles tokens
portion role.TheoremWord first roles tokens = theorem_header false first roles tokens
portion role.StepName first roles tokens = step_line first roles tokens
portion role.ProofWord first roles tokens = step_line first roles tokens
portion role.InversionWord first roles tokens = inversion_head first roles tokens
portion role.CaseWord first roles tokens = case_head first roles tokens
portion role.EndWord first roles tokens = end_line first (ended roles)
portion _ first roles tokens = category_line first roles tokens

-- the portions of the tokens, in text order
abbrev pub portions : List Role → List Token → List Piece
portions [] tokens = []
portions (first ∷ roles) [] = []
portions (first ∷ roles) (token ∷ tokens) =
    if begins first || names_category roles
    then portion first token (take (portion_size (first ∷ roles)) (first ∷ roles)) (take (portion_size (first ∷ roles)) (token ∷ tokens)) ∷ portions roles tokens
    else portions roles tokens
