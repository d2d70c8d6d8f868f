-- The portions of tokens, with plain tokens, do not depend on where the tokens lie.
use Rattle.std.proofs.Common.{◌≡◌, Bool, true, false, ◌||◌, List, [], ◌∷◌, map, take, drop, refl, ◌∙◌, ap}
use Rattle.std.proofs.lemmas.List.{take-map, drop-map}
use Rattle.proof_lexer.specs.View.{token_view}
use Rattle.proof_lexer.specs.declared.token.Token.{Token}
use Rattle.outline_reader.specs.declared.symbols.Role.{Role}
use Rattle.outline_reader.specs.declared.symbols.Role.TheVariants as role
use Rattle.outline_reader.specs.Views as lent
use Rattle.outline_reader.specs.Views.{Piece}
use Rattle.outline_reader.specs.Fields.{name_or, form_if, form_of, head_conclusion, named_forms, productions}
use Rattle.outline_reader.specs.Plain.{plain_form, plain_justification, plain_portion, by_rule_of, by_theorem, by_hypothesis, by_cases, by_induction, by_contradiction, by_weakening, by_exchange, by_substitution, by_names, terminals, category, judgment_of, rule_of, theorem_of, step_of, inversion, case_rule, case_term}
use Rattle.outline_reader.specs.Portions.{begins, names_category, portion_size, call, just_by, theorem_header, step_line, case_head, inversion_head, rule_lines, second_or, category_line, portion, portions}
use Rattle.outline_reader.proofs.FieldLemmas.{placeless, all_placeless, seen_choice_cons, plain_tokens, plain_named, plain_name_or, plain_form_if, plain_form_of, plain_subject, plain_head_conclusion, plain_all_named, plain_forms, plain_premises, plain_outputs, plain_named_forms, plain_inputs, plain_args, plain_productions}

plain_just_by : (by : Role) (first : Token) (roles : List Role) (tokens : List Token) → plain_justification (just_by by (placeless first) roles (all_placeless tokens)) ≡ plain_justification (just_by by first roles tokens)
plain_just_by role.RuleCall first roles tokens = λ i. by_rule_of (plain_name_or first role.Name roles tokens i) (plain_args roles tokens i)
plain_just_by role.TheoremCall first roles tokens =
    λ i. by_theorem (plain_name_or first role.TheoremCall roles tokens i) (plain_name_or first role.Name roles tokens i) (plain_args roles tokens i)
plain_just_by role.HypothesisCall first roles tokens = λ i. by_hypothesis (plain_args roles tokens i)
plain_just_by role.Cases first roles tokens = λ i. by_cases (plain_subject first roles tokens i)
plain_just_by role.Induction first roles tokens = λ i. by_induction (plain_subject first roles tokens i)
plain_just_by role.Contradiction first roles tokens = λ i. by_contradiction (plain_subject first roles tokens i)
plain_just_by role.Weakening first roles tokens = λ i. by_weakening (plain_name_or first role.Name roles tokens i)
plain_just_by role.Exchange first roles tokens = λ i. by_exchange (plain_name_or first role.Name roles tokens i)
plain_just_by role.Substitution first roles tokens = λ i. by_substitution (plain_name_or first role.Name roles tokens i) (plain_name_or first role.SecondName roles tokens i)
plain_just_by role.Unproved first roles tokens = refl
plain_just_by _ first roles tokens = λ i. by_names (plain_all_named role.NameAlone roles tokens i)

plain_header : (joined : Bool) (first : Token) (roles : List Role) (tokens : List Token) → plain_portion (theorem_header joined (placeless first) roles (all_placeless tokens)) ≡ plain_portion (theorem_header joined first roles tokens)
plain_header joined first roles tokens = λ i.
    theorem_of (token_view first) joined (plain_name_or first role.KindWord roles tokens i) (plain_name_or first role.Name roles tokens i) (plain_named role.Assumed roles tokens i)
    (plain_inputs roles tokens i) (plain_outputs roles tokens i) (plain_all_named role.Target roles tokens i)

plain_step : (first : Token) (roles : List Role) (tokens : List Token) → plain_portion (step_line (placeless first) roles (all_placeless tokens)) ≡ plain_portion (step_line first roles tokens)
plain_step first roles tokens = λ i.
    step_of (token_view first) (plain_all_named role.StepName roles tokens i) (plain_forms role.Form roles tokens i) (plain_just_by (call roles) first roles tokens i)

-- the head of a rule's case, and of a term's
abbrev case_rule_head : Token → List Role → List Token → Piece
case_rule_head first roles tokens = lent.case_rule first (named_forms roles tokens) (name_or first role.Name roles tokens) (head_conclusion first roles tokens)

abbrev case_term_head : Token → List Role → List Token → Piece
case_term_head first roles tokens = lent.case_term first (form_of role.Form roles tokens) (form_if role.AssumedForm roles tokens)

plain_rule_head : (first : Token) (roles : List Role) (tokens : List Token) → plain_portion (case_rule_head (placeless first) roles (all_placeless tokens)) ≡ plain_portion (case_rule_head first roles tokens)
plain_rule_head first roles tokens = λ i.
    case_rule (token_view first) (plain_named_forms roles tokens i) (plain_name_or first role.Name roles tokens i) (plain_head_conclusion first roles tokens i)

plain_term_head : (first : Token) (roles : List Role) (tokens : List Token) → plain_portion (case_term_head (placeless first) roles (all_placeless tokens)) ≡ plain_portion (case_term_head first roles tokens)
plain_term_head first roles tokens = λ i. case_term (token_view first) (plain_form_of role.Form roles tokens i) (plain_form_if role.AssumedForm roles tokens i)

plain_case : (first : Token) (roles : List Role) (tokens : List Token) → plain_portion (case_head (placeless first) roles (all_placeless tokens)) ≡ plain_portion (case_head first roles tokens)
plain_case first [] tokens = plain_term_head first [] tokens
plain_case first (word ∷ []) tokens = plain_term_head first (word ∷ []) tokens
plain_case first (word ∷ role.RuleCase ∷ roles) tokens = plain_rule_head first (word ∷ role.RuleCase ∷ roles) tokens
plain_case first (word ∷ other ∷ roles) tokens = plain_term_head first (word ∷ other ∷ roles) tokens

plain_inversion : (first : Token) (roles : List Role) (tokens : List Token) → plain_portion (inversion_head (placeless first) roles (all_placeless tokens)) ≡ plain_portion (inversion_head first roles tokens)
plain_inversion first roles tokens = λ i.
    inversion (token_view first) (plain_subject first roles tokens i) (plain_named_forms roles tokens i) (plain_name_or first role.Name roles tokens i) (plain_head_conclusion first roles tokens i)

plain_rule : (first : Token) (roles : List Role) (tokens : List Token) → plain_portion (rule_lines (placeless first) roles (all_placeless tokens)) ≡ plain_portion (rule_lines first roles tokens)
plain_rule first roles tokens = λ i. rule_of (plain_premises roles tokens i) (plain_name_or first role.Name roles tokens i) (plain_form_of role.Form roles tokens i)

plain_second : (first : Token) (tokens : List Token) → token_view (second_or (placeless first) (all_placeless tokens)) ≡ token_view (second_or first tokens)
plain_second first [] = refl
plain_second first (one ∷ []) = refl
plain_second first (one ∷ second ∷ tokens) = refl

plain_category : (first : Token) (roles : List Role) (tokens : List Token) → plain_portion (category_line (placeless first) roles (all_placeless tokens)) ≡ plain_portion (category_line first roles tokens)
plain_category first [] tokens = refl
plain_category first (one ∷ []) tokens = refl
plain_category first (one ∷ define ∷ roles) tokens =
    let forms = ap (λ ts. map plain_form (productions roles ts)) (drop-map placeless 2 tokens) ∙ plain_productions roles (drop 2 tokens) in
    λ i. category (token_view first) (plain_second first tokens i) (forms i)

plain_judgment : (first : Token) (roles : List Role) (tokens : List Token) → plain_portion (portion role.JudgmentWord (placeless first) roles (all_placeless tokens)) ≡ plain_portion (portion role.JudgmentWord first roles tokens)
plain_judgment first roles tokens = λ i.
    judgment_of (token_view first) (plain_name_or first role.Name roles tokens i) (plain_form_of role.Form roles tokens i) (plain_named role.Assumed roles tokens i)

plain_piece : (begun : Role) (first : Token) (roles : List Role) (tokens : List Token) → plain_portion (portion begun (placeless first) roles (all_placeless tokens)) ≡ plain_portion (portion begun first roles tokens)
plain_piece role.TerminalsWord first roles tokens =
    ap (λ items. terminals (token_view first) (plain_form items)) (drop-map placeless 1 tokens)
    ∙ ap (λ items. terminals (token_view first) items) (plain_tokens (drop 1 tokens))
plain_piece role.SyntaxWord first roles tokens = refl
plain_piece role.JudgmentWord first roles tokens = plain_judgment first roles tokens
plain_piece role.RulePremise first roles tokens = plain_rule first roles tokens
plain_piece role.RuleBar first roles tokens = plain_rule first roles tokens
plain_piece role.AndWord first roles tokens = plain_header true first roles tokens
plain_piece role.TheoremWord first roles tokens = plain_header false first roles tokens
plain_piece role.StepName first roles tokens = plain_step first roles tokens
plain_piece role.ProofWord first roles tokens = plain_step first roles tokens
plain_piece role.InversionWord first roles tokens = plain_inversion first roles tokens
plain_piece role.CaseWord first roles tokens = plain_case first roles tokens
plain_piece role.EndWord first roles tokens = refl
plain_piece _ first roles tokens = plain_category first roles tokens

pub plain_portions : (roles : List Role) (tokens : List Token) → map plain_portion (portions roles (all_placeless tokens)) ≡ map plain_portion (portions roles tokens)
plain_portions [] tokens = refl
plain_portions (first ∷ roles) [] = refl
plain_portions (first ∷ roles) (token ∷ tokens) =
    let size = portion_size (first ∷ roles) in
    let front = take size (first ∷ roles) in
    seen_choice_cons plain_portion (begins first || names_category roles) _ _ _ _
    (ap (λ ts. plain_portion (portion first (placeless token) front ts)) (take-map placeless size (token ∷ tokens))
    ∙ plain_piece first token front (take size (token ∷ tokens)))
    (plain_portions roles tokens)
