-- The fields of a portion, with plain tokens, do not depend on where the tokens lie.
use Rattle.std.proofs.Common.{◌≡◌, ℕ, ◌+◌, ◌-◌, Bool, true, false, cond, List, [], ◌∷◌, length, map, take, drop, Some, option_map, refl, sym, ◌∙◌, ap}
use Rattle.std.proofs.lemmas.List.{length-map, take-map, drop-map}
use Rattle.sy_base.specs.Tokens.{PlainToken}
use Rattle.proof_lexer.specs.View.{token_view}
use Rattle.proof_lexer.specs.declared.token.Token.{Token}
use Rattle.outline_reader.specs.declared.symbols.Role.{Role}
use Rattle.outline_reader.specs.declared.symbols.Role.TheVariants as role
use Rattle.outline_reader.specs.Plain.{given_form, enclosed, plain_form, plain_argument, plain_labelled, plain_input}
use Rattle.outline_reader.specs.Fields.{same_role, more, form_here, named, name_or, form_if, form_of, named_form, input, without_last, is_premise, is_arg, arg, subject, head_conclusion, all_named, forms, premises, outputs, named_forms, inputs, args, production_length, later_productions, productions}

-- the token with its text at no place
abbrev pub placeless : Token → Token
placeless token = record { kind = token.kind; text = record { ref_ptr = (0, 0); now = token.text.now }; span = token.span; line = token.line }

abbrev pub all_placeless : List Token → List Token
all_placeless tokens = map placeless tokens

-- what is seen of a choice, by what is seen of both sides
pub seen_choice : {A B : Type 0} (view : A → B) (b : Bool) (x y z w : A) → view x ≡ view z → view y ≡ view w → view (cond b x y) ≡ view (cond b z w)
seen_choice view true x y z w first second = first
seen_choice view false x y z w first second = second

-- the same of a list to which something is put in front, or not
pub seen_choice_cons : {A B : Type 0} (view : A → B) (b : Bool) (x z : A) (y w : List A) → view x ≡ view z → map view y ≡ map view w →
    map view (cond b (x ∷ y) y) ≡ map view (cond b (z ∷ w) w)
seen_choice_cons view true x z y w first rest = ap (λ v. v ∷ map view y) first ∙ ap (λ (vs : List _). view z ∷ vs) rest
seen_choice_cons view false x z y w first rest = rest

pub plain_tokens : (tokens : List Token) → plain_form (all_placeless tokens) ≡ plain_form tokens
plain_tokens [] = refl
plain_tokens (token ∷ tokens) = ap (λ (vs : List PlainToken). token_view token ∷ vs) (plain_tokens tokens)

pub plain_take : (n : ℕ) (tokens : List Token) → plain_form (take n (all_placeless tokens)) ≡ plain_form (take n tokens)
plain_take n tokens = ap plain_form (take-map placeless n tokens) ∙ plain_tokens (take n tokens)

pub plain_form_here : (roles : List Role) (tokens : List Token) → plain_form (form_here roles (all_placeless tokens)) ≡ plain_form (form_here roles tokens)
plain_form_here [] tokens = refl
plain_form_here (role ∷ roles) tokens = plain_take (more roles + 1) tokens

pub plain_named : (role : Role) (roles : List Role) (tokens : List Token) → option_map token_view (named role roles (all_placeless tokens)) ≡ option_map token_view (named role roles tokens)
plain_named role [] tokens = refl
plain_named role (other ∷ roles) [] = refl
plain_named role (other ∷ roles) (token ∷ tokens) =
    seen_choice (option_map token_view) (same_role other role) _ _ _ _ refl (plain_named role roles tokens)

pub plain_name_or : (first : Token) (role : Role) (roles : List Role) (tokens : List Token) → token_view (name_or (placeless first) role roles (all_placeless tokens)) ≡ token_view (name_or first role roles tokens)
plain_name_or first role [] tokens = refl
plain_name_or first role (other ∷ roles) [] = refl
plain_name_or first role (other ∷ roles) (token ∷ tokens) =
    seen_choice token_view (same_role other role) _ _ _ _ refl (plain_name_or first role roles tokens)

pub plain_form_if : (role : Role) (roles : List Role) (tokens : List Token) → option_map plain_form (form_if role roles (all_placeless tokens)) ≡ option_map plain_form (form_if role roles tokens)
plain_form_if role [] tokens = refl
plain_form_if role (other ∷ roles) [] = refl
plain_form_if role (other ∷ roles) (token ∷ tokens) =
    seen_choice (option_map plain_form) (same_role other role) _ _ _ _
    (ap (λ form. Some form) (plain_form_here (other ∷ roles) (token ∷ tokens))) (plain_form_if role roles tokens)

pub plain_form_of : (role : Role) (roles : List Role) (tokens : List Token) → plain_form (form_of role roles (all_placeless tokens)) ≡ plain_form (form_of role roles tokens)
plain_form_of role [] tokens = refl
plain_form_of role (other ∷ roles) [] = refl
plain_form_of role (other ∷ roles) (token ∷ tokens) =
    seen_choice plain_form (same_role other role) _ _ _ _ (plain_form_here (other ∷ roles) (token ∷ tokens)) (plain_form_of role roles tokens)

pub plain_named_form : (name : Token) (roles : List Role) (tokens : List Token) → plain_labelled (named_form (placeless name) roles (all_placeless tokens)) ≡ plain_labelled (named_form name roles tokens)
plain_named_form name [] tokens = refl
plain_named_form name (colon ∷ roles) tokens =
    ap (λ form. record { name = token_view name; form = form })
    (ap (λ ts. plain_form (form_here roles ts)) (drop-map placeless 1 tokens) ∙ plain_form_here roles (drop 1 tokens))

pub plain_input_here : (name : Token) (roles : List Role) (tokens : List Token) → plain_input (input (placeless name) roles (all_placeless tokens)) ≡ plain_input (input name roles tokens)
plain_input_here name [] tokens = refl
plain_input_here name (colon ∷ []) tokens = refl
plain_input_here name (colon ∷ role.Form ∷ roles) tokens = ap (λ l. given_form l) (plain_named_form name (colon ∷ role.Form ∷ roles) tokens)
plain_input_here name (colon ∷ other ∷ roles) tokens = refl

pub plain_without_last : (form other : List Token) → plain_form form ≡ plain_form other → plain_form (without_last form) ≡ plain_form (without_last other)
plain_without_last form other same =
    sym (take-map token_view (length form - 1) form)
    ∙ ap (λ n. take (n - 1) (plain_form form)) (sym (length-map form token_view) ∙ ap length same ∙ length-map other token_view)
    ∙ ap (λ f. take (length other - 1) f) same
    ∙ take-map token_view (length other - 1) other

pub plain_arg : (token : Token) (roles : List Role) (tokens : List Token) → plain_argument (arg (placeless token) roles (all_placeless tokens)) ≡ plain_argument (arg token roles tokens)
plain_arg token [] tokens = refl
plain_arg token (role.ArgForm ∷ roles) tokens = ap (λ form. enclosed form) (plain_form_here (role.ArgForm ∷ roles) tokens)
plain_arg token (other ∷ roles) tokens = refl

pub plain_subject : (first : Token) (roles : List Role) (tokens : List Token) → plain_argument (subject (placeless first) roles (all_placeless tokens)) ≡ plain_argument (subject first roles tokens)
plain_subject first [] tokens = refl
plain_subject first (other ∷ roles) [] = refl
plain_subject first (other ∷ roles) (token ∷ tokens) =
    seen_choice plain_argument (is_arg other) _ _ _ _ (plain_arg token (other ∷ roles) (token ∷ tokens)) (plain_subject first roles tokens)

pub plain_head_conclusion : (first : Token) (roles : List Role) (tokens : List Token) → plain_labelled (head_conclusion (placeless first) roles (all_placeless tokens)) ≡ plain_labelled (head_conclusion first roles tokens)
plain_head_conclusion first [] tokens = refl
plain_head_conclusion first (other ∷ roles) [] = refl
plain_head_conclusion first (other ∷ roles) (token ∷ tokens) =
    seen_choice plain_labelled (same_role other role.HeadConclusion) _ _ _ _ (plain_named_form token roles tokens) (plain_head_conclusion first roles tokens)

pub plain_all_named : (role : Role) (roles : List Role) (tokens : List Token) → plain_form (all_named role roles (all_placeless tokens)) ≡ plain_form (all_named role roles tokens)
plain_all_named role [] tokens = refl
plain_all_named role (other ∷ roles) [] = refl
plain_all_named role (other ∷ roles) (token ∷ tokens) =
    seen_choice_cons token_view (same_role other role) _ _ _ _ refl (plain_all_named role roles tokens)

pub plain_forms : (role : Role) (roles : List Role) (tokens : List Token) → map plain_form (forms role roles (all_placeless tokens)) ≡ map plain_form (forms role roles tokens)
plain_forms role [] tokens = refl
plain_forms role (other ∷ roles) [] = refl
plain_forms role (other ∷ roles) (token ∷ tokens) =
    seen_choice_cons plain_form (same_role other role) _ _ _ _ (plain_form_here (other ∷ roles) (token ∷ tokens)) (plain_forms role roles tokens)

pub plain_premises : (roles : List Role) (tokens : List Token) → map plain_form (premises roles (all_placeless tokens)) ≡ map plain_form (premises roles tokens)
plain_premises [] tokens = refl
plain_premises (other ∷ roles) [] = refl
plain_premises (other ∷ roles) (token ∷ tokens) =
    seen_choice_cons plain_form (is_premise other) _ _ _ _ (plain_form_here (other ∷ roles) (token ∷ tokens)) (plain_premises roles tokens)

pub plain_outputs : (roles : List Role) (tokens : List Token) → map plain_form (outputs roles (all_placeless tokens)) ≡ map plain_form (outputs roles tokens)
plain_outputs [] tokens = refl
plain_outputs (other ∷ roles) [] = refl
plain_outputs (other ∷ roles) (token ∷ tokens) =
    seen_choice_cons plain_form (same_role other role.Output) _ _ _ _
    (plain_without_last _ _ (plain_form_here (other ∷ roles) (token ∷ tokens))) (plain_outputs roles tokens)

pub plain_named_forms : (roles : List Role) (tokens : List Token) → map plain_labelled (named_forms roles (all_placeless tokens)) ≡ map plain_labelled (named_forms roles tokens)
plain_named_forms [] tokens = refl
plain_named_forms (other ∷ roles) [] = refl
plain_named_forms (other ∷ roles) (token ∷ tokens) =
    seen_choice_cons plain_labelled (same_role other role.HeadName) _ _ _ _ (plain_named_form token roles tokens) (plain_named_forms roles tokens)

pub plain_inputs : (roles : List Role) (tokens : List Token) → map plain_input (inputs roles (all_placeless tokens)) ≡ map plain_input (inputs roles tokens)
plain_inputs [] tokens = refl
plain_inputs (other ∷ roles) [] = refl
plain_inputs (other ∷ roles) (token ∷ tokens) =
    seen_choice_cons plain_input (same_role other role.InputName) _ _ _ _ (plain_input_here token roles tokens) (plain_inputs roles tokens)

pub plain_args : (roles : List Role) (tokens : List Token) → map plain_argument (args roles (all_placeless tokens)) ≡ map plain_argument (args roles tokens)
plain_args [] tokens = refl
plain_args (other ∷ roles) [] = refl
plain_args (other ∷ roles) (token ∷ tokens) =
    seen_choice_cons plain_argument (is_arg other) _ _ _ _ (plain_arg token (other ∷ roles) (token ∷ tokens)) (plain_args roles tokens)

plain_later_productions : (roles : List Role) (tokens : List Token) → map plain_form (later_productions roles (all_placeless tokens)) ≡ map plain_form (later_productions roles tokens)
plain_later_productions [] tokens = refl
plain_later_productions (other ∷ roles) [] = refl
plain_later_productions (other ∷ roles) (token ∷ tokens) =
    seen_choice_cons plain_form (same_role other role.Or) _ _ _ _ (plain_take (production_length roles) tokens) (plain_later_productions roles tokens)

pub plain_productions : (roles : List Role) (tokens : List Token) → map plain_form (productions roles (all_placeless tokens)) ≡ map plain_form (productions roles tokens)
plain_productions roles tokens =
    ap (λ form. form ∷ map plain_form (later_productions roles (all_placeless tokens))) (plain_take (production_length roles) tokens)
    ∙ ap (λ (rest : List (List PlainToken)). plain_form (take (production_length roles) tokens) ∷ rest) (plain_later_productions roles tokens)
