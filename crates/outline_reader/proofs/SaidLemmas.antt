-- The fields of a portion are names and forms.
use Rattle.std.proofs.Common.{◌≡◌, ◌≢◌, inl, inr, ℕ, zero, suc, ◌+◌, ◌-◌, Bool, true, false, cond, IsTrue, List, [], ◌∷◌, length, take, Some, refl, sym, ◌∙◌, ap, subst, add-one, arith}
use Rattle.std.specs.Prelude.{IfSome}
use Rattle.std.specs.List.{AllByRecursion}
use Rattle.proof_lexer.specs.View.{token_view}
use Rattle.proof_lexer.specs.declared.token.Token.{Token}
use Rattle.outline_reader.specs.declared.symbols.Role.{Role}
use Rattle.outline_reader.specs.declared.symbols.Role.TheVariants as role
use Rattle.outline_reader.specs.Sorts.{sort_of}
use Rattle.outline_reader.specs.Fields.{same_role, more, form_here, named, name_or, form_if, form_of, named_form, input, without_last, is_premise, is_arg, arg, subject, head_conclusion, all_named, forms, premises, outputs, named_forms, inputs, args, production_length, later_productions, productions}
use Rattle.outline_reader.specs.Views.{Argument, Labelled, Input}
use Rattle.outline_reader.specs.Filled.{a_form, a_conclusion, meets, met_in}
use Rattle.outline_reader.specs.Plain.{plain_form, plain_argument, plain_labelled, plain_input}
use Rattle.outline_reader.specs.Words.{IsName, IsUnreserved, IsFormText, ArgumentHasWords, LabelledHasWords, InputHasWords}
use Rattle.outline_reader.proofs.Truth.{and_right, either, true_not_false}
use Rattle.outline_reader.proofs.FoundLemmas.{is_conclusion_role}
use Rattle.outline_reader.proofs.FollowLemmas.{first_is, label_next, follows, is_role, no_true}
use Rattle.outline_reader.proofs.WithinLemmas.{Following}
use Rattle.outline_reader.proofs.SuitLemmas.{Suits, takes_name, takes_formed}
use Rattle.outline_reader.proofs.WordLemmas.{name_is, formed_is}

-- ---- each token suits its role

unfoldable pub SuitsAll : List Role → List Token → Type 0
SuitsAll [] [] = Unit {0}
SuitsAll [] (token ∷ tokens) = ⊥
SuitsAll (one ∷ roles) [] = ⊥
SuitsAll (one ∷ roles) (token ∷ tokens) = Suits one (sort_of token) × SuitsAll roles tokens

pub suits_take : (n : ℕ) (roles : List Role) (tokens : List Token) → SuitsAll roles tokens → SuitsAll (take n roles) (take n tokens)
unfolding SuitsAll
suits_take zero roles tokens suit = tt
suits_take (suc n) [] [] suit = tt
suits_take (suc n) [] (token ∷ tokens) suit = suit
suits_take (suc n) (one ∷ roles) [] suit = suit
suits_take (suc n) (one ∷ roles) (token ∷ tokens) suit = (suit.0, suits_take n roles tokens suit.1)

-- ---- choices

chosen : {X : Type 0} (P : X → Type 0) (b : Bool) (x y : X) → (b ≡ true → P x) → (b ≡ false → P y) → P (cond b x y)
chosen P true x y first second = first refl
chosen P false x y first second = second refl

added : {X : Type 0} (P : X → Type 0) (b : Bool) (x : X) (ys : List X) → (b ≡ true → P x) → AllByRecursion P ys → AllByRecursion P (cond b (x ∷ ys) ys)
added P true x ys first rest = (first refl, rest)
added P false x ys first rest = rest

-- ---- tokens

abbrev pub NameToken : Token → Type 0
NameToken token = IsName (token_view token)

abbrev pub FormTokens : List Token → Type 0
FormTokens form = IsFormText (plain_form form)

abbrev pub Unreserved : List Token → Type 0
Unreserved form = AllByRecursion IsUnreserved (plain_form form)

name_token : (one wanted : Role) (token : Token) → takes_name wanted ≡ true → Suits one (sort_of token) → same_role one wanted ≡ true → NameToken token
name_token one wanted token asked suit same = name_is token (suit.name (ap takes_name (is_role one wanted same) ∙ asked))

more_unreserved : (roles : List Role) (tokens : List Token) → SuitsAll roles tokens → Unreserved (take (more roles) tokens)
unfolding SuitsAll takes_formed
more_unreserved [] tokens suit = tt
more_unreserved (one ∷ roles) [] suit = absurd suit
more_unreserved (role.More ∷ roles) (token ∷ tokens) suit =
    subst (λ n. Unreserved (take n (token ∷ tokens))) (sym (add-one (more roles))) (formed_is token (suit.0.formed refl), more_unreserved roles tokens suit.1)
more_unreserved (one ∷ roles) (token ∷ tokens) suit = tt

here_said : (one : Role) (roles : List Role) (token : Token) (tokens : List Token) → takes_formed one ≡ true → SuitsAll (one ∷ roles) (token ∷ tokens) → FormTokens (form_here (one ∷ roles) (token ∷ tokens))
unfolding SuitsAll
here_said one roles token tokens asked suit =
    subst (λ n. FormTokens (take n (token ∷ tokens))) (sym (add-one (more roles)))
    (record { some = λ e. (let never : token_view token ∷ plain_form (take (more roles) tokens) ≡ [] = e in cc); unreserved = (formed_is token (suit.0.formed asked), more_unreserved roles tokens suit.1) })

formed_as : (one wanted : Role) → takes_formed wanted ≡ true → same_role one wanted ≡ true → takes_formed one ≡ true
formed_as one wanted asked same = ap takes_formed (is_role one wanted same) ∙ asked

-- ---- names

pub name_or_said : (first : Token) (wanted : Role) (roles : List Role) (tokens : List Token) → takes_name wanted ≡ true → NameToken first → SuitsAll roles tokens → NameToken (name_or first wanted roles tokens)
unfolding SuitsAll
name_or_said first wanted [] tokens asked begun suit = begun
name_or_said first wanted (one ∷ roles) [] asked begun suit = begun
name_or_said first wanted (one ∷ roles) (token ∷ tokens) asked begun suit =
    chosen NameToken (same_role one wanted) token (name_or first wanted roles tokens) (λ same. name_token one wanted token asked suit.0 same)
    (λ differs. name_or_said first wanted roles tokens asked begun suit.1)

pub named_said : (wanted : Role) (roles : List Role) (tokens : List Token) → takes_name wanted ≡ true → SuitsAll roles tokens → IfSome (named wanted roles tokens) NameToken
unfolding SuitsAll
named_said wanted [] tokens asked suit = tt
named_said wanted (one ∷ roles) [] asked suit = tt
named_said wanted (one ∷ roles) (token ∷ tokens) asked suit =
    chosen (λ found. IfSome found NameToken) (same_role one wanted) (Some token) (named wanted roles tokens) (λ same. name_token one wanted token asked suit.0 same)
    (λ differs. named_said wanted roles tokens asked suit.1)

pub all_named_said : (wanted : Role) (roles : List Role) (tokens : List Token) → takes_name wanted ≡ true → SuitsAll roles tokens → AllByRecursion NameToken (all_named wanted roles tokens)
unfolding SuitsAll
all_named_said wanted [] tokens asked suit = tt
all_named_said wanted (one ∷ roles) [] asked suit = tt
all_named_said wanted (one ∷ roles) (token ∷ tokens) asked suit =
    added NameToken (same_role one wanted) token (all_named wanted roles tokens) (λ same. name_token one wanted token asked suit.0 same) (all_named_said wanted roles tokens asked suit.1)

-- ---- forms

pub form_if_said : (wanted : Role) (roles : List Role) (tokens : List Token) → takes_formed wanted ≡ true → SuitsAll roles tokens → IfSome (form_if wanted roles tokens) FormTokens
unfolding SuitsAll
form_if_said wanted [] tokens asked suit = tt
form_if_said wanted (one ∷ roles) [] asked suit = tt
form_if_said wanted (one ∷ roles) (token ∷ tokens) asked suit =
    chosen (λ found. IfSome found FormTokens) (same_role one wanted) (Some (form_here (one ∷ roles) (token ∷ tokens))) (form_if wanted roles tokens)
    (λ same. here_said one roles token tokens (formed_as one wanted asked same) suit) (λ differs. form_if_said wanted roles tokens asked suit.1)

is_form_role : (one : Role) → meets a_form one ≡ true → same_role one role.Form ≡ true
is_form_role role.Form h = refl
is_form_role _ h = absurd (let no : false ≡ true = h in cc)

pub form_of_said : (roles : List Role) (tokens : List Token) → IsTrue (met_in a_form roles) → SuitsAll roles tokens → FormTokens (form_of role.Form roles tokens)
unfolding SuitsAll takes_formed
form_of_said [] tokens met suit = absurd (let no : false ≡ true = met in cc)
form_of_said (one ∷ roles) [] met suit = absurd suit
form_of_said (one ∷ roles) (token ∷ tokens) met suit =
    chosen FormTokens (same_role one role.Form) (form_here (one ∷ roles) (token ∷ tokens)) (form_of role.Form roles tokens)
    (λ same. here_said one roles token tokens (formed_as one role.Form refl same) suit)
    (λ differs. elim (either (meets a_form one) (met_in a_form roles) met) [
      | inl here ↦ true_not_false (same_role one role.Form) (is_form_role one here) differs
      | inr later ↦ form_of_said roles tokens later suit.1
    ])

pub forms_said : (wanted : Role) (roles : List Role) (tokens : List Token) → takes_formed wanted ≡ true → SuitsAll roles tokens → AllByRecursion FormTokens (forms wanted roles tokens)
unfolding SuitsAll
forms_said wanted [] tokens asked suit = tt
forms_said wanted (one ∷ roles) [] asked suit = tt
forms_said wanted (one ∷ roles) (token ∷ tokens) asked suit =
    added FormTokens (same_role one wanted) (form_here (one ∷ roles) (token ∷ tokens)) (forms wanted roles tokens)
    (λ same. here_said one roles token tokens (formed_as one wanted asked same) suit) (forms_said wanted roles tokens asked suit.1)

premise_formed : (one : Role) → is_premise one ≡ true → takes_formed one ≡ true
unfolding takes_formed
premise_formed role.RulePremise h = refl
premise_formed role.Premise h = refl
premise_formed _ h = absurd (let no : false ≡ true = h in cc)

pub premises_said : (roles : List Role) (tokens : List Token) → SuitsAll roles tokens → AllByRecursion FormTokens (premises roles tokens)
unfolding SuitsAll
premises_said [] tokens suit = tt
premises_said (one ∷ roles) [] suit = tt
premises_said (one ∷ roles) (token ∷ tokens) suit =
    added FormTokens (is_premise one) (form_here (one ∷ roles) (token ∷ tokens)) (premises roles tokens)
    (λ is. here_said one roles token tokens (premise_formed one is) suit) (premises_said roles tokens suit.1)

unreserved_front : (n : ℕ) (form : List Token) → Unreserved form → Unreserved (take n form)
unreserved_front zero form h = tt
unreserved_front (suc n) [] h = tt
unreserved_front (suc n) (token ∷ form) h = (h.0, unreserved_front n form h.1)

-- a form of two tokens or more has one without its last
one_left : (first second : Token) (tokens : List Token) → plain_form (without_last (first ∷ second ∷ tokens)) ≢ []
one_left first second tokens =
    let count : length (first ∷ second ∷ tokens) - 1 ≡ suc (length tokens) = omega arith in
    subst (λ n. plain_form (take n (first ∷ second ∷ tokens)) ≢ []) (sym count) (λ e. (let never : token_view first ∷ plain_form (take (length tokens) (second ∷ tokens)) ≡ [] = e in cc))

more_left : (one : Role) (roles : List Role) (first second : Token) (tokens : List Token) → same_role one role.More ≡ true →
    plain_form (without_last (take (more (one ∷ roles) + 1) (first ∷ second ∷ tokens))) ≢ []
more_left one roles first second tokens same =
    let count : more (one ∷ roles) + 1 ≡ suc (suc (more roles)) = ap (λ r. more (r ∷ roles) + 1) (is_role one role.More same) ∙ omega arith in
    subst (λ n. plain_form (without_last (take n (first ∷ second ∷ tokens))) ≢ []) (sym count) (one_left first second (take (more roles) tokens))

output_said : (roles : List Role) (token : Token) (tokens : List Token) → first_is role.More roles ≡ true → SuitsAll roles tokens → FormTokens (form_here (role.Output ∷ roles) (token ∷ tokens)) →
    FormTokens (without_last (form_here (role.Output ∷ roles) (token ∷ tokens)))
unfolding SuitsAll first_is
output_said [] token tokens goes_on suit form = no_true goes_on
output_said (one ∷ roles) token [] goes_on suit form = absurd suit
output_said (one ∷ roles) token (next ∷ tokens) goes_on suit form = record {
  some = more_left one roles token next tokens goes_on;
  unreserved = unreserved_front _ (form_here (role.Output ∷ one ∷ roles) (token ∷ next ∷ tokens)) form.unreserved;
}

pub outputs_said : (roles : List Role) (tokens : List Token) → Following roles → SuitsAll roles tokens → AllByRecursion FormTokens (outputs roles tokens)
unfolding SuitsAll takes_formed Following follows
outputs_said [] tokens following suit = tt
outputs_said (one ∷ roles) [] following suit = tt
outputs_said (one ∷ roles) (token ∷ tokens) following suit =
    added FormTokens (same_role one role.Output) (without_last (form_here (one ∷ roles) (token ∷ tokens))) (outputs roles tokens)
    (λ same. output_said roles token tokens (ap (λ r. follows r roles) (sym (is_role one role.Output same)) ∙ following.0) suit.1
    (here_said one roles token tokens (formed_as one role.Output refl same) suit))
    (outputs_said roles tokens following.1 suit.1)

-- ---- arguments, inputs and heads

abbrev pub ArgumentWords : Argument → Type 0
ArgumentWords argument = ArgumentHasWords (plain_argument argument)

abbrev pub InputWords : Input → Type 0
InputWords one = InputHasWords (plain_input one)

abbrev pub LabelledWords : Labelled → Type 0
LabelledWords labelled = LabelledHasWords (plain_labelled labelled)

arg_said : (one : Role) (roles : List Role) (token : Token) (tokens : List Token) → is_arg one ≡ true → SuitsAll (one ∷ roles) (token ∷ tokens) → ArgumentWords (arg token (one ∷ roles) (token ∷ tokens))
unfolding SuitsAll takes_name takes_formed
arg_said role.ArgForm roles token tokens is suit = here_said role.ArgForm roles token tokens refl suit
arg_said role.ArgName roles token tokens is suit = name_is token (suit.0.name refl)
arg_said _ roles token tokens is suit = absurd (let no : false ≡ true = is in cc)

pub args_said : (roles : List Role) (tokens : List Token) → SuitsAll roles tokens → AllByRecursion ArgumentWords (args roles tokens)
unfolding SuitsAll
args_said [] tokens suit = tt
args_said (one ∷ roles) [] suit = tt
args_said (one ∷ roles) (token ∷ tokens) suit =
    added ArgumentWords (is_arg one) (arg token (one ∷ roles) (token ∷ tokens)) (args roles tokens) (λ is. arg_said one roles token tokens is suit) (args_said roles tokens suit.1)

pub subject_said : (first : Token) (roles : List Role) (tokens : List Token) → NameToken first → SuitsAll roles tokens → ArgumentWords (subject first roles tokens)
unfolding SuitsAll
subject_said first [] tokens begun suit = begun
subject_said first (one ∷ roles) [] begun suit = begun
subject_said first (one ∷ roles) (token ∷ tokens) begun suit =
    chosen ArgumentWords (is_arg one) (arg token (one ∷ roles) (token ∷ tokens)) (subject first roles tokens) (λ is. arg_said one roles token tokens is suit)
    (λ differs. subject_said first roles tokens begun suit.1)

input_said : (name : Token) (roles : List Role) (tokens : List Token) → NameToken name → SuitsAll roles tokens → InputWords (input name roles tokens)
unfolding SuitsAll takes_formed
input_said name [] tokens begun suit = begun
input_said name (colon ∷ []) tokens begun suit = begun
input_said name (colon ∷ role.Form ∷ roles) [] begun suit = absurd suit
input_said name (colon ∷ role.Form ∷ roles) (token ∷ []) begun suit = absurd suit.1
input_said name (colon ∷ role.Form ∷ roles) (token ∷ next ∷ tokens) begun suit = (begun, here_said role.Form roles next tokens refl suit.1)
input_said name (colon ∷ one ∷ roles) tokens begun suit = begun

pub inputs_said : (roles : List Role) (tokens : List Token) → SuitsAll roles tokens → AllByRecursion InputWords (inputs roles tokens)
unfolding SuitsAll takes_name
inputs_said [] tokens suit = tt
inputs_said (one ∷ roles) [] suit = tt
inputs_said (one ∷ roles) (token ∷ tokens) suit =
    added InputWords (same_role one role.InputName) (input token roles tokens) (inputs roles tokens)
    (λ same. input_said token roles tokens (name_token one role.InputName token refl suit.0 same) suit.1) (inputs_said roles tokens suit.1)

labelled_said : (name : Token) (roles : List Role) (tokens : List Token) → NameToken name → label_next roles ≡ true → SuitsAll roles tokens → LabelledWords (named_form name roles tokens)
unfolding SuitsAll label_next first_is takes_formed
labelled_said name [] tokens begun goes_on suit = no_true goes_on
labelled_said name (mark ∷ []) tokens begun goes_on suit = no_true (and_right (same_role mark role.Sign) false goes_on)
labelled_said name (mark ∷ one ∷ roles) [] begun goes_on suit = absurd suit
labelled_said name (mark ∷ one ∷ roles) (token ∷ []) begun goes_on suit = absurd suit.1
labelled_said name (mark ∷ one ∷ roles) (token ∷ next ∷ tokens) begun goes_on suit =
    (begun, here_said one roles next tokens (formed_as one role.Form refl (and_right (same_role mark role.Sign) (same_role one role.Form) goes_on)) suit.1)

pub named_forms_said : (roles : List Role) (tokens : List Token) → Following roles → SuitsAll roles tokens → AllByRecursion LabelledWords (named_forms roles tokens)
unfolding SuitsAll takes_name Following follows
named_forms_said [] tokens following suit = tt
named_forms_said (one ∷ roles) [] following suit = tt
named_forms_said (one ∷ roles) (token ∷ tokens) following suit =
    added LabelledWords (same_role one role.HeadName) (named_form token roles tokens) (named_forms roles tokens)
    (λ same. labelled_said token roles tokens (name_token one role.HeadName token refl suit.0 same) (ap (λ r. follows r roles) (sym (is_role one role.HeadName same)) ∙ following.0) suit.1)
    (named_forms_said roles tokens following.1 suit.1)

pub head_conclusion_said : (first : Token) (roles : List Role) (tokens : List Token) → IsTrue (met_in a_conclusion roles) → Following roles → SuitsAll roles tokens → LabelledWords (head_conclusion first roles tokens)
unfolding SuitsAll takes_name Following follows
head_conclusion_said first [] tokens met following suit = no_true met
head_conclusion_said first (one ∷ roles) [] met following suit = absurd suit
head_conclusion_said first (one ∷ roles) (token ∷ tokens) met following suit =
    chosen LabelledWords (same_role one role.HeadConclusion) (named_form token roles tokens) (head_conclusion first roles tokens)
    (λ same. labelled_said token roles tokens (name_token one role.HeadConclusion token refl suit.0 same) (ap (λ r. follows r roles) (sym (is_role one role.HeadConclusion same)) ∙ following.0) suit.1)
    (λ differs. elim (either (meets a_conclusion one) (met_in a_conclusion roles) met) [
      | inl here ↦ true_not_false (same_role one role.HeadConclusion) (is_conclusion_role one here) differs
      | inr later ↦ head_conclusion_said first roles tokens later following.1 suit.1
    ])

-- ---- lists of terminals and productions

pub all_unreserved : (roles : List Role) (tokens : List Token) → AllByRecursion (λ one. takes_formed one ≡ true) roles → SuitsAll roles tokens → Unreserved tokens
unfolding SuitsAll
all_unreserved [] [] formed suit = tt
all_unreserved [] (token ∷ tokens) formed suit = absurd suit
all_unreserved (one ∷ roles) [] formed suit = absurd suit
all_unreserved (one ∷ roles) (token ∷ tokens) formed suit = (formed_is token (suit.0.formed formed.0), all_unreserved roles tokens formed.1 suit.1)

later_said : (roles : List Role) (tokens : List Token) → Unreserved tokens → AllByRecursion Unreserved (later_productions roles tokens)
later_said [] tokens h = tt
later_said (one ∷ roles) [] h = tt
later_said (one ∷ roles) (token ∷ tokens) h =
    added Unreserved (same_role one role.Or) (take (production_length roles) tokens) (later_productions roles tokens) (λ same. unreserved_front (production_length roles) tokens h.1) (later_said roles tokens h.1)

pub productions_said : (roles : List Role) (tokens : List Token) → Unreserved tokens → AllByRecursion Unreserved (productions roles tokens)
productions_said roles tokens h = (unreserved_front (production_length roles) tokens h, later_said roles tokens h)
