-- The tokens of a portion stand among those from which it is made.
use Rattle.std.proofs.Common.{ℕ, zero, suc, ◌+◌, ◌-◌, Bool, true, false, cond, List, [], ◌∷◌, ◌++◌, length, map, take, drop, Option, Some, None, option_map, refl, sym, ◌∙◌, ap, append_assoc}
use Rattle.std.specs.Prelude.{IfSome}
use Rattle.std.specs.List.{AllByRecursion}
use Rattle.std.proofs.lemmas.List.{take-append-drop, map-append}
use Rattle.binding_terms.proofs.Lists.{all_mapped}
use Rattle.sy_base.specs.Tokens.{PlainToken}
use Rattle.proof_lexer.specs.View.{token_view}
use Rattle.proof_lexer.specs.declared.token.Token.{Token}
use Rattle.outline_reader.specs.declared.symbols.Role.{Role}
use Rattle.outline_reader.specs.declared.symbols.Role.TheVariants as role
use Rattle.outline_reader.specs.Views.{Argument, Labelled, Input}
use Rattle.outline_reader.specs.Fields.{same_role, more, form_here, named, name_or, form_if, form_of, named_form, input, without_last, is_premise, is_arg, arg, subject, head_conclusion, all_named, forms, premises, outputs, named_forms, inputs, args, production_length, later_productions, productions}
use Rattle.outline_reader.specs.Plain.{plain_form, plain_argument, plain_labelled, plain_input}
use Rattle.outline_reader.specs.Stretches.{Holds, HoldsToken, HoldsArgument, HoldsLabelled, HoldsInput}

-- ---- parts of tokens

pub holds_first : (one : PlainToken) (tokens : List PlainToken) → HoldsToken (one ∷ tokens) one
holds_first one tokens = record { front = []; rest = tokens; split = refl }

pub holds_nothing : (tokens : List PlainToken) → Holds tokens []
holds_nothing tokens = record { front = []; rest = tokens; split = refl }

pub holds_more : (one : PlainToken) (tokens part : List PlainToken) → Holds tokens part → Holds (one ∷ tokens) part
holds_more one tokens part h = record { front = one ∷ h.front; rest = h.rest; split = ap (λ ts. one ∷ ts) h.split }

holds_take : (n : ℕ) (tokens : List Token) → Holds (plain_form tokens) (plain_form (take n tokens))
holds_take n tokens = record {
  front = [];
  rest = plain_form (drop n tokens);
  split = ap plain_form (sym (take-append-drop n tokens)) ∙ map-append token_view (take n tokens) (drop n tokens);
}

holds_behind : (n : ℕ) (tokens : List Token) (part : List PlainToken) → Holds (plain_form (drop n tokens)) part → Holds (plain_form tokens) part
holds_behind zero tokens part h = h
holds_behind (suc n) [] part h = h
holds_behind (suc n) (token ∷ tokens) part h = holds_more (token_view token) (plain_form tokens) part (holds_behind n tokens part h)

-- a part of a part
pub holds_within : (tokens part inner : List PlainToken) → Holds tokens part → Holds part inner → Holds tokens inner
holds_within tokens part inner outer h = record {
  front = outer.front ++ h.front;
  rest = h.rest ++ outer.rest;
  split = outer.split
      ∙ ap (λ (ts : List PlainToken). outer.front ++ (ts ++ outer.rest)) h.split
      ∙ ap (λ (ts : List PlainToken). outer.front ++ ts) (append_assoc h.front (inner ++ h.rest) outer.rest ∙ ap (λ (ts : List PlainToken). h.front ++ ts) (append_assoc inner h.rest outer.rest))
      ∙ sym (append_assoc outer.front h.front (inner ++ (h.rest ++ outer.rest)));
}

-- whatever stands among the lent tokens stands among the plain ones
abbrev pub Within : List PlainToken → List Token → Type 0
Within all tokens = (part : List PlainToken) → Holds (plain_form tokens) part → Holds all part

tail_within : (all : List PlainToken) (token : Token) (tokens : List Token) → Within all (token ∷ tokens) → Within all tokens
tail_within all token tokens inside part h = inside part (holds_more (token_view token) (plain_form tokens) part h)

pub behind_within : (all : List PlainToken) (n : ℕ) (tokens : List Token) → Within all tokens → Within all (drop n tokens)
behind_within all n tokens inside part h = inside part (holds_behind n tokens part h)

form_within : (all : List PlainToken) (form : List Token) → Holds all (plain_form form) → Within all form
form_within all form outer part h = holds_within all (plain_form form) part outer h

head_within : (all : List PlainToken) (token : Token) (tokens : List Token) → Within all (token ∷ tokens) → HoldsToken all (token_view token)
head_within all token tokens inside = inside (token_view token ∷ []) (holds_first (token_view token) (plain_form tokens))

-- ---- choices and lists

chosen : {X : Type 0} (P : X → Type 0) (b : Bool) (x y : X) → P x → P y → P (cond b x y)
chosen P true x y first second = first
chosen P false x y first second = second

added : {X : Type 0} (P : X → Type 0) (b : Bool) (x : X) (ys : List X) → P x → AllByRecursion P ys → AllByRecursion P (cond b (x ∷ ys) ys)
added P true x ys first rest = (first, rest)
added P false x ys first rest = rest

pub all_seen : {X Y : Type 0} (view : X → Y) (P : Y → Type 0) (xs : List X) → AllByRecursion (λ x. P (view x)) xs → AllByRecursion P (map view xs)
all_seen view P xs all = all_mapped view (λ x. P (view x)) P xs (λ x held. held) all

pub if_seen : {X Y : Type 0} (view : X → Y) (P : Y → Type 0) (x : Option X) → IfSome x (λ x. P (view x)) → IfSome (option_map view x) P
if_seen view P None h = tt
if_seen view P (Some x) h = h

-- ---- fields

module _ (all : List PlainToken) where
  abbrev pub HeldToken : Token → Type 0
  HeldToken token = HoldsToken all (token_view token)

  abbrev pub HeldForm : List Token → Type 0
  HeldForm form = Holds all (plain_form form)

  abbrev pub HeldArgument : Argument → Type 0
  HeldArgument argument = HoldsArgument all (plain_argument argument)

  abbrev pub HeldLabelled : Labelled → Type 0
  HeldLabelled labelled = HoldsLabelled all (plain_labelled labelled)

  abbrev pub HeldInput : Input → Type 0
  HeldInput one = HoldsInput all (plain_input one)

  form_here_held : (roles : List Role) (tokens : List Token) → Within all tokens → HeldForm (form_here roles tokens)
  form_here_held [] tokens inside = inside [] (holds_nothing (plain_form tokens))
  form_here_held (role ∷ roles) tokens inside = inside _ (holds_take (more roles + 1) tokens)

  pub named_held : (role : Role) (roles : List Role) (tokens : List Token) → Within all tokens → IfSome (named role roles tokens) HeldToken
  named_held role [] tokens inside = tt
  named_held role (other ∷ roles) [] inside = tt
  named_held role (other ∷ roles) (token ∷ tokens) inside =
      chosen (λ found. IfSome found HeldToken) (same_role other role) (Some token) (named role roles tokens) (head_within all token tokens inside)
      (named_held role roles tokens (tail_within all token tokens inside))

  pub name_or_held : (first : Token) (role : Role) (roles : List Role) (tokens : List Token) → HeldToken first → Within all tokens → HeldToken (name_or first role roles tokens)
  name_or_held first role [] tokens begun inside = begun
  name_or_held first role (other ∷ roles) [] begun inside = begun
  name_or_held first role (other ∷ roles) (token ∷ tokens) begun inside =
      chosen HeldToken (same_role other role) token (name_or first role roles tokens) (head_within all token tokens inside)
      (name_or_held first role roles tokens begun (tail_within all token tokens inside))

  pub form_if_held : (role : Role) (roles : List Role) (tokens : List Token) → Within all tokens → IfSome (form_if role roles tokens) HeldForm
  form_if_held role [] tokens inside = tt
  form_if_held role (other ∷ roles) [] inside = tt
  form_if_held role (other ∷ roles) (token ∷ tokens) inside =
      chosen (λ found. IfSome found HeldForm) (same_role other role) (Some (form_here (other ∷ roles) (token ∷ tokens))) (form_if role roles tokens)
      (form_here_held (other ∷ roles) (token ∷ tokens) inside) (form_if_held role roles tokens (tail_within all token tokens inside))

  pub form_of_held : (role : Role) (roles : List Role) (tokens : List Token) → Within all tokens → HeldForm (form_of role roles tokens)
  form_of_held role [] tokens inside = inside [] (holds_nothing (plain_form tokens))
  form_of_held role (other ∷ roles) [] inside = inside [] (holds_nothing [])
  form_of_held role (other ∷ roles) (token ∷ tokens) inside =
      chosen HeldForm (same_role other role) (form_here (other ∷ roles) (token ∷ tokens)) (form_of role roles tokens)
      (form_here_held (other ∷ roles) (token ∷ tokens) inside) (form_of_held role roles tokens (tail_within all token tokens inside))

  named_form_held : (name : Token) (roles : List Role) (tokens : List Token) → HeldToken name → Within all tokens → HeldLabelled (named_form name roles tokens)
  named_form_held name [] tokens begun inside = (begun, inside [] (holds_nothing (plain_form tokens)))
  named_form_held name (colon ∷ roles) tokens begun inside = (begun, form_here_held roles (drop 1 tokens) (behind_within all 1 tokens inside))

  input_held : (name : Token) (roles : List Role) (tokens : List Token) → HeldToken name → Within all tokens → HeldInput (input name roles tokens)
  input_held name [] tokens begun inside = begun
  input_held name (colon ∷ []) tokens begun inside = begun
  input_held name (colon ∷ role.Form ∷ roles) tokens begun inside = named_form_held name (colon ∷ role.Form ∷ roles) tokens begun inside
  input_held name (colon ∷ other ∷ roles) tokens begun inside = begun

  arg_held : (token : Token) (roles : List Role) (tokens : List Token) → HeldToken token → Within all tokens → HeldArgument (arg token roles tokens)
  arg_held token [] tokens begun inside = begun
  arg_held token (role.ArgForm ∷ roles) tokens begun inside = form_here_held (role.ArgForm ∷ roles) tokens inside
  arg_held token (other ∷ roles) tokens begun inside = begun

  pub subject_held : (first : Token) (roles : List Role) (tokens : List Token) → HeldToken first → Within all tokens → HeldArgument (subject first roles tokens)
  subject_held first [] tokens begun inside = begun
  subject_held first (other ∷ roles) [] begun inside = begun
  subject_held first (other ∷ roles) (token ∷ tokens) begun inside =
      chosen HeldArgument (is_arg other) (arg token (other ∷ roles) (token ∷ tokens)) (subject first roles tokens)
      (arg_held token (other ∷ roles) (token ∷ tokens) (head_within all token tokens inside) inside) (subject_held first roles tokens begun (tail_within all token tokens inside))

  pub head_conclusion_held : (first : Token) (roles : List Role) (tokens : List Token) → HeldToken first → Within all tokens → HeldLabelled (head_conclusion first roles tokens)
  head_conclusion_held first [] tokens begun inside = (begun, inside [] (holds_nothing (plain_form tokens)))
  head_conclusion_held first (other ∷ roles) [] begun inside = (begun, inside [] (holds_nothing []))
  head_conclusion_held first (other ∷ roles) (token ∷ tokens) begun inside =
      chosen HeldLabelled (same_role other role.HeadConclusion) (named_form token roles tokens) (head_conclusion first roles tokens)
      (named_form_held token roles tokens (head_within all token tokens inside) (tail_within all token tokens inside))
      (head_conclusion_held first roles tokens begun (tail_within all token tokens inside))

  pub all_named_held : (role : Role) (roles : List Role) (tokens : List Token) → Within all tokens → AllByRecursion HeldToken (all_named role roles tokens)
  all_named_held role [] tokens inside = tt
  all_named_held role (other ∷ roles) [] inside = tt
  all_named_held role (other ∷ roles) (token ∷ tokens) inside =
      added HeldToken (same_role other role) token (all_named role roles tokens) (head_within all token tokens inside)
      (all_named_held role roles tokens (tail_within all token tokens inside))

  pub forms_held : (role : Role) (roles : List Role) (tokens : List Token) → Within all tokens → AllByRecursion HeldForm (forms role roles tokens)
  forms_held role [] tokens inside = tt
  forms_held role (other ∷ roles) [] inside = tt
  forms_held role (other ∷ roles) (token ∷ tokens) inside =
      added HeldForm (same_role other role) (form_here (other ∷ roles) (token ∷ tokens)) (forms role roles tokens)
      (form_here_held (other ∷ roles) (token ∷ tokens) inside) (forms_held role roles tokens (tail_within all token tokens inside))

  pub premises_held : (roles : List Role) (tokens : List Token) → Within all tokens → AllByRecursion HeldForm (premises roles tokens)
  premises_held [] tokens inside = tt
  premises_held (other ∷ roles) [] inside = tt
  premises_held (other ∷ roles) (token ∷ tokens) inside =
      added HeldForm (is_premise other) (form_here (other ∷ roles) (token ∷ tokens)) (premises roles tokens)
      (form_here_held (other ∷ roles) (token ∷ tokens) inside) (premises_held roles tokens (tail_within all token tokens inside))

  without_last_held : (form : List Token) → HeldForm form → HeldForm (without_last form)
  without_last_held form held = form_within all form held _ (holds_take (length form - 1) form)

  pub outputs_held : (roles : List Role) (tokens : List Token) → Within all tokens → AllByRecursion HeldForm (outputs roles tokens)
  outputs_held [] tokens inside = tt
  outputs_held (other ∷ roles) [] inside = tt
  outputs_held (other ∷ roles) (token ∷ tokens) inside =
      added HeldForm (same_role other role.Output) (without_last (form_here (other ∷ roles) (token ∷ tokens))) (outputs roles tokens)
      (without_last_held (form_here (other ∷ roles) (token ∷ tokens)) (form_here_held (other ∷ roles) (token ∷ tokens) inside))
      (outputs_held roles tokens (tail_within all token tokens inside))

  pub named_forms_held : (roles : List Role) (tokens : List Token) → Within all tokens → AllByRecursion HeldLabelled (named_forms roles tokens)
  named_forms_held [] tokens inside = tt
  named_forms_held (other ∷ roles) [] inside = tt
  named_forms_held (other ∷ roles) (token ∷ tokens) inside =
      added HeldLabelled (same_role other role.HeadName) (named_form token roles tokens) (named_forms roles tokens)
      (named_form_held token roles tokens (head_within all token tokens inside) (tail_within all token tokens inside))
      (named_forms_held roles tokens (tail_within all token tokens inside))

  pub inputs_held : (roles : List Role) (tokens : List Token) → Within all tokens → AllByRecursion HeldInput (inputs roles tokens)
  inputs_held [] tokens inside = tt
  inputs_held (other ∷ roles) [] inside = tt
  inputs_held (other ∷ roles) (token ∷ tokens) inside =
      added HeldInput (same_role other role.InputName) (input token roles tokens) (inputs roles tokens)
      (input_held token roles tokens (head_within all token tokens inside) (tail_within all token tokens inside))
      (inputs_held roles tokens (tail_within all token tokens inside))

  pub args_held : (roles : List Role) (tokens : List Token) → Within all tokens → AllByRecursion HeldArgument (args roles tokens)
  args_held [] tokens inside = tt
  args_held (other ∷ roles) [] inside = tt
  args_held (other ∷ roles) (token ∷ tokens) inside =
      added HeldArgument (is_arg other) (arg token (other ∷ roles) (token ∷ tokens)) (args roles tokens)
      (arg_held token (other ∷ roles) (token ∷ tokens) (head_within all token tokens inside) inside) (args_held roles tokens (tail_within all token tokens inside))

  later_held : (roles : List Role) (tokens : List Token) → Within all tokens → AllByRecursion HeldForm (later_productions roles tokens)
  later_held [] tokens inside = tt
  later_held (other ∷ roles) [] inside = tt
  later_held (other ∷ roles) (token ∷ tokens) inside =
      added HeldForm (same_role other role.Or) (take (production_length roles) tokens) (later_productions roles tokens)
      (tail_within all token tokens inside _ (holds_take (production_length roles) tokens)) (later_held roles tokens (tail_within all token tokens inside))

  pub productions_held : (roles : List Role) (tokens : List Token) → Within all tokens → AllByRecursion HeldForm (productions roles tokens)
  productions_held roles tokens inside = (inside _ (holds_take (production_length roles) tokens), later_held roles tokens inside)
