-- The names of each portion are names, and its forms are forms.
use Rattle.std.proofs.Common.{◌≡◌, inl, inr, ℕ, Bool, true, false, cond, ◌||◌, IsTrue, List, [], ◌∷◌, map, take, drop, not, refl, sym, ◌∙◌, ap, subst, add-one}
use Rattle.std.specs.List.{AllByRecursion}
use Rattle.proof_lexer.specs.View.{token_view}
use Rattle.proof_lexer.specs.declared.token.Token.{Token}
use Rattle.outline_reader.specs.declared.sort.Sort.TheVariants as s
use Rattle.outline_reader.specs.declared.symbols.Role.{Role}
use Rattle.outline_reader.specs.declared.symbols.Role.TheVariants as role
use Rattle.outline_reader.specs.Sorts.{sort_of}
use Rattle.outline_reader.specs.Filled.{a_form, a_conclusion, met_in, within_portion, AreFilled}
use Rattle.outline_reader.specs.Found.{begun_by, AreFound}
use Rattle.outline_reader.specs.Fields.{same_role, productions, args, name_or, named, form_of, form_if, named_forms, head_conclusion}
use Rattle.outline_reader.specs.Plain.{PlainPortion, plain_form, plain_argument, plain_labelled, plain_input, plain_justification, plain_portion}
use Rattle.outline_reader.specs.Portions.{begins, names_category, portion_length, portion_size, call, just_by, theorem_header, step_line, inversion_head, rule_lines, category_line, portion, portions}
use Rattle.outline_reader.specs.Views.{Piece, terminals, syntax, category, judgment, rule, theorem, step, inversion, case_rule, case_term, end_line}
use Rattle.outline_reader.specs.Words.{IsName, IsUnreserved, IsFormText, ArgumentHasWords, InputHasWords, LabelledHasWords, JustificationHasWords, HasWords}
use Rattle.outline_reader.specs.Laws.{PortionsHaveWords}
use Rattle.outline_reader.proofs.AnswerLemmas.{sample_token, sample_is}
use Rattle.outline_reader.proofs.Truth.{and_right}
use Rattle.outline_reader.proofs.WritingLemmas.{writes}
use Rattle.outline_reader.proofs.FilledLemmas.{every, portions_filled}
use Rattle.outline_reader.proofs.FollowLemmas.{list_next, define_next, follows, Follow, no_true, outlined_follow}
use Rattle.outline_reader.proofs.WithinLemmas.{Following, follows_within, following_within, no_beginning, none_begins, name_within, all_formed}
use Rattle.outline_reader.proofs.EndLemmas.{IsCategory, category_begun}
use Rattle.outline_reader.proofs.FoundLemmas.{FilledList, filled_within, begun_later, fields_found}
use Rattle.outline_reader.proofs.StretchLemmas.{all_seen, if_seen}
use Rattle.outline_reader.proofs.SuitLemmas.{Suited, takes_name, takes_formed, outlined_suited}
use Rattle.outline_reader.proofs.WordLemmas.{name_is}
use Rattle.outline_reader.proofs.SaidLemmas.{SuitsAll, suits_take, NameToken, FormTokens, name_or_said, named_said, all_named_said, form_if_said, form_of_said, forms_said, premises_said, outputs_said, args_said, subject_said, inputs_said, named_forms_said, head_conclusion_said, all_unreserved, productions_said}

names_seen : (tokens : List Token) → AllByRecursion NameToken tokens → AllByRecursion IsName (map token_view tokens)
names_seen tokens h = all_seen token_view IsName tokens h

forms_seen : (forms : List (List Token)) → AllByRecursion FormTokens forms → AllByRecursion IsFormText (map plain_form forms)
forms_seen forms h = all_seen plain_form IsFormText forms h

args_seen : (roles : List Role) (tokens : List Token) → SuitsAll roles tokens → AllByRecursion ArgumentHasWords (map plain_argument (args roles tokens))
args_seen roles tokens suit = all_seen plain_argument ArgumentHasWords (args roles tokens) (args_said roles tokens suit)

-- ---- a portion whose first token is a name

module _ (first : Token) (begun : NameToken first) (roles : List Role) (tokens : List Token) (following : Following roles) (suit : SuitsAll roles tokens) where
  own_name : NameToken (name_or first role.Name roles tokens)
  unfolding takes_name
  own_name = name_or_said first role.Name roles tokens refl begun suit

  just_said : (by : Role) → JustificationHasWords (plain_justification (just_by by first roles tokens))
  unfolding takes_name
  just_said role.RuleCall = (own_name, args_seen roles tokens suit)
  just_said role.TheoremCall = (own_name, args_seen roles tokens suit)
  just_said role.HypothesisCall = args_seen roles tokens suit
  just_said role.Cases = subject_said first roles tokens begun suit
  just_said role.Induction = subject_said first roles tokens begun suit
  just_said role.Contradiction = subject_said first roles tokens begun suit
  just_said role.Weakening = own_name
  just_said role.Exchange = own_name
  just_said role.Substitution = (own_name, name_or_said first role.SecondName roles tokens refl begun suit)
  just_said role.Unproved = tt
  just_said _ = names_seen _ (all_named_said role.NameAlone roles tokens refl suit)

  header_said : (joined : Bool) → HasWords (plain_portion (theorem_header joined first roles tokens))
  unfolding takes_name
  header_said joined = (
    own_name,
    if_seen token_view IsName _ (named_said role.Assumed roles tokens refl suit),
    all_seen plain_input InputHasWords _ (inputs_said roles tokens suit),
    forms_seen _ (outputs_said roles tokens following suit),
    names_seen _ (all_named_said role.Target roles tokens refl suit),
  )

  step_said : HasWords (plain_portion (step_line first roles tokens))
  unfolding takes_name takes_formed
  step_said = (names_seen _ (all_named_said role.StepName roles tokens refl suit), forms_seen _ (forms_said role.Form roles tokens refl suit), just_said (call roles))

  rule_said : IsTrue (met_in a_form roles) → HasWords (plain_portion (rule_lines first roles tokens))
  rule_said met = (forms_seen _ (premises_said roles tokens suit), own_name, form_of_said roles tokens met suit)

  judgment_said : IsTrue (met_in a_form roles) → HasWords (plain_portion (judgment first (name_or first role.Name roles tokens) (form_of role.Form roles tokens) (named role.Assumed roles tokens)))
  unfolding takes_name
  judgment_said met = (own_name, form_of_said roles tokens met suit, if_seen token_view IsName _ (named_said role.Assumed roles tokens refl suit))

  heads : AllByRecursion LabelledHasWords (map plain_labelled (named_forms roles tokens))
  heads = all_seen plain_labelled LabelledHasWords _ (named_forms_said roles tokens following suit)

  inversion_said : IsTrue (met_in a_conclusion roles) → HasWords (plain_portion (inversion_head first roles tokens))
  inversion_said met = (subject_said first roles tokens begun suit, heads, own_name, head_conclusion_said first roles tokens met following suit)

  rule_case_said : IsTrue (met_in a_conclusion roles) →
      HasWords (plain_portion (case_rule first (named_forms roles tokens) (name_or first role.Name roles tokens) (head_conclusion first roles tokens)))
  rule_case_said met = (heads, own_name, head_conclusion_said first roles tokens met following suit)

  term_case_said : IsTrue (met_in a_form roles) → HasWords (plain_portion (case_term first (form_of role.Form roles tokens) (form_if role.AssumedForm roles tokens)))
  unfolding takes_formed
  term_case_said met = (form_of_said roles tokens met suit, if_seen plain_form IsFormText _ (form_if_said role.AssumedForm roles tokens refl suit))

-- the roles behind the second one are those of a list
abbrev FormedBehind : List Role → Type 0
FormedBehind [] = Unit {0}
FormedBehind (define ∷ roles) = AllByRecursion (λ one. takes_formed one ≡ true) roles

category_said : (begin : Role) (first : Token) (roles : List Role) (tokens : List Token) → NameToken first → FormedBehind roles → SuitsAll (begin ∷ roles) tokens →
    HasWords (plain_portion (category_line first (begin ∷ roles) tokens))
unfolding SuitsAll
category_said begin first [] tokens begun formed suit = (begun, (tt, tt))
category_said begin first (define ∷ roles) [] begun formed suit = absurd suit
category_said begin first (define ∷ roles) (one ∷ []) begun formed suit = absurd suit.1
category_said begin first (define ∷ roles) (one ∷ second ∷ tokens) begun formed suit =
    (begun, all_seen plain_form (AllByRecursion IsUnreserved) (productions roles tokens) (productions_said roles tokens (all_unreserved roles tokens formed suit.1.1)))

terminals_said : (first : Token) (roles : List Role) (tokens : List Token) → list_next roles ≡ true → Following roles → every no_beginning roles ≡ true → SuitsAll (role.TerminalsWord ∷ roles) tokens →
    HasWords (plain_portion (terminals first (drop 1 tokens)))
unfolding SuitsAll
terminals_said first roles [] next following none suit = absurd suit
terminals_said first roles (token ∷ tokens) next following none suit = all_unreserved roles tokens (all_formed roles next following none) suit.1

define_formed : (roles : List Role) → define_next roles ≡ true → Following roles → every no_beginning roles ≡ true → FormedBehind roles
unfolding define_next Following every
define_formed [] next following none = tt
define_formed (define ∷ roles) next following none =
    all_formed roles (and_right (same_role define role.Sign) (list_next roles) next) following.1 (and_right (not (begins define)) (every no_beginning roles) none)

new_formed : (roles : List Role) → names_category roles ≡ true → Following roles → every no_beginning roles ≡ true → FormedBehind roles
unfolding Following follows every
new_formed [] is_new following none = no_true is_new
new_formed (role.NewCategory ∷ roles) is_new following none = all_formed roles following.0 following.1 (and_right (not (begins role.NewCategory)) (every no_beginning roles) none)
new_formed (_ ∷ roles) is_new following none = no_true is_new

portion_said : (begin : Role) (first : Token) (roles : List Role) (tokens : List Token) → NameToken first → FilledList (begin ∷ roles) → Following (begin ∷ roles) → every no_beginning roles ≡ true →
    (begins begin ≡ false → names_category roles ≡ true) → SuitsAll (begin ∷ roles) tokens → HasWords (plain_portion (portion begin first (begin ∷ roles) tokens))
unfolding FilledList Following follows
portion_said role.TerminalsWord first roles tokens begun filled following none named suit = terminals_said first roles tokens following.0 following.1 none suit
portion_said role.SyntaxWord first roles tokens begun filled following none named suit = tt
portion_said role.CategoryName first roles tokens begun filled following none named suit =
    category_said role.CategoryName first roles tokens begun (define_formed roles following.0 following.1 none) suit
portion_said role.JudgmentWord first roles tokens begun filled following none named suit = judgment_said first begun (role.JudgmentWord ∷ roles) tokens following suit filled.0.1.0
portion_said role.RulePremise first roles tokens begun filled following none named suit = rule_said first begun (role.RulePremise ∷ roles) tokens following suit filled.0.1.0
portion_said role.RuleBar first roles tokens begun filled following none named suit = rule_said first begun (role.RuleBar ∷ roles) tokens following suit filled.0.1.0
portion_said role.AndWord first roles tokens begun filled following none named suit = header_said first begun (role.AndWord ∷ roles) tokens following suit true
portion_said role.TheoremWord first roles tokens begun filled following none named suit = header_said first begun (role.TheoremWord ∷ roles) tokens following suit false
portion_said role.StepName first roles tokens begun filled following none named suit = step_said first begun (role.StepName ∷ roles) tokens following suit
portion_said role.ProofWord first roles tokens begun filled following none named suit = step_said first begun (role.ProofWord ∷ roles) tokens following suit
portion_said role.InversionWord first roles tokens begun filled following none named suit = inversion_said first begun (role.InversionWord ∷ roles) tokens following suit filled.0.1.1.0
portion_said role.CaseWord first [] tokens begun filled following none named suit = term_case_said first begun (role.CaseWord ∷ []) tokens following suit filled.0.0
portion_said role.CaseWord first (role.RuleCase ∷ roles) tokens begun filled following none named suit =
    rule_case_said first begun (role.CaseWord ∷ role.RuleCase ∷ roles) tokens following suit filled.1.0.1.0
portion_said role.CaseWord first (next ∷ roles) tokens begun filled following none named suit = term_case_said first begun (role.CaseWord ∷ next ∷ roles) tokens following suit filled.0.0
portion_said role.EndWord first roles tokens begun filled following none named suit = tt
portion_said _ first roles tokens begun filled following none named suit = category_said _ first roles tokens begun (new_formed roles (named refl) following.1 none) suit

-- ---- the same with its own first token

words_begun : (one : Token) (piece : Piece) → HasWords (plain_portion piece) → (IsCategory piece → NameToken one) → HasWords (plain_portion (begun_by one piece))
unfolding IsCategory
words_begun one (terminals old items) words named = words
words_begun one (syntax old) words named = tt
words_begun one (category old mark productions) words named = (named tt, words.1)
words_begun one (judgment old name form assumes) words named = words
words_begun one (rule premises name conclusion) words named = words
words_begun one (theorem old true kind name assumes inputs outputs targets) words named = words
words_begun one (theorem old false kind name assumes inputs outputs targets) words named = words
words_begun one (step old names forms why) words named = words
words_begun one (inversion old subject premises name conclusion) words named = words
words_begun one (case_rule old premises name conclusion) words named = words
words_begun one (case_term old form assumes) words named = words
words_begun one (end_line old part) words named = tt

-- ---- all portions

sample : Token
sample = sample_token s.Name 0

sample_name : NameToken sample
unfolding sample
sample_name = name_is (sample_token s.Name 0) (sample_is s.Name 0)

suits_all : (roles : List Role) (tokens : List Token) → Suited roles (map sort_of tokens) → SuitsAll roles tokens
unfolding Suited SuitsAll
suits_all [] [] suit = tt
suits_all [] (token ∷ tokens) suit = suit
suits_all (one ∷ roles) [] suit = suit
suits_all (one ∷ roles) (token ∷ tokens) suit = (suit.0, suits_all roles tokens suit.2)

abbrev Words : Piece → Type 0
Words piece = HasWords (plain_portion piece)

module _ (first : Role) (roles : List Role) (token : Token) (tokens : List Token) where
  abbrev Own : Token → Piece
  Own one = portion first one (take (portion_size (first ∷ roles)) (first ∷ roles)) (take (portion_size (first ∷ roles)) (token ∷ tokens))

  own_said : (begins first || names_category roles) ≡ true → AreFilled (first ∷ roles) → Follow (first ∷ roles) → SuitsAll (first ∷ roles) (token ∷ tokens) → Words (Own sample)
  unfolding FilledList SuitsAll Follow Following
  own_said starts filled follow suit =
      subst (λ (n : ℕ). Words (portion first sample (take n (first ∷ roles)) (take n (token ∷ tokens)))) (sym (add-one (portion_length roles)))
      (portion_said first sample (within_portion roles) (token ∷ take (portion_length roles) tokens) sample_name (filled.0, filled_within roles filled.2)
      (follows_within first roles follow.0 follow.2, following_within roles follow.2) (none_begins roles)
      (λ none. name_within roles (begun_later (begins first) (names_category roles) starts none) follow.2) (suit.0, suits_take (portion_length roles) roles tokens suit.1))

  own_words : (begins first || names_category roles) ≡ true → AreFilled (first ∷ roles) → Follow (first ∷ roles) → Suited (first ∷ roles) (map sort_of (token ∷ tokens)) → AreFound (first ∷ roles) (token ∷ tokens) → Words (Own token)
  unfolding Suited takes_name
  own_words starts filled follow suit found =
      subst Words (sym (found.0 starts token sample))
      (words_begun token (Own sample) (own_said starts filled follow (suits_all (first ∷ roles) (token ∷ tokens) suit)) (λ is. elim (category_begun first sample _ _ is) [
        | inl is_category ↦ name_is token (suit.0.name (ap takes_name is_category))
        | inr none ↦ name_is token (suit.1 (begun_later (begins first) (names_category roles) starts none))
      ]))

  words_chosen : (b : Bool) → (begins first || names_category roles) ≡ b → AreFilled (first ∷ roles) → Follow (first ∷ roles) → Suited (first ∷ roles) (map sort_of (token ∷ tokens)) → AreFound (first ∷ roles) (token ∷ tokens) →
      AllByRecursion Words (portions roles tokens) → AllByRecursion Words (cond b (Own token ∷ portions roles tokens) (portions roles tokens))
  words_chosen true starts filled follow suit found below = (own_words starts filled follow suit found, below)
  words_chosen false starts filled follow suit found below = below

all_words : (roles : List Role) (tokens : List Token) → AreFilled roles → Follow roles → Suited roles (map sort_of tokens) → AreFound roles tokens → AllByRecursion Words (portions roles tokens)
unfolding Suited Follow
all_words [] tokens filled follow suit found = tt
all_words (first ∷ roles) [] filled follow suit found = tt
all_words (first ∷ roles) (token ∷ tokens) filled follow suit found =
    words_chosen first roles token tokens (begins first || names_category roles) refl filled follow suit found (all_words roles tokens filled.2 follow.2 suit.2 found.1)

pub portions_said : PortionsHaveWords
portions_said source all has =
    let roles = has.outline.0 in
    let outlined = has.outline.1 in
    subst (λ (ps : List PlainPortion). AllByRecursion HasWords ps) (sym (has.plain ∙ ap (map plain_portion) has.outline.2))
    (all_seen plain_portion HasWords (portions roles has.tokens)
    (all_words roles has.tokens (portions_filled has.tokens roles outlined)
    (subst (λ (rs : List Role). Follow rs) (sym outlined.2) (outlined_follow (writes outlined.1))) (outlined_suited has.tokens roles outlined) (fields_found has.tokens roles outlined)))
