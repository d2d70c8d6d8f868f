-- Each portion stands in the stretch of tokens from which it is made, and the stretches follow one another.
use Rattle.std.proofs.Common.{◌≡◌, ℕ, suc, ◌+◌, Bool, true, false, cond, ◌||◌, if◌then◌else◌, List, [], ◌∷◌, length, map, take, drop, Option, Some, None, option_map, suc, arith, refl, sym, ◌∙◌, ap, subst, add-one}
use Rattle.std.specs.List.{AllByRecursion}
use Rattle.std.proofs.lemmas.List.{append-nil, take-append-drop, map-append, length-map}
use Rattle.sy_base.specs.Tokens.{PlainToken}
use Rattle.proof_lexer.specs.View.{token_view}
use Rattle.proof_lexer.specs.declared.token.Token.{Token}
use Rattle.proof_lexer.proofs.UniqueLemmas.{tokens_unique}
use Rattle.outline_reader.specs.declared.machine.Awaited.{Awaited}
use Rattle.outline_reader.specs.declared.machine.Seen.{Seen}
use Rattle.outline_reader.specs.declared.symbols.Role.{Role}
use Rattle.outline_reader.specs.declared.symbols.Role.TheVariants as role
use Rattle.outline_reader.specs.Derives.{Mark, seen_after, here, token as one_derived, alternative, left_out, Derives}
use Rattle.outline_reader.specs.Outline.{IsOutlined}
use Rattle.outline_reader.specs.Fields.{args, form_of, form_if, named_forms, productions}
use Rattle.outline_reader.specs.Plain.{PlainPortion, case_term, plain_form, plain_argument, plain_labelled, plain_input, plain_justification, plain_portion}
use Rattle.outline_reader.specs.Portions.{begins, names_category, portion_length, portion_size, call, just_by, theorem_header, step_line, case_head, rule_lines, second_or, category_line, portion, portions}
use Rattle.outline_reader.specs.Stretches.{Holds, HoldsToken, HoldsArgument, HoldsLabelled, HoldsInput, HoldsJustification, HoldsPortion, BeginsWith, AreStretches, none, next}
use Rattle.outline_reader.specs.Laws.{PortionsAreStretches}
use Rattle.outline_reader.proofs.StretchLemmas.{Within, behind_within, all_seen, if_seen, HeldToken, HeldForm, holds_first, holds_nothing, named_held, name_or_held, form_if_held, form_of_held, subject_held, head_conclusion_held, all_named_held, forms_held, premises_held, outputs_held, named_forms_held, inputs_held, args_held, productions_held}
use Rattle.outline_reader.specs.declared.symbols.Phrase.{Phrase}
use Rattle.outline_reader.specs.declared.symbols.Phrase.TheVariants as p
use Rattle.outline_reader.specs.declared.symbols.Symbol.{Symbol}
use Rattle.outline_reader.specs.declared.symbols.Symbol.TheVariants.{Choice}
use Rattle.outline_reader.specs.Grammar.{Alternative, alternatives}
use Rattle.outline_reader.specs.Derives.{IsOneOf, whole}
use Rattle.outline_reader.proofs.WritingLemmas.{Writes, nothing, one_token, begun as begun_phrase, none as left_out_phrase, symbols, writes}
use Rattle.outline_reader.proofs.FollowLemmas.{Follow, outlined_follow}
use Rattle.outline_reader.proofs.BreakLemmas.{Breaks, outlined_breaks}
use Rattle.outline_reader.proofs.EndLemmas.{category_ends}
use Rattle.outline_reader.proofs.FilledLemmas.{every, every_one}
use Rattle.outline_reader.proofs.Truth.{and_left, and_right, where_true}

-- ---- one portion

holds_all : (tokens : List PlainToken) → Holds tokens tokens
holds_all tokens = record { front = []; rest = []; split = sym (append-nil tokens) }

module _ (all : List PlainToken) where
  abbrev HeldPortion : Role → Token → List Role → List Token → Type 0
  HeldPortion begun first roles tokens = HoldsPortion all (plain_portion (portion begun first roles tokens))

  tokens_seen : (tokens : List Token) → AllByRecursion (HeldToken all) tokens → AllByRecursion (HoldsToken all) (map token_view tokens)
  tokens_seen tokens h = all_seen token_view (HoldsToken all) tokens h

  forms_seen : (forms : List (List Token)) → AllByRecursion (HeldForm all) forms → AllByRecursion (Holds all) (map plain_form forms)
  forms_seen forms h = all_seen plain_form (Holds all) forms h

  args_seen : (roles : List Role) (tokens : List Token) → Within all tokens → AllByRecursion (HoldsArgument all) (map plain_argument (args roles tokens))
  args_seen roles tokens inside = all_seen plain_argument (HoldsArgument all) (args roles tokens) (args_held all roles tokens inside)

  just_held : (by : Role) (first : Token) (roles : List Role) (tokens : List Token) → HeldToken all first → Within all tokens →
      HoldsJustification all (plain_justification (just_by by first roles tokens))
  just_held role.RuleCall first roles tokens begun inside = (name_or_held all first role.Name roles tokens begun inside, args_seen roles tokens inside)
  just_held role.TheoremCall first roles tokens begun inside =
      (name_or_held all first role.TheoremCall roles tokens begun inside, name_or_held all first role.Name roles tokens begun inside, args_seen roles tokens inside)
  just_held role.HypothesisCall first roles tokens begun inside = args_seen roles tokens inside
  just_held role.Cases first roles tokens begun inside = subject_held all first roles tokens begun inside
  just_held role.Induction first roles tokens begun inside = subject_held all first roles tokens begun inside
  just_held role.Contradiction first roles tokens begun inside = subject_held all first roles tokens begun inside
  just_held role.Weakening first roles tokens begun inside = name_or_held all first role.Name roles tokens begun inside
  just_held role.Exchange first roles tokens begun inside = name_or_held all first role.Name roles tokens begun inside
  just_held role.Substitution first roles tokens begun inside =
      (name_or_held all first role.Name roles tokens begun inside, name_or_held all first role.SecondName roles tokens begun inside)
  just_held role.Unproved first roles tokens begun inside = tt
  just_held _ first roles tokens begun inside = tokens_seen _ (all_named_held all role.NameAlone roles tokens inside)

  header_held : (joined : Bool) (first : Token) (roles : List Role) (tokens : List Token) → HeldToken all first → Within all tokens →
      HoldsPortion all (plain_portion (theorem_header joined first roles tokens))
  header_held joined first roles tokens begun inside = (
    begun,
    name_or_held all first role.KindWord roles tokens begun inside,
    name_or_held all first role.Name roles tokens begun inside,
    if_seen token_view (HoldsToken all) _ (named_held all role.Assumed roles tokens inside),
    all_seen plain_input (HoldsInput all) _ (inputs_held all roles tokens inside),
    forms_seen _ (outputs_held all roles tokens inside),
    tokens_seen _ (all_named_held all role.Target roles tokens inside),
  )

  step_held : (first : Token) (roles : List Role) (tokens : List Token) → HeldToken all first → Within all tokens → HoldsPortion all (plain_portion (step_line first roles tokens))
  step_held first roles tokens begun inside = (
    begun,
    tokens_seen _ (all_named_held all role.StepName roles tokens inside),
    forms_seen _ (forms_held all role.Form roles tokens inside),
    just_held (call roles) first roles tokens begun inside,
  )

  premises_seen : (roles : List Role) (tokens : List Token) → Within all tokens → AllByRecursion (HoldsLabelled all) (map plain_labelled (named_forms roles tokens))
  premises_seen roles tokens inside = all_seen plain_labelled (HoldsLabelled all) _ (named_forms_held all roles tokens inside)

  term_head_held : (first : Token) (roles : List Role) (tokens : List Token) → HeldToken all first → Within all tokens →
      HoldsPortion all (case_term (token_view first) (plain_form (form_of role.Form roles tokens)) (option_map plain_form (form_if role.AssumedForm roles tokens)))
  term_head_held first roles tokens begun inside =
      (begun, form_of_held all role.Form roles tokens inside, if_seen plain_form (Holds all) _ (form_if_held all role.AssumedForm roles tokens inside))

  case_held : (first : Token) (roles : List Role) (tokens : List Token) → HeldToken all first → Within all tokens → HoldsPortion all (plain_portion (case_head first roles tokens))
  case_held first [] tokens begun inside = term_head_held first [] tokens begun inside
  case_held first (word ∷ []) tokens begun inside = term_head_held first (word ∷ []) tokens begun inside
  case_held first (word ∷ role.RuleCase ∷ roles) tokens begun inside = (
    begun,
    premises_seen (word ∷ role.RuleCase ∷ roles) tokens inside,
    name_or_held all first role.Name (word ∷ role.RuleCase ∷ roles) tokens begun inside,
    head_conclusion_held all first (word ∷ role.RuleCase ∷ roles) tokens begun inside,
  )
  case_held first (word ∷ other ∷ roles) tokens begun inside = term_head_held first (word ∷ other ∷ roles) tokens begun inside

  second_held : (first : Token) (tokens : List Token) → HeldToken all first → Within all tokens → HeldToken all (second_or first tokens)
  second_held first [] begun inside = begun
  second_held first (one ∷ []) begun inside = begun
  second_held first (one ∷ second ∷ tokens) begun inside = behind_within all 1 (one ∷ second ∷ tokens) inside _ (holds_first (token_view second) (plain_form tokens))

  category_held : (first : Token) (roles : List Role) (tokens : List Token) → HeldToken all first → Within all tokens → HoldsPortion all (plain_portion (category_line first roles tokens))
  category_held first [] tokens begun inside = (begun, begun, (holds_nothing all, tt))
  category_held first (one ∷ []) tokens begun inside = (begun, begun, (holds_nothing all, tt))
  category_held first (one ∷ define ∷ roles) tokens begun inside =
      (begun, second_held first tokens begun inside, forms_seen (productions roles (drop 2 tokens)) (productions_held all roles (drop 2 tokens) (behind_within all 2 tokens inside)))

  rule_held : (first : Token) (roles : List Role) (tokens : List Token) → HeldToken all first → Within all tokens → HoldsPortion all (plain_portion (rule_lines first roles tokens))
  rule_held first roles tokens begun inside =
      (forms_seen _ (premises_held all roles tokens inside), name_or_held all first role.Name roles tokens begun inside, form_of_held all role.Form roles tokens inside)

  portion_held : (begun : Role) (first : Token) (roles : List Role) (tokens : List Token) → HeldToken all first → Within all tokens → HeldPortion begun first roles tokens
  portion_held role.TerminalsWord first roles tokens begun inside = (begun, behind_within all 1 tokens inside _ (holds_all (plain_form (drop 1 tokens))))
  portion_held role.SyntaxWord first roles tokens begun inside = begun
  portion_held role.JudgmentWord first roles tokens begun inside = (
    begun,
    name_or_held all first role.Name roles tokens begun inside,
    form_of_held all role.Form roles tokens inside,
    if_seen token_view (HoldsToken all) _ (named_held all role.Assumed roles tokens inside),
  )
  portion_held role.RulePremise first roles tokens begun inside = rule_held first roles tokens begun inside
  portion_held role.RuleBar first roles tokens begun inside = rule_held first roles tokens begun inside
  portion_held role.AndWord first roles tokens begun inside = header_held true first roles tokens begun inside
  portion_held role.TheoremWord first roles tokens begun inside = header_held false first roles tokens begun inside
  portion_held role.StepName first roles tokens begun inside = step_held first roles tokens begun inside
  portion_held role.ProofWord first roles tokens begun inside = step_held first roles tokens begun inside
  portion_held role.InversionWord first roles tokens begun inside = (
    begun,
    subject_held all first roles tokens begun inside,
    premises_seen roles tokens inside,
    name_or_held all first role.Name roles tokens begun inside,
    head_conclusion_held all first roles tokens begun inside,
  )
  portion_held role.CaseWord first roles tokens begun inside = case_held first roles tokens begun inside
  portion_held role.EndWord first roles tokens begun inside = begun
  portion_held _ first roles tokens begun inside = category_held first roles tokens begun inside

-- ---- with which token it begins

case_begins : (first : Token) (roles : List Role) (tokens : List Token) → BeginsWith (plain_portion (case_head first roles tokens)) (token_view first)
case_begins first [] tokens = refl
case_begins first (word ∷ []) tokens = refl
case_begins first (word ∷ role.RuleCase ∷ roles) tokens = refl
case_begins first (word ∷ other ∷ roles) tokens = refl

category_begins : (first : Token) (roles : List Role) (tokens : List Token) → BeginsWith (plain_portion (category_line first roles tokens)) (token_view first)
category_begins first [] tokens = refl
category_begins first (one ∷ []) tokens = refl
category_begins first (one ∷ define ∷ roles) tokens = refl

portion_begins : (begun : Role) (first : Token) (roles : List Role) (tokens : List Token) → BeginsWith (plain_portion (portion begun first roles tokens)) (token_view first)
portion_begins role.TerminalsWord first roles tokens = refl
portion_begins role.SyntaxWord first roles tokens = refl
portion_begins role.JudgmentWord first roles tokens = refl
portion_begins role.RulePremise first roles tokens = tt
portion_begins role.RuleBar first roles tokens = tt
portion_begins role.AndWord first roles tokens = refl
portion_begins role.TheoremWord first roles tokens = refl
portion_begins role.StepName first roles tokens = refl
portion_begins role.ProofWord first roles tokens = refl
portion_begins role.InversionWord first roles tokens = refl
portion_begins role.CaseWord first roles tokens = case_begins first roles tokens
portion_begins role.EndWord first roles tokens = refl
portion_begins _ first roles tokens = category_begins first roles tokens

-- ---- stretches

abbrev Stretched : List Role → List Token → Type 0
Stretched roles tokens = AreStretches (map plain_portion (portions roles tokens)) (plain_form (drop (portion_length roles) tokens))

same_length : {marks : List Mark} {left : List Awaited} {all : List Seen} → Derives left all marks → length marks ≡ length all
same_length here = refl
same_length (one_derived within place class role rest one more marks fit d) = ap suc (same_length d)
same_length (alternative within phrase rest place class role what one more marks is_one fit d) = ap suc (same_length d)
same_length (left_out within phrase rest more marks optional d) = same_length d

seen_length : (before : Option ℕ) (tokens : List Token) → length (seen_after before tokens) ≡ length tokens
seen_length before [] = refl
seen_length before (token ∷ tokens) = ap suc (seen_length (Some token.line) tokens)

stretched_here : (first : Role) (roles : List Role) (before : Option ℕ) (one : Token) (tokens : List Token) → Follow (first ∷ roles) → Breaks (first ∷ roles) (seen_after before (one ∷ tokens)) → Stretched roles tokens →
    (b : Bool) → (begins first || names_category roles) ≡ b →
    AreStretches
    (map plain_portion (cond b (portion first one (take (portion_size (first ∷ roles)) (first ∷ roles)) (take (portion_size (first ∷ roles)) (one ∷ tokens)) ∷ portions roles tokens) (portions roles tokens)))
    (plain_form (drop (cond b 0 (portion_length roles + 1)) (one ∷ tokens)))
stretched_here first roles before one tokens follow breaks below true is =
    let size = portion_length roles in
    let whole_stretch : plain_form (take (portion_size (first ∷ roles)) (one ∷ tokens)) ≡ token_view one ∷ plain_form (take size tokens) =
    ap (λ n. plain_form (take n (one ∷ tokens))) (add-one size) in
    let held = portion_held (plain_form (take (portion_size (first ∷ roles)) (one ∷ tokens))) first one (take (portion_size (first ∷ roles)) (first ∷ roles)) (take (portion_size (first ∷ roles)) (one ∷ tokens))
    (subst (λ (ts : List PlainToken). HoldsToken ts (token_view one)) (sym whole_stretch) (holds_first (token_view one) (plain_form (take size tokens)))) (λ part h. h) in
    next _ _ (token_view one) (plain_form (take size tokens)) (plain_form (drop size tokens)) _
    (ap (λ (ts : List PlainToken). token_view one ∷ ts) (ap plain_form (sym (take-append-drop size tokens)) ∙ map-append token_view (take size tokens) (drop size tokens)))
    (portion_begins first one (take (portion_size (first ∷ roles)) (first ∷ roles)) (take (portion_size (first ∷ roles)) (one ∷ tokens)))
    (subst (λ (ts : List PlainToken). HoldsPortion ts (plain_portion (portion first one (take (portion_size (first ∷ roles)) (first ∷ roles)) (take (portion_size (first ∷ roles)) (one ∷ tokens))))) whole_stretch held)
    (category_ends first roles before one tokens (take (portion_size (first ∷ roles)) (first ∷ roles)) (take (portion_size (first ∷ roles)) (one ∷ tokens)) is follow breaks)
    below
stretched_here first roles before one tokens follow breaks below false is =
    subst (λ n. AreStretches (map plain_portion (portions roles tokens)) (plain_form (drop n (one ∷ tokens)))) (sym (add-one (portion_length roles))) below

stretched : (before : Option ℕ) (roles : List Role) (tokens : List Token) → length roles ≡ length tokens → Follow roles → Breaks roles (seen_after before tokens) → Stretched roles tokens
unfolding Follow Breaks
stretched before [] [] same follow breaks = none
stretched before [] (one ∷ tokens) same follow breaks = absurd (omega (arith, same))
stretched before (first ∷ roles) [] same follow breaks = absurd (omega (arith, same))
stretched before (first ∷ roles) (one ∷ tokens) same follow breaks =
    stretched_here first roles before one tokens follow breaks (stretched (Some one.line) roles tokens (omega (arith, same)) follow.2 breaks.1) (begins first || names_category roles) refl

-- ---- the first token of a file begins a portion

starts : Symbol → Bool
starts (Choice p.Parts) = true
starts (Choice p.FirstTheorem) = true
starts _ = false

starts_ok : Phrase → Bool
starts_ok phrase = if starts (Choice phrase) then every (λ a. begins a.2) (alternatives phrase) else true

starts_table : (phrase : Phrase) → starts_ok phrase ≡ true
unfolding starts_ok starts every
starts_table p.Parts = refl
starts_table _ = refl

begun_starts : (phrase : Phrase) (chosen : Alternative) → IsOneOf chosen (alternatives phrase) → starts (Choice phrase) ≡ true → begins chosen.2 ≡ true
unfolding starts_ok
begun_starts phrase chosen is_one h =
    every_one (λ a. begins a.2) is_one (where_true (starts (Choice phrase)) (every (λ (a : Alternative). begins a.2) (alternatives phrase)) (starts_table phrase) h)

none_before : {all : List Symbol} {roles : List Role} → Writes all roles → every starts all ≡ true → portion_length roles ≡ 0
unfolding every starts
none_before nothing h = refl
none_before (one_token place class role rest roles w) h = absurd (let no : false ≡ true = and_left false (every starts rest) h in cc)
none_before (begun_phrase phrase rest chosen roles is_one w) h =
    ap (λ b. cond (b || names_category roles) 0 (portion_length roles + 1)) (begun_starts phrase chosen is_one (and_left (starts (Choice phrase)) (every starts rest) h))
none_before (left_out_phrase phrase rest roles optional w) h = none_before w (and_right (starts (Choice phrase)) (every starts rest) h)

whole_starts : every starts (symbols whole) ≡ true
unfolding every starts
whole_starts = refl

outlined_stretched : (tokens : List Token) (roles : List Role) → IsOutlined tokens roles → AreStretches (map plain_portion (portions roles tokens)) (plain_form tokens)
outlined_stretched tokens roles is =
    let lengths : length roles ≡ length tokens =
    ap length is.2 ∙ length-map is.0 (λ mark. mark.role) ∙ same_length is.1 ∙ seen_length None tokens in
    let from_start : portion_length roles ≡ 0 = ap portion_length is.2 ∙ none_before (writes is.1) whole_starts in
    subst (λ n. AreStretches (map plain_portion (portions roles tokens)) (plain_form (drop n tokens))) from_start (stretched None roles tokens lengths (subst (λ (rs : List Role). Follow rs) (sym is.2) (outlined_follow (writes is.1))) (outlined_breaks tokens roles is))

pub portions_stretched : PortionsAreStretches
portions_stretched source found tokens has are =
    subst (λ (ts : List PlainToken). AreStretches found ts) (tokens_unique source _ _ has.are_tokens are)
    (subst (λ (ps : List PlainPortion). AreStretches ps (plain_form has.tokens)) (sym (has.plain ∙ ap (map plain_portion) has.outline.2))
    (outlined_stretched has.tokens has.outline.0 has.outline.1))
