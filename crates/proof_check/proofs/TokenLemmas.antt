-- Tokens of a source: one stands at a place, and the word of a judgment part is one.
use native.Mathlib.Omega.{arith}
use Rattle.std.proofs.Common.{◌≡◌, ◌⊎◌, ◌<◌, ℕ, Bool, true, false, ◌||◌, List, [], ◌∷◌, ◌++◌, length, map, take, Option, Some, None, inl, inr, refl, sym, ap, subst, ◌∙◌}
use Rattle.std.specs.Prelude.{if◌then◌else◌, MatchOption}
use Rattle.std.proofs.lemmas.Bool.{cases_order}
use Rattle.sy_base.specs.Tokens.{PlainToken, AreTokens}
use Rattle.sy_base.proofs.PlaceLemmas.{tokens_stand}
use Rattle.proof_lexer.specs.View.{token_view}
use Rattle.proof_lexer.specs.declared.token.Token.{Token}
use Rattle.proof_lexer.proofs.UniqueLemmas.{tokens_unique}
use Rattle.outline_reader.specs.declared.symbols.Role.{Role}
use Rattle.outline_reader.specs.declared.symbols.Role.TheVariants as role
use Rattle.outline_reader.specs.Plain.{PlainPortion, plain_portion}
use Rattle.outline_reader.specs.Portions.{begins, names_category, portion_size, portion, portions, case_head, category_line}
use Rattle.outline_reader.specs.Views.{Piece}
use Rattle.proof_check.specs.NotBuilt.{judgment_word, IsFirstJudgment, IsNotBuilt, by_its_token, of_a_judgment, IsFirstNotBuilt}
use Rattle.proof_check.proofs.FirstLemmas.{first_both, stands_before}
use Rattle.binding_terms.proofs.Lists.{same_split}

-- the token is one of these
pub record StandsAmong (tokens : List PlainToken) (token : PlainToken) : Type 0 where
  pub front : List PlainToken
  pub rest : List PlainToken
  pub split : tokens ≡ front ++ token ∷ rest

-- it is one of the source
pub record IsTokenOf (source : List ℕ) (token : PlainToken) : Type 0 where
  pub tokens : List PlainToken
  pub are : AreTokens source tokens
  pub stands : StandsAmong tokens token

among_more : (tokens : List PlainToken) (first token : PlainToken) → StandsAmong tokens token → StandsAmong (first ∷ tokens) token
among_more tokens first token is = record { front = first ∷ is.front; rest = is.rest; split = ap (λ ts. first ∷ ts) is.split }

-- ---- the word of a judgment part

no_case_word : (first : Token) (roles : List Role) (tokens : List Token) → judgment_word (plain_portion (case_head first roles tokens)) ≡ None
no_case_word first [] tokens = refl
no_case_word first (word ∷ []) tokens = refl
no_case_word first (word ∷ role.RuleCase ∷ roles) tokens = refl
no_case_word first (word ∷ other ∷ roles) tokens = refl

no_category_word : (first : Token) (roles : List Role) (tokens : List Token) → judgment_word (plain_portion (category_line first roles tokens)) ≡ None
no_category_word first [] tokens = refl
no_category_word first (one ∷ []) tokens = refl
no_category_word first (one ∷ define ∷ roles) tokens = refl

some_none : (x : Option PlainToken) (token : PlainToken) {A : Type 0} → x ≡ None → x ≡ Some token → A
some_none x token one two = absurd (let no : (let e : Option PlainToken = None in e) ≡ Some token = sym one ∙ two in cc)

some_same : (x y : PlainToken) → (let e : Option PlainToken = Some x in e) ≡ Some y → y ≡ x
some_same x y e = cc

word_of : (begun : Role) (first : Token) (roles : List Role) (tokens : List Token) (token : PlainToken) → judgment_word (plain_portion (portion begun first roles tokens)) ≡ Some token → token ≡ token_view first
word_of role.TerminalsWord first roles tokens token e = some_none None token refl e
word_of role.SyntaxWord first roles tokens token e = some_none None token refl e
word_of role.JudgmentWord first roles tokens token e = some_same (token_view first) token e
word_of role.RulePremise first roles tokens token e = some_none None token refl e
word_of role.RuleBar first roles tokens token e = some_none None token refl e
word_of role.AndWord first roles tokens token e = some_none None token refl e
word_of role.TheoremWord first roles tokens token e = some_none None token refl e
word_of role.StepName first roles tokens token e = some_none None token refl e
word_of role.ProofWord first roles tokens token e = some_none None token refl e
word_of role.InversionWord first roles tokens token e = some_none None token refl e
word_of role.CaseWord first roles tokens token e = some_none _ token (no_case_word first roles tokens) e
word_of role.EndWord first roles tokens token e = some_none None token refl e
word_of _ first roles tokens token e = some_none _ token (no_category_word first roles tokens) e

-- the first judgment part of these pieces is among them or is the first
in_pieces : (piece : Piece) (pieces : List Piece) (token : PlainToken) → IsFirstJudgment (map plain_portion (piece ∷ pieces)) token →
    (judgment_word (plain_portion piece) ≡ Some token) ⊎ IsFirstJudgment (map plain_portion pieces) token
in_pieces piece pieces token is = which (judgment_word (plain_portion piece)) is
  where
    which : (word : Option PlainToken) → MatchOption word (IsFirstJudgment (map plain_portion pieces) token) (λ first. token ≡ first) →
        (word ≡ Some token) ⊎ IsFirstJudgment (map plain_portion pieces) token
    which None is = inr is
    which (Some first) is = inl (ap Some (sym is))

abbrev piece_of : Role → List Role → Token → List Token → Piece
piece_of first roles one tokens = portion first one (take (portion_size (first ∷ roles)) (first ∷ roles)) (take (portion_size (first ∷ roles)) (one ∷ tokens))

abbrev IsJudgmentIn : List Piece → PlainToken → Type 0
IsJudgmentIn pieces token = IsFirstJudgment (map plain_portion pieces) token

judgment_here : (first : Role) (roles : List Role) (one : Token) (tokens : List Token) (token : PlainToken) →
    (IsJudgmentIn (portions roles tokens) token → StandsAmong (map token_view tokens) token) →
    (judgment_word (plain_portion (piece_of first roles one tokens)) ≡ Some token) ⊎ IsJudgmentIn (portions roles tokens) token → StandsAmong (map token_view (one ∷ tokens)) token
judgment_here first roles one tokens token below (inl here) =
    let same : token ≡ token_view one =
    word_of first one (take (portion_size (first ∷ roles)) (first ∷ roles)) (take (portion_size (first ∷ roles)) (one ∷ tokens)) token here in
    record { front = []; rest = map token_view tokens; split = ap (λ t. t ∷ map token_view tokens) (sym same) }
judgment_here first roles one tokens token below (inr there) = among_more (map token_view tokens) (token_view one) token (below there)

judgment_chosen : (first : Role) (roles : List Role) (one : Token) (tokens : List Token) (token : PlainToken) →
    (IsJudgmentIn (portions roles tokens) token → StandsAmong (map token_view tokens) token) → (b : Bool) →
    IsJudgmentIn (if b then piece_of first roles one tokens ∷ portions roles tokens else portions roles tokens) token → StandsAmong (map token_view (one ∷ tokens)) token
judgment_chosen first roles one tokens token below true is =
    judgment_here first roles one tokens token below (in_pieces (piece_of first roles one tokens) (portions roles tokens) token is)
judgment_chosen first roles one tokens token below false is = among_more (map token_view tokens) (token_view one) token (below is)

judgment_among : (roles : List Role) (tokens : List Token) (token : PlainToken) → IsJudgmentIn (portions roles tokens) token → StandsAmong (map token_view tokens) token
judgment_among [] tokens token is = absurd is
judgment_among (first ∷ roles) [] token is = absurd is
judgment_among (first ∷ roles) (one ∷ tokens) token is =
    judgment_chosen first roles one tokens token (λ there. judgment_among roles tokens token there) (begins first || names_category roles) is

-- ---- one token at a place

pub token_of_not_built : (source : List ℕ) (token : PlainToken) → IsNotBuilt source token → IsTokenOf source token
token_of_not_built source token (by_its_token tokens front rest are split at) =
    record { tokens = tokens; are = are; stands = record { front = front; rest = rest; split = split } }
token_of_not_built source token (of_a_judgment ps has declares first) =
    let here = subst (λ (qs : List PlainPortion). IsFirstJudgment qs token) (has.plain ∙ ap (map plain_portion) has.outline.2) first in
    record { tokens = map token_view has.tokens; are = has.are_tokens; stands = judgment_among has.outline.0 has.tokens token here }

-- of two tokens of a source at one place there is one
pub same_place : (source : List ℕ) (one two : PlainToken) → IsTokenOf source one → IsTokenOf source two → one.from ≡ two.from → one ≡ two
same_place source one two first second same =
    let lists = tokens_unique source first.tokens second.tokens first.are second.are in
    let split : first.tokens ≡ second.stands.front ++ two ∷ second.stands.rest = lists ∙ second.stands.split in
    which split (cases_order (length first.stands.front) (length second.stands.front))
  where
    not_both : (a b : ℕ) → a ≡ b → a < b → ⊥
    not_both a b e lt = (omega arith)

    which : first.tokens ≡ second.stands.front ++ two ∷ second.stands.rest →
        (length first.stands.front ≡ length second.stands.front) ⊎ ((length first.stands.front < length second.stands.front) ⊎ (length second.stands.front < length first.stands.front)) → one ≡ two
    which split (inl equal) = (same_split first.stands.front second.stands.front one two first.stands.rest second.stands.rest (sym first.stands.split ∙ split) equal).1
    which split (inr (inl before)) =
        absurd (not_both one.from two.from same (stands_before source first.tokens _ _ _ _ one two tokens_stand first.are first.stands.split split before))
    which split (inr (inr after)) =
        absurd (not_both two.from one.from (sym same) (stands_before source first.tokens _ _ _ _ two one tokens_stand first.are split first.stands.split after))

-- one token that is not built stands first
pub one_first_not_built : (source : List ℕ) (one two : PlainToken) → IsFirstNotBuilt source one → IsFirstNotBuilt source two → one ≡ two
one_first_not_built source one two first second =
    same_place source one two (token_of_not_built source one first.is) (token_of_not_built source two second.is)
    (first_both one two (first.first two second.is) (second.first one first.is)).1
