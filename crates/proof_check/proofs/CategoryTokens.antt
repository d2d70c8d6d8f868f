-- A token of a source stands in one category.
use native.Mathlib.Omega.{arith}
use Rattle.std.proofs.Common.{◌≡◌, ◌⊎◌, ◌<◌, ◌≤◌, ℕ, zero, suc, ◌+◌, Bool, true, false, ◌||◌, List, [], ◌∷◌, map, take, drop, inl, inr, refl, sym, ap, subst, ◌∙◌}
use Rattle.std.specs.Prelude.{if◌then◌else◌}
use Rattle.std.specs.List.{AllByRecursion}
use Rattle.binding_terms.specs.Numbered.{AnyByRecursion}
use Rattle.sy_base.specs.Tokens.{PlainToken}
use Rattle.sy_base.specs.TokenLaws.{StandsInSource, AreInOrder}
use Rattle.proof_lexer.specs.View.{token_view}
use Rattle.proof_lexer.specs.declared.token.Token.{Token}
use Rattle.outline_reader.specs.declared.symbols.Role.{Role}
use Rattle.outline_reader.specs.declared.symbols.Role.TheVariants as role
use Rattle.outline_reader.specs.Plain.{PlainPortion, plain_portion}
use Rattle.outline_reader.specs.Portions.{begins, names_category, portion_length, portion_size, portion, portions, case_head, category_line}
use Rattle.outline_reader.specs.Views.{Piece}
use Rattle.user_grammar.specs.File.{WrittenCategory, category_in, categories}
use Rattle.proof_check.proofs.PortionTokens.{Among, BehindName, OfPortion, portion_among, piece_of, InPieces, portions_among, in_this, category_portion}
use Rattle.binding_terms.proofs.Lists.{any_drop, any_split, drop_none}

-- each token begins before all that follow it
abbrev pub Rising : List Token → Type 0
Rising [] = Unit {0}
Rising (t ∷ tokens) = AllByRecursion (λ u. t.span.from < u.span.from) tokens × Rising tokens

all_behind : (source : List ℕ) (end : ℕ) (tokens : List Token) → AreInOrder end (map token_view tokens) → AllByRecursion (StandsInSource source) (map token_view tokens) →
    AllByRecursion (λ (u : Token). end ≤ u.span.from) tokens
all_behind source end [] order all = tt
all_behind source end (t ∷ tokens) order all = (order.0, weaker tokens (all_behind source t.span.to tokens order.1 all.1))
  where
    between : (a b c d : ℕ) → a ≤ b → b < c → c ≤ d → a ≤ d
    between a b c d one two three = (omega arith)

    weaker : (us : List Token) → AllByRecursion (λ (u : Token). t.span.to ≤ u.span.from) us → AllByRecursion (λ (u : Token). end ≤ u.span.from) us
    weaker [] behind = tt
    weaker (u ∷ us) behind = (between end t.span.from t.span.to u.span.from order.0 all.0.some behind.0, weaker us behind.1)

pub rising : (source : List ℕ) (end : ℕ) (tokens : List Token) → AreInOrder end (map token_view tokens) → AllByRecursion (StandsInSource source) (map token_view tokens) → Rising tokens
rising source end [] order all = tt
rising source end (t ∷ tokens) order all = (weaker tokens (all_behind source t.span.to tokens order.1 all.1), rising source t.span.to tokens order.1 all.1)
  where
    between : (a b c : ℕ) → a < b → b ≤ c → a < c
    between a b c one two = (omega arith)

    weaker : (us : List Token) → AllByRecursion (λ (u : Token). t.span.to ≤ u.span.from) us → AllByRecursion (λ (u : Token). t.span.from < u.span.from) us
    weaker [] behind = tt
    weaker (u ∷ us) behind = (between t.span.from t.span.to u.span.from all.0.some behind.0, weaker us behind.1)

behind_first : (n : ℕ) (tokens : List Token) (token : PlainToken) → AllByRecursion (λ (u : Token). n < u.span.from) tokens → Among tokens token → n < token.from
behind_first n [] token all is = absurd is
behind_first n (t ∷ tokens) token all (inl same) = subst (λ (u : PlainToken). n < u.from) same all.0
behind_first n (t ∷ tokens) token all (inr is) = behind_first n tokens token all.1 is

-- what is taken stands before what is left
taken_before : (k : ℕ) (tokens : List Token) (one two : PlainToken) → Rising tokens → Among (take k tokens) one → Among (drop k tokens) two → one.from < two.from
taken_before zero tokens one two rises is other = absurd is
taken_before (suc k) [] one two rises is other = absurd is
taken_before (suc k) (t ∷ tokens) one two rises (inl same) other =
    subst (λ (u : PlainToken). u.from < two.from) same (behind_first t.span.from tokens two rises.0 (any_drop (λ u. token_view u ≡ two) k tokens other))
taken_before (suc k) (t ∷ tokens) one two rises (inr is) other = taken_before k tokens one two rises.1 is other

no_portions : (roles : List Role) → portions roles [] ≡ []
no_portions [] = refl
no_portions (first ∷ roles) = refl

one_more : (n : ℕ) → suc n ≡ n + 1
one_more n = (omega arith)

skipped_chosen : (first : Role) (roles : List Role) (t : Token) (tokens : List Token) →
    portions roles tokens ≡ portions (drop (portion_length roles) roles) (drop (portion_length roles) tokens) → (b : Bool) → (begins first || names_category roles) ≡ b →
    (if b then piece_of first roles t tokens ∷ portions roles tokens else portions roles tokens)
    ≡ portions (drop (if b then 0 else portion_length roles + 1) (first ∷ roles)) (drop (if b then 0 else portion_length roles + 1) (t ∷ tokens))
skipped_chosen first roles t tokens below true e = ap (λ c. if c then piece_of first roles t tokens ∷ portions roles tokens else portions roles tokens) (sym e)
skipped_chosen first roles t tokens below false e =
    below ∙ (λ i. portions (drop (one_more (portion_length roles) i) (first ∷ roles)) (drop (one_more (portion_length roles) i) (t ∷ tokens)))

-- no portion begins within another
skipped : (roles : List Role) (tokens : List Token) → portions roles tokens ≡ portions (drop (portion_length roles) roles) (drop (portion_length roles) tokens)
skipped [] tokens = refl
skipped (first ∷ roles) [] = sym (ap (portions (drop (portion_length (first ∷ roles)) (first ∷ roles))) (drop_none (portion_length (first ∷ roles))) ∙ no_portions _)
skipped (first ∷ roles) (t ∷ tokens) = skipped_chosen first roles t tokens (skipped roles tokens) (begins first || names_category roles) refl

-- the category that a piece is
no_case_category : (first : Token) (roles : List Role) (tokens : List Token) → category_in (plain_portion (case_head first roles tokens)) ≡ []
no_case_category first [] tokens = refl
no_case_category first (word ∷ []) tokens = refl
no_case_category first (word ∷ role.RuleCase ∷ roles) tokens = refl
no_case_category first (word ∷ other ∷ roles) tokens = refl

line_named : (first : Token) (roles : List Role) (tokens : List Token) (written : WrittenCategory) → AnyByRecursion (λ w. w ≡ written) (category_in (plain_portion (category_line first roles tokens))) →
    written.name ≡ token_view first
line_named first [] tokens written (inl same) = sym (ap (λ (w : WrittenCategory). w.name) same)
line_named first [] tokens written (inr none) = absurd none
line_named first (one ∷ []) tokens written (inl same) = sym (ap (λ (w : WrittenCategory). w.name) same)
line_named first (one ∷ []) tokens written (inr none) = absurd none
line_named first (one ∷ define ∷ roles) tokens written (inl same) = sym (ap (λ (w : WrittenCategory). w.name) same)
line_named first (one ∷ define ∷ roles) tokens written (inr none) = absurd none

category_named : (begun : Role) (first : Token) (roles : List Role) (tokens : List Token) (written : WrittenCategory) →
    AnyByRecursion (λ w. w ≡ written) (category_in (plain_portion (portion begun first roles tokens))) → written.name ≡ token_view first
category_named role.TerminalsWord first roles tokens written is = absurd is
category_named role.SyntaxWord first roles tokens written is = absurd is
category_named role.JudgmentWord first roles tokens written is = absurd is
category_named role.RulePremise first roles tokens written is = absurd is
category_named role.RuleBar first roles tokens written is = absurd is
category_named role.AndWord first roles tokens written is = absurd is
category_named role.TheoremWord first roles tokens written is = absurd is
category_named role.StepName first roles tokens written is = absurd is
category_named role.ProofWord first roles tokens written is = absurd is
category_named role.InversionWord first roles tokens written is = absurd is
category_named role.CaseWord first roles tokens written is =
    absurd (subst (λ (ws : List WrittenCategory). AnyByRecursion (λ w. w ≡ written) ws) (no_case_category first roles tokens) is)
category_named role.EndWord first roles tokens written is = absurd is
category_named _ first roles tokens written is = line_named first roles tokens written is

abbrev pub IsCategoryIn : List PlainPortion → WrittenCategory → Type 0
IsCategoryIn ps written = AnyByRecursion (λ w. w ≡ written) (categories ps)

not_less : (m n : ℕ) → m ≡ n → m < n → ⊥
not_less m n e lt = (omega arith)

module _ (begun : Role) (roles : List Role) (x : Token) (tokens : List Token) where
  abbrev Rest : List PlainPortion
  Rest = map plain_portion (portions roles tokens)

  abbrev IsThis : WrittenCategory → Type 0
  IsThis written = AnyByRecursion (λ w. w ≡ written) (category_in (plain_portion (piece_of begun roles x tokens)))

  within_piece : (v : PlainToken) → OfPortion x (take (portion_size (begun ∷ roles)) (x ∷ tokens)) v → Among (take (suc (portion_length roles)) (x ∷ tokens)) v
  within_piece v (inl same) = inl same
  within_piece v (inr among) = subst (λ (n : ℕ). Among (take n (x ∷ tokens)) v) (sym (one_more (portion_length roles))) among

  behind_in_piece : (written : WrittenCategory) (v : PlainToken) → IsThis written → BehindName written v → Among (take (suc (portion_length roles)) (x ∷ tokens)) v
  behind_in_piece written v here stands =
      within_piece v (portion_among begun x (take (portion_size (begun ∷ roles)) (begun ∷ roles)) (take (portion_size (begun ∷ roles)) (x ∷ tokens)) v
      (in_this (plain_portion (piece_of begun roles x tokens)) written v here (inr stands)))

  behind_in_rest : (written : WrittenCategory) (v : PlainToken) → IsCategoryIn Rest written → BehindName written v → Among (drop (portion_length roles) tokens) v
  behind_in_rest written v there stands =
      portions_among (drop (portion_length roles) roles) (drop (portion_length roles) tokens) v
      (subst (λ (ps : List Piece). InPieces ps v) (skipped roles tokens) (category_portion Rest written v there (inr stands)))

  apart : (w z : WrittenCategory) (v y : PlainToken) → Rising (x ∷ tokens) → IsThis w → IsCategoryIn Rest z → BehindName w v → BehindName z y → v.from ≡ y.from → ⊥
  apart w z v y rises here there in_w in_z e =
      not_less v.from y.from e (taken_before (suc (portion_length roles)) (x ∷ tokens) v y rises (behind_in_piece w v here in_w) (behind_in_rest z y there in_z))

  named_this : (written : WrittenCategory) → IsThis written → written.name ≡ token_view x
  named_this written here = category_named begun x (take (portion_size (begun ∷ roles)) (begun ∷ roles)) (take (portion_size (begun ∷ roles)) (x ∷ tokens)) written here

  module _ (one two : WrittenCategory) (t u : PlainToken) (rises : Rising (x ∷ tokens)) (in_one : BehindName one t) (in_two : BehindName two u) (same : t.from ≡ u.from)
      (below : IsCategoryIn Rest one → IsCategoryIn Rest two → one.name ≡ two.name) where
    either : IsThis one ⊎ IsCategoryIn Rest one → IsThis two ⊎ IsCategoryIn Rest two → one.name ≡ two.name
    either (inl a) (inl b) = named_this one a ∙ sym (named_this two b)
    either (inl a) (inr b) = absurd (apart one two t u rises a b in_one in_two same)
    either (inr a) (inl b) = absurd (apart two one u t rises b a in_two in_one (sym same))
    either (inr a) (inr b) = below a b

    name_chosen : (b : Bool) → IsCategoryIn (map plain_portion (if b then piece_of begun roles x tokens ∷ portions roles tokens else portions roles tokens)) one →
        IsCategoryIn (map plain_portion (if b then piece_of begun roles x tokens ∷ portions roles tokens else portions roles tokens)) two → one.name ≡ two.name
    name_chosen true a b =
        either (any_split (λ (w : WrittenCategory). w ≡ one) (category_in (plain_portion (piece_of begun roles x tokens))) (categories Rest) a)
        (any_split (λ (w : WrittenCategory). w ≡ two) (category_in (plain_portion (piece_of begun roles x tokens))) (categories Rest) b)
    name_chosen false a b = below a b

-- a category that shares a token with another has its name
pub one_name : (roles : List Role) (tokens : List Token) → Rising tokens → (one two : WrittenCategory) (t u : PlainToken) →
    IsCategoryIn (map plain_portion (portions roles tokens)) one → IsCategoryIn (map plain_portion (portions roles tokens)) two →
    BehindName one t → BehindName two u → t.from ≡ u.from → one.name ≡ two.name
one_name [] tokens rises one two t u first second in_one in_two same = absurd first
one_name (begun ∷ roles) [] rises one two t u first second in_one in_two same = absurd first
one_name (begun ∷ roles) (x ∷ tokens) rises one two t u first second in_one in_two same =
    name_chosen begun roles x tokens one two t u rises in_one in_two same (λ a b. one_name roles tokens rises.1 one two t u a b in_one in_two same)
    (begins begun || names_category roles) first second
