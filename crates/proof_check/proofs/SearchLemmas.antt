-- The search of the first token that is not built, one token after another.
use native.Mathlib.Omega.{arith}
use Rattle.std.proofs.Common.{◌≡◌, ◌↔◌, ◌<◌, ◌≤◌, ◌-◌, ℕ, suc, Bool, false, List, [], ◌∷◌, ◌++◌, length, map, take, drop, get_or, true≢false, None, refl, sym, ap, subst, ◌∙◌, append_assoc, append-nil}
use Rattle.std.specs.Prelude.{IsTrue, codes}
use Rattle.std.proofs.lemmas.List.{take_all}
use Rattle.sy_base.specs.Tokens.{PlainToken}
use Rattle.proof_lexer.specs.View.{token_view}
use Rattle.proof_lexer.specs.declared.token.Token.{Token}
use Rattle.user_grammar.specs.Names.{IsAmong}
use Rattle.proof_check.specs.declared.unbuilt.Before.{Before}
use Rattle.outline_reader.specs.Sorts.{IsReserved}
use Rattle.proof_check.specs.NotBuilt.{unbuilt_words, IsWord, IsUnbuiltWord, IsReservedWord, EndsInSyntax, IsUnbuiltAt}
use Rattle.proof_check.specs.Places.{IsKeptOf, NoneAmongFirst, FindsUnbuilt}
use Rattle.proof_check.proofs.PlaceLemmas.{behind_word, none_among_more}

-- a word is one of a list exactly where its text is
pub reserved_by_text : (token : PlainToken) (is : Bool) → token.kind ≡ 0 → IsTrue is ↔ IsReserved token.text → IsTrue is ↔ IsReservedWord token
unfolding IsReserved
reserved_by_text token is word told = ((λ yes. record { word = word; among = told.0 yes }), (λ reserved. told.1 reserved.among))

pub unbuilt_by_text : (token : PlainToken) (is : Bool) → token.kind ≡ 0 → IsTrue is ↔ IsAmong unbuilt_words token.text → IsTrue is ↔ IsUnbuiltWord token
unbuilt_by_text token is word told = ((λ yes. record { word = word; among = told.0 yes }), (λ unbuilt. told.1 unbuilt.among))

pub iff_both : {A B C : Type 0} → A ↔ B → B ↔ C → A ↔ C
iff_both one two = ((λ a. two.0 (one.0 a)), (λ c. one.1 (two.1 c)))

-- what is kept of one token more
pub kept_past : (tokens : List PlainToken) (token : PlainToken) (syntax by all : Bool) → IsTrue syntax ↔ EndsInSyntax (tokens ++ token ∷ []) →
    IsTrue by ↔ IsWord (codes "by") token → IsTrue all ↔ IsWord (codes "forall") token →
    IsKeptOf (tokens ++ token ∷ []) (record { in_syntax = syntax; behind_by = by; behind_forall = all })
kept_past tokens token syntax by all in_syntax is_by is_forall = record {
  in_syntax = in_syntax;
  behind_by = iff_both is_by (behind_word (codes "by") tokens token);
  behind_forall = iff_both is_forall (behind_word (codes "forall") tokens token);
}

abbrev pub IsSearched : (tokens : List Token) (before : Before) (left : List Token) → Type 0
IsSearched tokens before left =
    (front : List Token) × (tokens ≡ front ++ left) × IsKeptOf (map token_view front) before × NoneAmongFirst (map token_view tokens) (length (map token_view front))

views_split : (front rest : List Token) (token : Token) → map token_view (front ++ token ∷ rest) ≡ map token_view front ++ token_view token ∷ map token_view rest
views_split [] rest token = refl
views_split (t ∷ front) rest token = ap (λ ts. token_view t ∷ ts) (views_split front rest token)

views_last : (front : List Token) (token : Token) → map token_view (front ++ token ∷ []) ≡ map token_view front ++ token_view token ∷ []
views_last front token = views_split front [] token

-- one token more without such a form
pub searched_more : (tokens : List Token) (before after : Before) (token : Token) (rest : List Token) → IsSearched tokens before (token ∷ rest) →
    ((ts : List PlainToken) → IsKeptOf ts before → IsKeptOf (ts ++ token_view token ∷ []) after) →
    ((ts : List PlainToken) → IsKeptOf ts before → IsUnbuiltAt ts (token_view token) (map token_view rest) → ⊥) → IsSearched tokens after rest
searched_more tokens before after token rest is past not_here =
    let split : map token_view tokens ≡ map token_view is.0 ++ token_view token ∷ map token_view rest = ap (map token_view) is.1 ∙ views_split is.0 rest token in
    let last = views_last is.0 token in (
      is.0 ++ token ∷ [],
      is.1 ∙ sym (append_assoc is.0 (token ∷ []) rest),
      subst (λ (ts : List PlainToken). IsKeptOf ts after) (sym last) (past (map token_view is.0) is.2),
      subst (λ (ts : List PlainToken). NoneAmongFirst (map token_view tokens) (length ts)) (sym last)
          (none_among_more (map token_view tokens) (map token_view is.0) (map token_view rest) (token_view token) split is.3 (not_here (map token_view is.0) is.2)),
    )

-- none is found
pub searched_all : (tokens : List Token) (before : Before) → IsSearched tokens before [] → FindsUnbuilt (map token_view tokens) None
searched_all tokens before is =
    subst (λ (ts : List Token). NoneAmongFirst (map token_view tokens) (length (map token_view ts))) (sym (is.1 ∙ append-nil is.0)) is.3

-- nothing is left
pub searched_ended : (tokens : List Token) (before : Before) (left : List Token) → length left < 1 → IsSearched tokens before left → FindsUnbuilt (map token_view tokens) None
searched_ended tokens before [] lt is = searched_all tokens before is
searched_ended tokens before (t ∷ left) lt is = absurd (never (length left) lt)
  where
    never : (n : ℕ) → suc n < 1 → ⊥
    never n lt = (omega arith)

-- one token more, as it is taken from what is left
pub searched_past : (tokens : List Token) (before after : Before) (left : List Token) (other : Token) → 1 ≤ length left → IsSearched tokens before left →
    ((ts : List PlainToken) → IsKeptOf ts before → IsKeptOf (ts ++ token_view (get_or left 0 other) ∷ []) after) → (is : Bool) → is ≡ false →
    ((ts : List PlainToken) → IsKeptOf ts before → IsTrue is ↔ IsUnbuiltAt ts (token_view (get_or left 0 other)) (map token_view (take (length left - 1) (drop 1 left)))) →
    IsSearched tokens after (take (length left - 1) (drop 1 left))
searched_past tokens before after [] other le searched past is is_false told = absurd (never le)
  where
    never : 1 ≤ 0 → ⊥
    never le = (omega arith)
searched_past tokens before after (t ∷ rest) other le searched past is is_false told =
    let whole : take (length (t ∷ rest) - 1) rest ≡ rest = take_all (length (t ∷ rest) - 1) rest (enough (length rest)) in
    subst (λ (us : List Token). IsSearched tokens after us) (sym whole)
    (searched_more tokens before after t rest searched past
    (λ ts kept unbuilt. true≢false (sym ((told ts kept).1 (subst (λ (us : List Token). IsUnbuiltAt ts (token_view t) (map token_view us)) (sym whole) unbuilt)) ∙ is_false)))
  where
    enough : (n : ℕ) → n ≤ suc n - 1
    enough n = (omega arith)
