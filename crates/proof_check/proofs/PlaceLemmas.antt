-- Places of tokens, and what is kept of the tokens before a place.
use native.Mathlib.Omega.{arith}
use Rattle.std.proofs.Common.{◌≡◌, ◌↔◌, ◌⊎◌, ◌<◌, ◌≤◌, ℕ, suc, List, [], ◌∷◌, ◌++◌, length, inl, inr, refl, sym, ap, subst, ◌∙◌}
use Rattle.std.specs.Prelude.{codes}
use Rattle.std.proofs.lemmas.Bool.{cases_lt}
use Rattle.sy_base.specs.Tokens.{PlainToken}
use Rattle.proof_check.specs.NotBuilt.{IsWord, IsReservedWord, EndsInSyntax, the_word, another, EndsWith, IsUnbuiltAt}
use Rattle.proof_check.specs.Places.{NoneAmongFirst}
use Rattle.binding_terms.proofs.Lists.{nothing_pushed, same_last, same_split}

-- ---- what is kept of the tokens before a place

syntax_reserved : (token : PlainToken) → IsWord (codes "syntax") token → IsReservedWord token
syntax_reserved token is = record { word = is.0; among = inr (inl (sym is.1)) }

pub none_before : (word : List ℕ) → EndsWith word [] → ⊥
none_before word ends = nothing_pushed ends.before ends.last ends.split

pub behind_word : (word : List ℕ) (tokens : List PlainToken) (token : PlainToken) → IsWord word token ↔ EndsWith word (tokens ++ token ∷ [])
behind_word word tokens token = (
  (λ is. record { before = tokens; last = token; split = refl; is_word = is }),
  (λ ends. subst (IsWord word) (sym (same_last tokens ends.before token ends.last ends.split).1) ends.is_word),
)

behind_reserved : (tokens : List PlainToken) (token : PlainToken) → IsReservedWord token → EndsInSyntax (tokens ++ token ∷ []) → IsWord (codes "syntax") token
behind_reserved tokens token reserved (the_word before word split is) = subst (IsWord (codes "syntax")) (sym (same_last tokens before token word split).1) is
behind_reserved tokens token reserved (another before last split not_reserved ends) =
    absurd (not_reserved (subst IsReservedWord (same_last tokens before token last split).1 reserved))

pub behind_a_reserved_word : (tokens : List PlainToken) (token : PlainToken) → IsReservedWord token → IsWord (codes "syntax") token ↔ EndsInSyntax (tokens ++ token ∷ [])
behind_a_reserved_word tokens token reserved = (the_word tokens token refl, behind_reserved tokens token reserved)

behind_other : (tokens : List PlainToken) (token : PlainToken) → (IsReservedWord token → ⊥) → EndsInSyntax (tokens ++ token ∷ []) → EndsInSyntax tokens
behind_other tokens token not_reserved (the_word before word split is) =
    absurd (not_reserved (syntax_reserved token (subst (IsWord (codes "syntax")) (sym (same_last tokens before token word split).1) is)))
behind_other tokens token not_reserved (another before last split other ends) = subst EndsInSyntax (sym (same_last tokens before token last split).0) ends

pub behind_another : (tokens : List PlainToken) (token : PlainToken) → (IsReservedWord token → ⊥) → EndsInSyntax tokens ↔ EndsInSyntax (tokens ++ token ∷ [])
behind_another tokens token not_reserved = (another tokens token refl not_reserved, behind_other tokens token not_reserved)

-- ---- the places of forms that are not built

pub none_among_more : (tokens front rest : List PlainToken) (token : PlainToken) → tokens ≡ front ++ token ∷ rest → NoneAmongFirst tokens (length front) →
    (IsUnbuiltAt front token rest → ⊥) → NoneAmongFirst tokens (length (front ++ token ∷ []))
none_among_more tokens front rest token split none not_here others behind other other_split lt unbuilt =
    which (below_or_same (length others) (length front) (subst (λ (n : ℕ). length others < n) (length_last front token) lt))
  where
    length_last : (xs : List PlainToken) (x : PlainToken) → length (xs ++ x ∷ []) ≡ suc (length xs)
    length_last [] x = refl
    length_last (y ∷ xs) x = ap suc (length_last xs x)

    below_or_same : (m n : ℕ) → m < suc n → (m < n) ⊎ (m ≡ n)
    below_or_same m n lt = by_case (cases_lt m n)
      where
        by_case : (m < n) ⊎ (n ≤ m) → (m < n) ⊎ (m ≡ n)
        by_case (inl below) = inl below
        by_case (inr above) = inr (omega arith)

    which : (length others < length front) ⊎ (length others ≡ length front) → ⊥
    which (inl below) = none others behind other other_split below unbuilt
    which (inr same) =
        let equal = same_split front others token other rest behind (sym split ∙ other_split) (sym same) in
        not_here (subst (λ (p : List PlainToken × PlainToken × List PlainToken). IsUnbuiltAt p.0 p.1 p.2) (λ i. (sym equal.0 i, sym equal.1 i, sym equal.2 i)) unbuilt)
