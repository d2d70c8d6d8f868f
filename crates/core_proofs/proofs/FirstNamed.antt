-- The first statement with a name.
use Rattle.std.proofs.Common.{◌≡◌, ◌≢◌, ℕ, suc, ◌+◌, ◌<◌, List, [], ◌∷◌, length, map, Some, slice_get, MatchOption, inl, inr, ap, ◌∙◌, sym, subst, arith}
use Rattle.std.specs.Prelude.{option_map}
use Rattle.std.specs.List.{AllByRecursion}
use Rattle.std.proofs.lemmas.Bool.{cases_lt}
use Rattle.std.proofs.lemmas.List.{length-map}
use Rattle.std.proofs.lemmas.Option.{slice_get-map}
use Rattle.rule_schemes.specs.Statement.{Theorem}
use Rattle.rule_schemes.specs.View.{statement}
use Rattle.rule_schemes.specs.declared.rule.Statement.{Statement}
use Rattle.core_proofs.specs.Provable.{IsFirstNamed}
use Rattle.binding_terms.proofs.Lists.{match_from}

-- none of the first so many has the name
abbrev pub NoneBefore : List Theorem → List ℕ → ℕ → Type 0
NoneBefore sts name n = (k : ℕ) → k < n → MatchOption (slice_get sts k) ⊥ (λ st. st.name ≢ name)

all_from : (sts : List Theorem) (name : List ℕ) → NoneBefore sts name (length sts) → AllByRecursion (λ st. st.name ≡ name → ⊥) sts
all_from [] name none = tt
all_from (st ∷ sts) name none = (none 0 (omega arith), all_from sts name (λ k h. none (suc k) (omega (arith, h))))

module _ (sts : List Statement) (name : List ℕ) where
  statement_here : (i : ℕ) (st : Statement) → slice_get sts i ≡ Some st → slice_get (map statement sts) i ≡ Some (statement st)
  statement_here i st e = slice_get-map statement sts i ∙ ap (option_map statement) e

  pub first_named : (i : ℕ) (st : Statement) → slice_get sts i ≡ Some st → st.name ≡ name → NoneBefore (map statement sts) name i → IsFirstNamed (map statement sts) name i
  first_named i st here named none = record { statement = statement st; here = statement_here i st here; named = named; none_before = none }

  pub none_more : (i : ℕ) (st : Statement) → slice_get sts i ≡ Some st → (st.name ≡ name → ⊥) → NoneBefore (map statement sts) name i → NoneBefore (map statement sts) name (i + 1)
  none_more i st here other none k h = elim (cases_lt k i) [
    | inl less ↦ none k less
    | inr past ↦
        let same : i ≡ k = omega (arith, h, past) in
        subst (λ n. MatchOption (slice_get (map statement sts) n) ⊥ (λ t. t.name ≢ name)) same
        (match_from (slice_get (map statement sts) i) (λ t. t.name ≢ name) (statement st) (statement_here i st here) other)
  ]

  pub none_named : (n : ℕ) → length sts ≡ n → NoneBefore (map statement sts) name n → AllByRecursion (λ st. st.name ≡ name → ⊥) (map statement sts)
  none_named n e none =
      all_from (map statement sts) name (subst (NoneBefore (map statement sts) name) (sym (length-map sts statement ∙ e)) none)
