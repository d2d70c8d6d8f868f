-- Whether a metavariable is settled can be told.
use Rattle.std.proofs.Common.{◌≡◌, ◌⊎◌, ℕ, List, [], ◌∷◌, inl, inr, ap}
use Rattle.std.proofs.lemmas.Bool.{cases_eq}
use Rattle.binding_terms.specs.Numbered.{AnyByRecursion}
use Rattle.scheme_terms.specs.SchemeTree.{SchemeTree, meta, known, local, con, Values, no_values, value, Parts, no_parts, part, IsApart, AreDistinctLocals, StrictIn, StrictInParts}
use Rattle.rule_schemes.specs.Rules.{JudgmentScheme, StrictInJudgment}
use Rattle.rule_schemes.specs.Statement.{StatementInput, given, syntax_input, StrictInInput}
use Rattle.derivation_check.specs.Fitting.{IsSettled}

abbrev pub Decided : Type 0 → Type 0
Decided A = A ⊎ (A → ⊥)

both : {A B : Type 0} → Decided A → Decided B → Decided (A × B)
both (inl a) (inl b) = inl (a, b)
both (inl a) (inr never) = inr (λ h. never h.1)
both (inr never) b = inr (λ h. never h.0)

either : {A B : Type 0} → Decided A → Decided B → Decided (A ⊎ B)
either (inl a) b = inl (inl a)
either (inr never) (inl b) = inl (inr b)
either (inr never) (inr none) = inr (λ h. elim h [ inl a ↦ never a | inr b ↦ none b ])

other : {A : Type 0} → Decided A → Decided (A → ⊥)
other (inl a) = inr (λ never. never a)
other (inr never) = inl never

any_decided : {A : Type 0} (P : A → Type 0) → ((x : A) → Decided (P x)) → (xs : List A) → Decided (AnyByRecursion P xs)
any_decided P decide [] = inr (λ h. h)
any_decided P decide (x ∷ xs) = either (decide x) (any_decided P decide xs)

abbrev index_of : SchemeTree → ℕ
index_of (local i) = i
index_of (meta m vs) = 0
index_of (known k) = 0
index_of (con p xs) = 0

local_decided : (s : SchemeTree) (i : ℕ) → Decided (s ≡ local i)
local_decided (local k) i = elim (cases_eq k i) [ inl same ↦ inl (ap local same) | inr never ↦ inr (λ e. never (ap index_of e)) ]
local_decided (meta m vs) i = inr (λ e. let no : ⊥ = cc in no)
local_decided (known k) i = inr (λ e. let no : ⊥ = cc in no)
local_decided (con p xs) i = inr (λ e. let no : ⊥ = cc in no)

apart_decided : (i : ℕ) (vs : Values) → Decided (IsApart i vs)
apart_decided i no_values = inl tt
apart_decided i (value s vs) = both (other (local_decided s i)) (apart_decided i vs)

distinct_decided : (vs : Values) → Decided (AreDistinctLocals vs)
distinct_decided no_values = inl tt
distinct_decided (value (local i) vs) = both (apart_decided i vs) (distinct_decided vs)
distinct_decided (value (meta m ws) vs) = inr (λ h. h)
distinct_decided (value (known k) vs) = inr (λ h. h)
distinct_decided (value (con p xs) vs) = inr (λ h. h)

mutual
  strict_decided : (m : ℕ) (s : SchemeTree) → Decided (StrictIn m s)
  strict_decided m (meta n vs) = both (cases_eq n m) (distinct_decided vs)
  strict_decided m (known k) = inr (λ h. h)
  strict_decided m (local i) = inr (λ h. h)
  strict_decided m (con p xs) = parts_decided m xs

  parts_decided : (m : ℕ) (xs : Parts) → Decided (StrictInParts m xs)
  parts_decided m no_parts = inr (λ h. h)
  parts_decided m (part n s xs) = either (strict_decided m s) (parts_decided m xs)

judgment_decided : (m : ℕ) (j : JudgmentScheme) → Decided (StrictInJudgment m j)
judgment_decided m j =
    either (any_decided _ (λ e. any_decided (StrictIn m) (strict_decided m) e.args) j.context.entries) (any_decided (StrictIn m) (strict_decided m) j.args)

input_decided : (m : ℕ) (i : StatementInput) → Decided (StrictInInput m i)
input_decided m (given j) = judgment_decided m j
input_decided m (syntax_input n) = cases_eq n m

pub settled_decided : (inputs : List StatementInput) (m : ℕ) → Decided (IsSettled inputs m)
settled_decided inputs m = any_decided (StrictInInput m) (input_decided m) inputs
