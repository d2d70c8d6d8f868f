-- Where the variable of an assumption rule stands. To be held against docs/notation.md, 'Choices' (places).
use Rattle.std.specs.Prelude.{◌≡◌, ℕ, zero, suc, ◌+◌, ◌-◌, List, [], ◌∷◌, length, slice_get, unwrap_or, MatchOption}
use Rattle.scheme_terms.specs.SchemeTree.{SchemeTree, local, known}
use Rattle.scheme_terms.specs.Forms.{Instance}
use Rattle.scheme_terms.specs.Instance.{place_of}
use Rattle.rule_schemes.specs.Rules.{JudgmentScheme, Rule, Theory}
use Rattle.rule_schemes.specs.Derivation.{Derivation, node, leaf}
use Rattle.case_split.specs.declared.choice.Place.{Place}
use Rattle.case_split.specs.declared.choice.Place.TheVariants.{Plain, Known, Explicit}

-- at which argument the variable of an assumption rule stands
abbrev pub is_innermost : SchemeTree → ℕ → ℕ → ℕ
is_innermost (local zero) here further = here
is_innermost _ here further = further

-- the number of that argument
abbrev pub place_of_variable : List SchemeTree → ℕ
place_of_variable [] = 0
place_of_variable (s ∷ ss) = is_innermost s 0 (suc (place_of_variable ss))

-- the place of the variable that stands at the place of a rule's variable: that of an explicit entry or of a known variable
abbrev pub place_of_scheme : Instance → (entries : ℕ) → SchemeTree → ℕ
place_of_scheme inst n (local i) = length inst.root.entries + (n - suc i)
place_of_scheme inst n (known k) = place_of inst k
place_of_scheme inst n _ = 0

-- the place of a leaf by an assumption rule with this form
abbrev pub leaf_place : Instance → Rule → JudgmentScheme → ℕ
leaf_place inst rule form =
    place_of_scheme inst (length form.context.entries) (unwrap_or (slice_get form.args (place_of_variable rule.conclusion.args)) (local 0))

-- the leaf at this place is one at the place of a case with this conclusion
abbrev pub IsLeafPlace : Instance → JudgmentScheme → Rule → Place → (at : ℕ) → Type 0
IsLeafPlace inst conclusion rule Plain at = ⊥
IsLeafPlace inst conclusion rule Known at = at ≡ leaf_place inst rule conclusion
IsLeafPlace inst conclusion rule (Explicit i) at = at ≡ length inst.root.entries + i

-- the derivation's last step is at the place of a case with this conclusion: a node where the case has none, a leaf at its place
abbrev pub IsAtPlace : Theory → Instance → JudgmentScheme → Place → Derivation → Type 0
IsAtPlace th inst conclusion place (node r j ds) = place ≡ Plain
IsAtPlace th inst conclusion place (leaf r j at) = MatchOption (slice_get th.rules r) ⊥ (λ rule. IsLeafPlace inst conclusion rule place at)
