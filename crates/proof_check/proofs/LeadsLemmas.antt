-- Steps that lead somewhere: their fronts, and what each ended proof shows.
use Rattle.std.proofs.Common.{◌≡◌, ◌≤◌, ◌<◌, ℕ, zero, suc, List, [], ◌∷◌, ◌++◌, map, length, Option, Some, inl, inr, sym, ◌∙◌, ap, subst, arith}
use Rattle.std.specs.Prelude.{MatchOption, slice_get}
use Rattle.std.specs.List.{AllByRecursion}
use Rattle.std.proofs.lemmas.Bool.{cases_order}
use Rattle.std.proofs.lemmas.List.{map-append, append_assoc, length-map}
use Rattle.scheme_terms.specs.Forms.{Names}
use Rattle.rule_schemes.specs.Rules.{Theory, JudgmentScheme}
use Rattle.rule_schemes.specs.Statement.{Theorem}
use Rattle.core_proofs.specs.Step.{Step}
use Rattle.core_proofs.specs.View.{step}
use Rattle.core_proofs.specs.declared.step.CoreStep.{CoreStep}
use Rattle.core_proofs.specs.Kept.{Kept, kept_theory, kept_statements, kept_steps}
use Rattle.rule_schemes.specs.Placed.{applied_judgment}
use Rattle.core_proofs.specs.Proof.{Standing, outside, within, begins, by_a_rule, ends, HasGoal, Leads, no_step, one_step, Proves}

leads_to_front : (th : Theory) (sts : List Theorem) (at to : Standing) (front rest : List Step) → Leads th sts at (front ++ rest) to → (mid : Standing) × Leads th sts at front mid
leads_to_front th sts at to [] rest leads = (at, no_step)
leads_to_front th sts at to (first ∷ front) rest (one_step {then_at = next} move leads) =
    let below = leads_to_front th sts next to front rest leads in
    (below.0, one_step move below.1)

-- where the front of some steps leads nowhere, they are no proofs
pub no_proofs : (now : Kept) (th : Theory) (sts : List Theorem) (front : List CoreStep) (one : CoreStep) (rest all : List CoreStep)
    → kept_theory now ≡ th → kept_statements now ≡ sts → now.steps ≡ front → all ≡ front ++ (one ∷ rest)
    → ((to : Standing) → Leads (kept_theory now) (kept_statements now) (outside 0) (kept_steps now ++ step one ∷ []) to → ⊥)
    → Proves th sts (map step all) → ⊥
no_proofs now th sts front one rest all same_theory same_statements same_steps parts never proves =
    let written : map step all ≡ (map step now.steps ++ step one ∷ []) ++ map step rest =
    ap (map step) parts ∙ map-append step front (one ∷ rest) ∙ ap (λ ss. map step ss ++ (step one ∷ map step rest)) (sym same_steps)
    ∙ sym (append_assoc (map step now.steps) (step one ∷ []) (map step rest)) in
    let leads : Leads th sts (outside 0) ((map step now.steps ++ step one ∷ []) ++ map step rest) (outside (length sts)) =
    subst (λ (steps : List Step). Leads th sts (outside 0) steps (outside (length sts))) written proves in
    let front_leads = leads_to_front th sts (outside 0) (outside (length sts)) (map step now.steps ++ step one ∷ []) (map step rest) leads in
    never front_leads.0
    (subst (λ (t : Theory). Leads t (kept_statements now) (outside 0) (kept_steps now ++ step one ∷ []) front_leads.0) (sym same_theory)
    (subst (λ (s : List Theorem). Leads th s (outside 0) (kept_steps now ++ step one ∷ []) front_leads.0) (sym same_statements) front_leads.1))

-- ---- each statement that is proved has one conclusion

abbrev HasOne : List Theorem → ℕ → Type 0
HasOne sts i = MatchOption (slice_get sts i) ⊥ (λ st. length st.outputs ≡ 1)

goal_is_one : (th : Theory) (st : Theorem) (scope : Names) (form : JudgmentScheme) → HasGoal th st scope form → length st.outputs ≡ 1
goal_is_one th st scope form goal = sym (length-map st.outputs (applied_judgment goal.by)) ∙ ap length goal.same

one_at : (sts : List Theorem) (k : ℕ) (st : Theorem) → slice_get sts k ≡ Some st → length st.outputs ≡ 1 → HasOne sts k
one_at sts k st here one = subst (λ (found : Option Theorem). MatchOption found ⊥ (λ s. length s.outputs ≡ 1)) (sym here) one

mutual
  ends_outside : (th : Theory) (sts : List Theorem) (k n i : ℕ) (steps : List Step) → Leads th sts (outside k) steps (outside n) → k ≤ i → i < n → HasOne sts i
  ends_outside th sts k n i [] no_step low high = absurd (omega arith)
  ends_outside th sts k n i (first ∷ steps) (one_step (begins here scope) rest) low high = ends_within th sts k n i _ _ _ steps rest low high

  ends_within : (th : Theory) (sts : List Theorem) (k n i : ℕ) (scope : Names) (scoped : List JudgmentScheme) (last : Option JudgmentScheme) (steps : List Step)
      → Leads th sts (within k scope scoped last) steps (outside n) → k ≤ i → i < n → HasOne sts i
  ends_within th sts k n i scope scoped last [] x low high = elim x [ ]
  ends_within th sts k n i scope scoped last (first ∷ steps) (one_step (by_a_rule form cited rule right) rest) low high = ends_within th sts k n i _ _ _ steps rest low high
  ends_within th sts k n i scope scoped last (first ∷ steps) (one_step (ends {st = st} {form = form} here goal) rest) low high = elim (cases_order k i) [
    | inl same ↦ subst (HasOne sts) same (one_at sts k st here (goal_is_one th st scope form goal))
    | inr (inl less) ↦ ends_outside th sts (suc k) n i steps rest (omega arith) high
    | inr (inr more) ↦ absurd (omega arith)
  ]

each_one : (sts : List Theorem) → ((i : ℕ) → i < length sts → HasOne sts i) → AllByRecursion (λ st. length st.outputs ≡ 1) sts
each_one [] h = tt
each_one (st ∷ sts) h = (h zero (omega arith), each_one sts (λ i less. h (suc i) (omega arith)))

pub proved_have_one : (th : Theory) (sts : List Theorem) (steps : List Step) → Proves th sts steps → AllByRecursion (λ st. length st.outputs ≡ 1) sts
proved_have_one th sts steps proves = each_one sts (λ i less. ends_outside th sts 0 (length sts) i steps proves (omega arith) less)
