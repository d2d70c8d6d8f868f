-- Right steps lead to one standing only.
use Rattle.std.proofs.Common.{◌≡◌, ℕ, suc, ◌+◌, ◌-◌, ◌<◌, ◌≤◌, inl, inr, List, [], ◌∷◌, ◌++◌, length, Option, Some, None, slice_get, refl, ap, ◌∙◌, sym, subst, arith}
use Rattle.std.proofs.lemmas.List.{length-append}
use Rattle.std.proofs.lemmas.Bool.{cases_order, cases_lt}
use Rattle.std.proofs.lemmas.Option.{same_Some}
use Rattle.scheme_terms.specs.Forms.{Names}
use Rattle.rule_schemes.specs.Rules.{JudgmentScheme, Theory}
use Rattle.rule_schemes.specs.Statement.{Theorem, IsOfInputs}
use Rattle.core_proofs.specs.Step.{Step, begin_theorem, end_theorem, by_rule}
use Rattle.proof_trees.specs.Right.{IsProofScope}
use Rattle.core_proofs.specs.Proof.{HasGoal, given_judgments, Standing, outside, within, Move, begins, by_a_rule, ends, Leads, no_step, one_step}
use Rattle.core_proofs.specs.Provable.{IsRightByRule, CountsInputs}
use Rattle.binding_terms.proofs.Lists.{numbered_at, same_front, some_within as place_within}

-- what a right beginning asks, and where it leads
pub record Begins (th : Theory) (sts : List Theorem) (k n : ℕ) (to : Standing) : Type 0 where
  pub number : n ≡ k
  pub st : Theorem
  pub here : slice_get sts k ≡ Some st
  pub scope : Names
  pub is_scope : IsProofScope st scope
  pub leads : to ≡ within k scope (given_judgments st.inputs) None

pub record Ends (th : Theory) (sts : List Theorem) (k : ℕ) (scope : Names) (last : Option JudgmentScheme) (to : Standing) : Type 0 where
  pub form : JudgmentScheme
  pub last_is : last ≡ Some form
  pub st : Theorem
  pub here : slice_get sts k ≡ Some st
  pub goal : HasGoal th st scope form
  pub leads : to ≡ outside (suc k)

pub record Applies (th : Theory) (k : ℕ) (scope : Names) (scoped : List JudgmentScheme) (form : JudgmentScheme) (r : ℕ) (on : List ℕ) (to : Standing) : Type 0 where
  pub right : IsRightByRule th scope scoped form r on
  pub leads : to ≡ within k scope (scoped ++ form ∷ []) (Some form)

-- what a right step asks of where it stands, and where it leads
abbrev pub Follows : Theory → List Theorem → Standing → Step → Standing → Type 0
Follows th sts (outside k) (begin_theorem n) to = Begins th sts k n to
Follows th sts (outside k) (end_theorem line) to = ⊥
Follows th sts (outside k) (by_rule line form r on) to = ⊥
Follows th sts (within k scope scoped last) (begin_theorem n) to = ⊥
Follows th sts (within k scope scoped last) (end_theorem line) to = Ends th sts k scope last to
Follows th sts (within k scope scoped last) (by_rule line form r on) to = Applies th k scope scoped form r on to

pub follows : (th : Theory) (sts : List Theorem) (at to : Standing) (step : Step) → Move th sts at step to → Follows th sts at step to
follows th sts at to step (begins {k = k} {st = st} {scope = scope} here is) = record { number = refl; st = st; here = here; scope = scope; is_scope = is; leads = refl }
follows th sts at to step (by_a_rule {cited = cited} {rule = rule} form_is cited_are here is) =
    record { right = record { form_is = form_is; cited = cited; cited_are = cited_are; rule = rule; here = here; is_instance = is }; leads = refl }
follows th sts at to step (ends {st = st} {form = form} here goal) =
    record { form = form; last_is = refl; st = st; here = here; goal = goal; leads = refl }

-- a step that follows is right
pub moves : (th : Theory) (sts : List Theorem) (at to : Standing) (step : Step) → Follows th sts at step to → Move th sts at step to
moves th sts (outside k) to (begin_theorem n) f =
    subst (λ (t : Standing). Move th sts (outside k) (begin_theorem n) t) (sym f.leads)
    (subst (λ m. Move th sts (outside k) (begin_theorem m) (within k f.scope (given_judgments f.st.inputs) None)) (sym f.number) (begins f.here f.is_scope))
moves th sts (outside k) to (end_theorem line) f = absurd f
moves th sts (outside k) to (by_rule line form r on) f = absurd f
moves th sts (within k scope scoped last) to (begin_theorem n) f = absurd f
moves th sts (within k scope scoped last) to (end_theorem line) f =
    subst (λ (t : Standing). Move th sts (within k scope scoped last) (end_theorem line) t) (sym f.leads)
    (subst (λ (o : Option JudgmentScheme). Move th sts (within k scope scoped o) (end_theorem line) (outside (suc k))) (sym f.last_is) (ends f.here f.goal))
moves th sts (within k scope scoped last) to (by_rule line form r on) f =
    subst (λ (t : Standing). Move th sts (within k scope scoped last) (by_rule line form r on) t) (sym f.leads)
    (by_a_rule f.right.form_is f.right.cited_are f.right.here f.right.is_instance)

module _ (st : Theorem) where
  -- the names of a proof's scope are no more than so many of which each stands in an input
  no_longer : (a : Names) (n : ℕ) → IsProofScope st a → n ≤ length st.scope.metas → ((m : ℕ) → m < n → IsOfInputs st m) → length a.metas < n → ⊥
  no_longer a n is range all h =
      let whole : length st.scope.metas ≡ length a.metas + length is.goal_names = ap length is.split ∙ length-append a.metas is.goal_names in
      let some : 0 < length is.goal_names = omega (arith, whole, range, h) in
      let first = place_within is.goal_names 0 some in
      numbered_at (λ m decl. IsOfInputs st m → ⊥) (length a.metas) is.goal_names 0 first.0 is.further first.1
      (all (length a.metas + 0) (omega (arith, h)))

  each_of_inputs : (a : Names) → IsProofScope st a → (m : ℕ) → m < length a.metas → IsOfInputs st m
  each_of_inputs a is m h =
      let here = place_within a.metas m h in
      subst (λ k. IsOfInputs st k) (let e : 0 + m ≡ m = omega arith in e) (numbered_at (λ m decl. IsOfInputs st m) 0 a.metas m here.0 is.of_inputs here.1)

  in_range : (a : Names) → IsProofScope st a → length a.metas ≤ length st.scope.metas
  in_range a is = omega (arith, ap length is.split, length-append a.metas is.goal_names)

  -- a name that stands in an input is one of the proof's scope
  pub is_front : (a : Names) → IsProofScope st a → (m : ℕ) → m < length st.scope.metas → IsOfInputs st m → m < length a.metas
  is_front a is m h of =
      elim (cases_lt m (length a.metas)) [
        | inl k ↦ k
        | inr k ↦
            let whole : length st.scope.metas ≡ length a.metas + length is.goal_names = ap length is.split ∙ length-append a.metas is.goal_names in
            let some : m - length a.metas < length is.goal_names = omega (arith, whole, h, k) in
            let here = place_within is.goal_names (m - length a.metas) some in
            absurd (numbered_at (λ m decl. IsOfInputs st m → ⊥) (length a.metas) is.goal_names (m - length a.metas) here.0 is.further here.1
            (subst (λ n. IsOfInputs st n) (let e : m ≡ length a.metas + (m - length a.metas) = omega (arith, k) in e) of))
      ]

  -- only one scope is that of a statement's proof
  pub one_scope : (a b : Names) → IsProofScope st a → IsProofScope st b → a ≡ b
  one_scope a b is other =
      let long : length a.metas ≡ length b.metas =
      elim (cases_order (length a.metas) (length b.metas)) [
        | inl e ↦ e
        | inr h ↦ elim h [
          | inl k ↦ absurd (no_longer a (length b.metas) is (in_range b other) (each_of_inputs b other) k)
          | inr k ↦ absurd (no_longer b (length a.metas) other (in_range a is) (each_of_inputs a is) k)
        ]
      ] in
      let root : a.root ≡ b.root = is.root ∙ sym other.root in
      let metas : a.metas ≡ b.metas = same_front a.metas b.metas is.goal_names other.goal_names long (sym is.split ∙ other.split) in
      let knowns : a.knowns ≡ b.knowns = is.knowns ∙ sym other.knowns in
      λ i. record { root = root i; metas = metas i; knowns = knowns i }

  -- so many names as stand in inputs are those of the proof's scope
  pub counted : (a : Names) (n : ℕ) → IsProofScope st a → CountsInputs st n → n ≡ length a.metas
  counted a n is counts =
      elim (cases_order (length a.metas) n) [
        | inl e ↦ sym e
        | inr h ↦ elim h [
          | inl k ↦ absurd (no_longer a n is counts.in_range counts.of_inputs k)
          | inr k ↦ absurd (counts.further (omega (arith, k, in_range a is)) (each_of_inputs a is n k))
        ]
      ]

module _ (th : Theory) (sts : List Theorem) where
  one_beginning : (k n : ℕ) (to other : Standing) → Begins th sts k n to → Begins th sts k n other → to ≡ other
  one_beginning k n to other f g =
      let same : f.st ≡ g.st = same_Some f.st g.st (sym f.here ∙ g.here) in
      let scope : f.scope ≡ g.scope = one_scope g.st f.scope g.scope (subst (λ (s : Theorem). IsProofScope s f.scope) same f.is_scope) g.is_scope in
      f.leads ∙ (λ i. within k (scope i) (given_judgments (same i).inputs) None) ∙ sym g.leads

  pub one_to : (at to other : Standing) (step : Step) → Follows th sts at step to → Follows th sts at step other → to ≡ other
  one_to (outside k) to other (begin_theorem n) f g = one_beginning k n to other f g
  one_to (outside k) to other (end_theorem line) f g = absurd f
  one_to (outside k) to other (by_rule line form r on) f g = absurd f
  one_to (within k scope scoped last) to other (begin_theorem n) f g = absurd f
  one_to (within k scope scoped last) to other (end_theorem line) f g = f.leads ∙ sym g.leads
  one_to (within k scope scoped last) to other (by_rule line form r on) f g = f.leads ∙ sym g.leads

  -- steps that lead somewhere, by whether there is a first one
  abbrev pub LeadsOn : Standing → List Step → Standing → Type 0
  LeadsOn at [] to = at ≡ to
  LeadsOn at (step ∷ steps) to = (mid : Standing) × Follows th sts at step mid × Leads th sts mid steps to

  pub leads_on : (at to : Standing) (steps : List Step) → Leads th sts at steps to → LeadsOn at steps to
  leads_on at to steps no_step = refl
  leads_on at to steps (one_step {then_at = mid} {step = step} move rest) = (mid, follows th sts at mid step move, rest)

  pub one_end : (steps : List Step) (at to other : Standing) → Leads th sts at steps to → Leads th sts at steps other → to ≡ other
  one_end [] at to other f g = sym (leads_on at to [] f) ∙ leads_on at other [] g
  one_end (step ∷ steps) at to other f g =
      let a = leads_on at to (step ∷ steps) f in
      let b = leads_on at other (step ∷ steps) g in
      let same : a.0 ≡ b.0 = one_to at a.0 b.0 step a.1 b.1 in
      one_end steps b.0 to other (subst (λ (m : Standing). Leads th sts m steps to) same a.2) b.2

  -- one step more at the end
  pub leads_more : (steps : List Step) (step : Step) (at mid to : Standing) → Leads th sts at steps mid → Follows th sts mid step to → Leads th sts at (steps ++ step ∷ []) to
  leads_more [] step at mid to f more =
      subst (λ (m : Standing). Leads th sts m (step ∷ []) to) (sym (leads_on at mid [] f)) (one_step (moves th sts mid to step more) no_step)
  leads_more (first ∷ steps) step at mid to f more =
      let a = leads_on at mid (first ∷ steps) f in
      one_step (moves th sts at a.0 first a.1) (leads_more steps step a.0 mid to a.2 more)

  leads_less : (steps : List Step) (step : Step) (at to : Standing) → Leads th sts at (steps ++ step ∷ []) to → (mid : Standing) × Leads th sts at steps mid × Follows th sts mid step to
  leads_less [] step at to f =
      let a = leads_on at to (step ∷ []) f in
      (at, no_step, subst (λ (m : Standing). Follows th sts at step m) (leads_on a.0 to [] a.2) a.1)
  leads_less (first ∷ steps) step at to f =
      let a = leads_on at to (first ∷ (steps ++ step ∷ [])) f in
      let rest = leads_less steps step a.0 to a.2 in
      (rest.0, one_step (moves th sts at a.0 first a.1) rest.1, rest.2)

  -- where a step does not follow, no steps with it at the end lead anywhere
  pub no_more : (steps : List Step) (step : Step) (at mid : Standing) → Leads th sts at steps mid → ((to : Standing) → Follows th sts mid step to → ⊥) →
      (to : Standing) → Leads th sts at (steps ++ step ∷ []) to → ⊥
  no_more steps step at mid f none to g =
      let less = leads_less steps step at to g in
      none to (subst (λ (m : Standing). Follows th sts m step to) (one_end steps at less.0 mid less.1 f) less.2)
