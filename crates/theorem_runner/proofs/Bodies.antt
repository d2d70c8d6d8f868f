-- In right proofs the proof of each statement begins once.
use Rattle.std.proofs.lemmas.Bool.{cases_eq}
use Rattle.std.proofs.lemmas.Option.{slice_get_within}
use Rattle.std.proofs.Common.{inl, inr, ◌≡◌, ℕ, suc, ◌+◌, ◌*◌, ◌<◌, ◌≤◌, List, [], ◌∷◌, ◌++◌, length, Some, None, slice_get, refl, ap, ◌∙◌, sym, subst, arith}
use Rattle.scheme_terms.specs.Forms.{Names}
use Rattle.rule_schemes.specs.Rules.{Theory}
use Rattle.rule_schemes.specs.Statement.{Theorem}
use Rattle.core_proofs.specs.Step.{Step, begin_theorem, end_theorem, by_rule}
use Rattle.proof_trees.specs.Right.{IsProofScope}
use Rattle.core_proofs.specs.Proof.{given_judgments, Standing, outside, within, Leads, Proves}
use Rattle.core_proofs.proofs.Moving.{Begins, Follows, leads_on}

-- how far the theorems are: two for each ended one, and one for the one that was begun
abbrev reached : Standing → ℕ
reached (outside k) = 2 * k
reached (within k scope scoped last) = 2 * k + 1

module _ (th : Theory) (sts : List Theorem) where
  step_reaches : (at to : Standing) (step : Step) → Follows th sts at step to → reached at ≤ reached to
  step_reaches (outside k) to (begin_theorem n) f = subst (λ (t : Standing). 2 * k ≤ reached t) (sym f.leads) (omega arith)
  step_reaches (outside k) to (end_theorem line) f = absurd f
  step_reaches (outside k) to (by_rule line form r on) f = absurd f
  step_reaches (within k scope scoped last) to (begin_theorem n) f = absurd f
  step_reaches (within k scope scoped last) to (end_theorem line) f = subst (λ (t : Standing). 2 * k + 1 ≤ reached t) (sym f.leads) (omega arith)
  step_reaches (within k scope scoped last) to (by_rule line form r on) f = subst (λ (t : Standing). 2 * k + 1 ≤ reached t) (sym f.leads) (omega arith)

  -- what a beginning says of where it stands
  begins_outside : (at to : Standing) (n : ℕ) → Follows th sts at (begin_theorem n) to → (reached at ≡ 2 * n) × (reached to ≡ 2 * n + 1)
  begins_outside (outside k) to n f =
      let here : reached (outside k) ≡ 2 * n = omega (arith, f.number) in
      let there : reached to ≡ 2 * n + 1 = ap reached f.leads ∙ (let e : 2 * k + 1 ≡ 2 * n + 1 = omega (arith, f.number) in e) in
      (here, there)
  begins_outside (within k scope scoped last) to n f = absurd f

  -- a proof that begins after some steps has reached its number there
  begins_past : (before : List Step) (n : ℕ) (body : List Step) (at to : Standing) → Leads th sts at (before ++ begin_theorem n ∷ body) to → reached at ≤ 2 * n
  begins_past [] n body at to leads =
      let on = leads_on th sts at to (begin_theorem n ∷ body) leads in
      let start = begins_outside at on.0 n on.1 in
      omega (arith, start.0)
  begins_past (s ∷ before) n body at to leads =
      let on = leads_on th sts at to (s ∷ (before ++ begin_theorem n ∷ body)) leads in
      let more = step_reaches at on.0 s on.1 in
      let rest = begins_past before n body on.0 to on.2 in
      omega (arith, more, rest)

  -- it does not begin again
  begins_once : (before : List Step) (n : ℕ) (body : List Step) (at mid to : Standing) → Follows th sts at (begin_theorem n) mid →
      Leads th sts mid (before ++ begin_theorem n ∷ body) to → ⊥
  begins_once before n body at mid to f leads =
      let start = begins_outside at mid n f in
      let past = begins_past before n body mid to leads in
      omega (arith, start.1, past)

  pub one_body : (steps b1 b2 body1 body2 : List Step) (n : ℕ) (at to : Standing) → Leads th sts at steps to →
      steps ≡ b1 ++ begin_theorem n ∷ body1 → steps ≡ b2 ++ begin_theorem n ∷ body2 → body1 ≡ body2
  one_body steps [] [] body1 body2 n at to leads e f = let whole : begin_theorem n ∷ body1 ≡ begin_theorem n ∷ body2 = sym e ∙ f in cc
  one_body steps [] (s ∷ b2) body1 body2 n at to leads e f =
      let whole : begin_theorem n ∷ body1 ≡ s ∷ (b2 ++ begin_theorem n ∷ body2) = sym e ∙ f in
      let rest : body1 ≡ b2 ++ begin_theorem n ∷ body2 = cc in
      let on = leads_on th sts at to (begin_theorem n ∷ body1) (subst (λ ss. Leads th sts at ss to) e leads) in
      absurd (begins_once b2 n body2 at on.0 to on.1 (subst (λ ss. Leads th sts on.0 ss to) rest on.2))
  one_body steps (s ∷ b1) [] body1 body2 n at to leads e f =
      let whole : begin_theorem n ∷ body2 ≡ s ∷ (b1 ++ begin_theorem n ∷ body1) = sym f ∙ e in
      let rest : body2 ≡ b1 ++ begin_theorem n ∷ body1 = cc in
      let on = leads_on th sts at to (begin_theorem n ∷ body2) (subst (λ ss. Leads th sts at ss to) f leads) in
      absurd (begins_once b1 n body1 at on.0 to on.1 (subst (λ ss. Leads th sts on.0 ss to) rest on.2))
  one_body steps (s ∷ b1) (t ∷ b2) body1 body2 n at to leads e f =
      let whole : s ∷ (b1 ++ begin_theorem n ∷ body1) ≡ t ∷ (b2 ++ begin_theorem n ∷ body2) = sym e ∙ f in
      let rest : b1 ++ begin_theorem n ∷ body1 ≡ b2 ++ begin_theorem n ∷ body2 = cc in
      let on = leads_on th sts at to (s ∷ (b1 ++ begin_theorem n ∷ body1)) (subst (λ ss. Leads th sts at ss to) e leads) in
      one_body (b1 ++ begin_theorem n ∷ body1) b1 b2 body1 body2 n on.0 to on.2 refl rest

  -- where a proof begins, with the steps after it
  pub record HasBody (steps : List Step) (n : ℕ) (to : Standing) : Type 0 where
    pub before : List Step
    pub body : List Step
    pub split : steps ≡ before ++ begin_theorem n ∷ body
    pub st : Theorem
    pub here : slice_get sts n ≡ Some st
    pub scope : Names
    pub is_scope : IsProofScope st scope
    pub leads : Leads th sts (within n scope (given_judgments st.inputs) None) body to

  later : (steps : List Step) (n : ℕ) (s : Step) (to : Standing) → HasBody steps n to → HasBody (s ∷ steps) n to
  later steps n s to rest = record {
    before = s ∷ rest.before;
    body = rest.body;
    split = ap (λ ss. s ∷ ss) rest.split;
    st = rest.st;
    here = rest.here;
    scope = rest.scope;
    is_scope = rest.is_scope;
    leads = rest.leads;
  }

  begins_here : (steps : List Step) (n k m : ℕ) (mid to : Standing) → Begins th sts k m mid → k ≡ n → Leads th sts mid steps to → HasBody (begin_theorem m ∷ steps) n to
  begins_here steps n k m mid to f same leads = record {
    before = [];
    body = steps;
    split = ap (λ j. begin_theorem j ∷ steps) (f.number ∙ same);
    st = f.st;
    here = ap (slice_get sts) (sym same) ∙ f.here;
    scope = f.scope;
    is_scope = f.is_scope;
    leads = subst (λ (t : Standing). Leads th sts t steps to) (f.leads ∙ ap (λ j. within j f.scope (given_judgments f.st.inputs) None) same) leads;
  }

  body_step : (steps : List Step) (n : ℕ) (at mid to : Standing) (s : Step) → Follows th sts at s mid → reached at ≤ 2 * n → Leads th sts mid steps to →
      (reached mid ≤ 2 * n → HasBody steps n to) → HasBody (s ∷ steps) n to
  body_step steps n (outside k) mid to (begin_theorem m) f less leads rest = elim (cases_eq k n) [
    | inl same ↦ begins_here steps n k m mid to f same leads
    | inr other ↦
        let there : reached mid ≡ 2 * k + 1 = ap reached f.leads in
        let below : k < n = omega (arith, less, other) in
        later steps n (begin_theorem m) to (rest (omega (arith, there, below)))
  ]
  body_step steps n (outside k) mid to (end_theorem line) f less leads rest = absurd f
  body_step steps n (outside k) mid to (by_rule line form r on) f less leads rest = absurd f
  body_step steps n (within k scope scoped last) mid to (begin_theorem m) f less leads rest = absurd f
  body_step steps n (within k scope scoped last) mid to (end_theorem line) f less leads rest =
      let there : reached mid ≡ 2 * suc k = ap reached f.leads in
      later steps n (end_theorem line) to (rest (omega (arith, there, less)))
  body_step steps n (within k scope scoped last) mid to (by_rule line form r on) f less leads rest =
      let there : reached mid ≡ 2 * k + 1 = ap reached f.leads in
      later steps n (by_rule line form r on) to (rest (omega (arith, there, less)))

  -- from where less was reached, each proof up to the end begins
  has_body : (steps : List Step) (n : ℕ) (at to : Standing) → Leads th sts at steps to → reached at ≤ 2 * n → 2 * n < reached to → HasBody steps n to
  has_body [] n at to leads less more =
      let e : reached at ≡ reached to = ap reached (leads_on th sts at to [] leads) in
      absurd (let no : ⊥ = omega (arith, e, less, more) in no)
  has_body (s ∷ steps) n at to leads less more =
      let on = leads_on th sts at to (s ∷ steps) leads in
      body_step steps n at on.0 to s on.1 less on.2 (λ h. has_body steps n on.0 to on.2 h more)

  -- each statement has a proof
  pub proof_of : (steps : List Step) (n : ℕ) (st : Theorem) → Proves th sts steps → slice_get sts n ≡ Some st → HasBody steps n (outside (length sts))
  proof_of steps n st proves here =
      let below = slice_get_within sts n st here in
      has_body steps n (outside 0) (outside (length sts)) proves (omega arith) (omega (arith, below))
