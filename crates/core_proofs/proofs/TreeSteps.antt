-- Steps that can be kept so far lead on in the proofs on trees exactly as they do here.
use Rattle.std.proofs.Common.{◌≡◌, ◌↔◌, ◌⊎◌, ℕ, zero, suc, List, [], ◌∷◌, ◌++◌, length, map, drop, get_or, Option, Some, None, slice_get, unwrap_or, inl, inr, refl, ap, ◌∙◌, sym, subst}
use Rattle.std.specs.Prelude.{option_map}
use Rattle.std.specs.List.{AllByRecursion}
use Rattle.std.proofs.lemmas.List.{map-append}
use Rattle.std.proofs.lemmas.Option.{same_Some}
use Rattle.scheme_terms.specs.Forms.{Names, SchemeEntry}
use Rattle.scheme_terms.specs.declared.scheme.Root.{Root}
use Rattle.scheme_terms.specs.declared.scheme.Root.TheVariants.{Closed}
use Rattle.rule_schemes.specs.Plain.{IsPlainSystem}
use Rattle.rule_schemes.specs.Rules.{JudgmentScheme, Rule, Theory, IsAssumption, IsOneEntry}
use Rattle.rule_schemes.specs.Statement.{StatementInput, given, syntax_input, Theorem}
use Rattle.proof_trees.specs.Steps as trees
use Rattle.proof_trees.specs.Here.{Here, Held, Goal, unrelated, given_held, after_step, beginning}
use Rattle.proof_trees.specs.Goals as goals
use Rattle.proof_trees.specs.Goals.{Last, no_step, with_forms, EndsWithGoal}
use Rattle.proof_trees.specs.Right as right
use Rattle.proof_trees.specs.Right.{IsProofScope, IsRightStep, right_by_rule}
use Rattle.proof_trees.specs.RuleStep.{IsRuleInstance, IsAssumptionInstance, IsByRule}
use Rattle.proof_trees.specs.Standings as standings
use Rattle.proof_trees.specs.Standings.{GoesOn, begins, ends, by_step, Opened}
use Rattle.core_proofs.specs.Proof.{HasGoal, Standing, outside, within, given_judgments, Leads, no_step as none_more, one_step, Proves}
use Rattle.core_proofs.specs.Provable.{IsProvable}
use Rattle.core_proofs.specs.RuleStep.{AreCited}
use Rattle.core_proofs.specs.Step.{Step, begin_theorem, end_theorem, by_rule}
use Rattle.core_proofs.specs.Trees.{whole_step, ProvesAreTrees}
use Rattle.core_proofs.proofs.Moving.{Follows, Begins, Ends, Applies, moves, leads_on}
use Rattle.core_proofs.proofs.PlainForms.{plain_rule_at}
use Rattle.core_proofs.proofs.TreeGoals.{goal_of_proof, goal_on_tree, goal_of_tree}
use Rattle.binding_terms.proofs.Lists.{all_at}

-- the judgment that is held under a number
abbrev pub seen : Option Held → Option JudgmentScheme
seen h = option_map (λ x. x.judgment) h

abbrev put_some : JudgmentScheme → Option JudgmentScheme
put_some j = Some j

same_seen : (hs : List (Option Held)) (js : List JudgmentScheme) (n : ℕ) → map seen hs ≡ map put_some js →
    seen (unwrap_or (slice_get hs n) None) ≡ slice_get js n
same_seen [] [] n e = refl
same_seen [] (j ∷ js) n e = absurd (let no : ⊥ = cc in no)
same_seen (h ∷ hs) [] n e = absurd (let no : ⊥ = cc in no)
same_seen (h ∷ hs) (j ∷ js) zero e = ap (λ (xs : List (Option JudgmentScheme)). get_or xs 0 None) e
same_seen (h ∷ hs) (j ∷ js) (suc n) e = same_seen hs js n (ap (λ (xs : List (Option JudgmentScheme)). drop 1 xs) e)

module _ (here : Here) (scoped : List JudgmentScheme) (e : map seen here.held ≡ map put_some scoped) where
  cited_on_tree : (on : List ℕ) (cited : List JudgmentScheme) → AreCited scoped on cited → right.AreCited here on cited
  cited_on_tree [] [] h = tt
  cited_on_tree [] (j ∷ js) h = absurd h
  cited_on_tree (n ∷ on) [] h = absurd h
  cited_on_tree (n ∷ on) (j ∷ js) h = (same_seen here.held scoped n e ∙ h.0, cited_on_tree on js h.1)

  cited_of_tree : (on : List ℕ) (cited : List JudgmentScheme) → right.AreCited here on cited → AreCited scoped on cited
  cited_of_tree [] [] h = tt
  cited_of_tree [] (j ∷ js) h = absurd h
  cited_of_tree (n ∷ on) [] h = absurd h
  cited_of_tree (n ∷ on) (j ∷ js) h = (sym (same_seen here.held scoped n e) ∙ h.0, cited_of_tree on js h.1)

no_entry : (root : Root) (es : List SchemeEntry) → root ≡ Closed → IsOneEntry root es → ⊥
no_entry root es e h = subst (λ r. IsOneEntry r es → ⊥) (sym e) (λ x. x) h

-- the form of the last step, as the last of a proof on a tree
abbrev pub last_step : Option JudgmentScheme → Last
last_step None = no_step
last_step (Some j) = with_forms (j ∷ [])

-- what is in scope here is in scope there, with the goal of the proof as it began
pub record IsSamePlace (sts : List Theorem) (k : ℕ) (scope : Names) (scoped : List JudgmentScheme) (last : Option JudgmentScheme) (here : Here) (end : Last) : Type 0 where
  pub scope_is : here.scope ≡ scope
  pub held_are : map seen here.held ≡ map put_some scoped
  pub last_is : end ≡ last_step last
  pub st : Theorem
  pub there : slice_get sts k ≡ Some st
  pub is_scope : IsProofScope st scope
  pub goal_is : here.goal ≡ goal_of_proof st scope is_scope

abbrev pub Same : List Theorem → Standing → standings.Standing → Type 0
Same sts (outside k) (standings.outside n) = k ≡ n
Same sts (within k scope scoped last) (standings.within n here end []) = (k ≡ n) × IsSamePlace sts k scope scoped last here end
Same sts _ _ = ⊥

-- what is given has a judgment
given_seen : (n : ℕ) (targets : List ℕ) (inputs : List StatementInput) → map seen (given_held n targets inputs) ≡ map put_some (given_judgments inputs)
given_seen n targets [] = refl
given_seen n targets (given j ∷ inputs) = ap (λ (xs : List (Option JudgmentScheme)). Some j ∷ xs) (given_seen (suc n) targets inputs)
given_seen n targets (syntax_input m ∷ inputs) = given_seen (suc n) targets inputs

begun_place : (sts : List Theorem) (k : ℕ) (st : Theorem) (scope : Names) → slice_get sts k ≡ Some st → (is : IsProofScope st scope) →
    IsSamePlace sts k scope (given_judgments st.inputs) None (beginning st scope is.goal_names) no_step
begun_place sts k st scope there is =
    record { scope_is = refl; held_are = given_seen 0 st.targets st.inputs; last_is = refl; st = st; there = there; is_scope = is; goal_is = refl }

-- one form more
more_place : (sts : List Theorem) (k : ℕ) (scope : Names) (scoped : List JudgmentScheme) (last : Option JudgmentScheme) (here : Here) (end : Last) (line r : ℕ) (form : JudgmentScheme) (on : List ℕ) →
    IsSamePlace sts k scope scoped last here end →
    IsSamePlace sts k scope (scoped ++ form ∷ []) (Some form) (after_step here (trees.by_rule line form r on)) (with_forms (form ∷ []))
more_place sts k scope scoped last here end line r form on same =
    record {
      scope_is = same.scope_is;
      held_are = map-append seen here.held (Some (unrelated here form) ∷ []) ∙ ap (λ (xs : List (Option JudgmentScheme)). xs ++ Some form ∷ []) same.held_are
          ∙ sym (map-append put_some scoped (form ∷ []));
      last_is = refl;
      st = same.st;
      there = same.there;
      is_scope = same.is_scope;
      goal_is = same.goal_is;
    }

-- the ways in which steps go on in proofs on trees
record BeginsThere (sts : List Theorem) (n : ℕ) (at to : standings.Standing) : Type 0 where
  st : Theorem
  there : slice_get sts n ≡ Some st
  scope : Names
  is_scope : IsProofScope st scope
  at_is : at ≡ standings.outside n
  to_is : to ≡ standings.within n (beginning st scope is_scope.goal_names) no_step []

record EndsThere (th : Theory) (at to : standings.Standing) : Type 0 where
  k : ℕ
  here : Here
  last : Last
  goal : EndsWithGoal th here last
  at_is : at ≡ standings.within k here last []
  to_is : to ≡ standings.outside (suc k)

record RuleThere (th : Theory) (line : ℕ) (form : JudgmentScheme) (r : ℕ) (on : List ℕ) (at to : standings.Standing) : Type 0 where
  k : ℕ
  here : Here
  last : Last
  blocks : List Opened
  cited : List JudgmentScheme
  form_is : right.IsStepForm th here.scope form
  are_cited : right.AreCited here on cited
  by : IsByRule th here.scope form cited r
  at_is : at ≡ standings.within k here last blocks
  to_is : to ≡ standings.within k (after_step here (trees.by_rule line form r on)) (with_forms (form ∷ [])) blocks

module _ (th : Theory) (sts : List Theorem) where
  begins_there : {n : ℕ} {at to : standings.Standing} → GoesOn th sts at (trees.begin_theorem n) to → BeginsThere sts n at to
  begins_there (begins {st = st} {scope = scope} there is_scope) =
      record { st = st; there = there; scope = scope; is_scope = is_scope; at_is = refl; to_is = refl }

  ends_there : {line : ℕ} {at to : standings.Standing} → GoesOn th sts at (trees.end_theorem line) to → EndsThere th at to
  ends_there (ends {k = k} {here = here} {last = last} goal) = record { k = k; here = here; last = last; goal = goal; at_is = refl; to_is = refl }

  rule_there : {line r : ℕ} {form : JudgmentScheme} {on : List ℕ} {at to : standings.Standing} → GoesOn th sts at (trees.simple (trees.by_rule line form r on)) to →
      RuleThere th line form r on at to
  rule_there (by_step {k = k} {here = here} {last = last} {blocks = blocks} (right_by_rule cited form_is are_cited by)) =
      record { k = k; here = here; last = last; blocks = blocks; cited = cited; form_is = form_is; are_cited = are_cited; by = by; at_is = refl; to_is = refl }

-- over such a system a step by a rule goes by an ordinary one
pub ordinary : (th : Theory) → IsPlainSystem th → (r : ℕ) (rule : Rule) → slice_get th.rules r ≡ Some rule → IsAssumption rule → ⊥
ordinary th system r rule here = no_entry rule.conclusion.context.root rule.conclusion.context.entries (plain_rule_at th system r rule here).conclusion.root

module _ (th : Theory) (system : IsPlainSystem th) (sts : List Theorem) (provable : AllByRecursion (IsProvable th) sts) where
  no_knowns : (k : ℕ) (st : Theorem) → slice_get sts k ≡ Some st → st.scope.knowns ≡ []
  no_knowns k st there = (all_at (IsProvable th) sts k st provable there).scope.1

  -- what a step follows in, where the steps stand alike
  abbrev Next : Standing → Step → standings.Standing → Standing → Type 0
  Next at s there to = (next : standings.Standing) × GoesOn th sts there (whole_step s) next × Same sts to next

  up_begin : (k n m : ℕ) (to : Standing) → k ≡ m → Begins th sts k n to → Next (outside k) (begin_theorem n) (standings.outside m) to
  up_begin k n m to same f =
      let next : standings.Standing = standings.within m (beginning f.st f.scope f.is_scope.goal_names) no_step [] in
      let there : slice_get sts n ≡ Some f.st = ap (slice_get sts) f.number ∙ f.here in (
        next,
        subst
            (λ x. GoesOn th sts (standings.outside x) (trees.begin_theorem n) (standings.within x (beginning f.st f.scope f.is_scope.goal_names) no_step []))
            (f.number ∙ same) (begins there f.is_scope),
        subst (λ (t : Standing). Same sts t next) (sym f.leads) (same, begun_place sts k f.st f.scope f.here f.is_scope),
      )

  module _ (k m : ℕ) (scope : Names) (scoped : List JudgmentScheme) (last : Option JudgmentScheme) (here : Here) (end : Last)
      (number : k ≡ m) (p : IsSamePlace sts k scope scoped last here end) where
    goal_there : (form : JudgmentScheme) (st : Theorem) → slice_get sts k ≡ Some st → last ≡ Some form → HasGoal th st scope form → EndsWithGoal th here end
    goal_there form st at last_is goal =
        let same : st ≡ p.st = same_Some st p.st (sym at ∙ p.there) in
        let on_tree : goals.HasGoal th scope (goal_of_proof p.st scope p.is_scope) (form ∷ []) =
        goal_on_tree th p.st scope p.is_scope (no_knowns k p.st p.there) form (subst (λ (t : Theorem). HasGoal th t scope form) same goal) in
        let of_goal : goals.HasGoal th scope here.goal (form ∷ []) = subst (λ (g : Goal). goals.HasGoal th scope g (form ∷ [])) (sym p.goal_is) on_tree in
        subst (EndsWithGoal th here) (sym (p.last_is ∙ ap last_step last_is))
        (subst (λ (n : Names). goals.HasGoal th n here.goal (form ∷ [])) (sym p.scope_is) of_goal)

    goal_here : (form : JudgmentScheme) → EndsWithGoal th here (with_forms (form ∷ [])) → HasGoal th p.st scope form
    goal_here form goal =
        goal_of_tree th p.st scope p.is_scope (no_knowns k p.st p.there) form
        (subst (λ (g : Goal). goals.HasGoal th scope g (form ∷ [])) p.goal_is
        (subst (λ (n : Names). goals.HasGoal th n here.goal (form ∷ [])) p.scope_is goal))

    up_end : (line : ℕ) (to : Standing) → Ends th sts k scope last to → Next (within k scope scoped last) (end_theorem line) (standings.within m here end []) to
    up_end line to f = (
      standings.outside (suc m),
      ends (goal_there f.form f.st f.here f.last_is f.goal),
      subst (λ (t : Standing). Same sts t (standings.outside (suc m))) (sym f.leads) (ap (λ n. suc n) number),
    )

    up_rule : (line r : ℕ) (form : JudgmentScheme) (on : List ℕ) (to : Standing) → Applies th k scope scoped form r on to →
        Next (within k scope scoped last) (by_rule line form r on) (standings.within m here end []) to
    up_rule line r form on to f =
        let form_is : right.IsStepForm th here.scope form =
        subst (λ (n : Names). right.IsStepForm th n form) (sym p.scope_is)
        (record {
          form_is = record { in_scope = f.right.form_is.in_scope; root = f.right.form_is.root; entries = f.right.form_is.entries };
          may_stand = f.right.form_is.may_stand;
        }) in
        let by : IsByRule th here.scope form f.right.cited r =
        subst (λ (n : Names). IsByRule th n form f.right.cited r) (sym p.scope_is)
        (record { rule = f.right.rule; there = f.right.here; is_instance = inl f.right.is_instance }) in
        let next : standings.Standing = standings.within m (after_step here (trees.by_rule line form r on)) (with_forms (form ∷ [])) [] in (
          next,
          by_step (right_by_rule f.right.cited form_is (cited_on_tree here scoped p.held_are on f.right.cited f.right.cited_are) by),
          subst (λ (t : Standing). Same sts t next) (sym f.leads) (number, more_place sts k scope scoped last here end line r form on p),
        )

  up_step : (at to : Standing) (s : Step) (there : standings.Standing) → Same sts at there → Follows th sts at s to → Next at s there to
  up_step (outside k) to (begin_theorem n) (standings.outside m) same f = up_begin k n m to same f
  up_step (outside k) to (end_theorem line) there same f = absurd f
  up_step (outside k) to (by_rule line form r on) there same f = absurd f
  up_step (outside k) to (begin_theorem n) (standings.within m here end blocks) same f = absurd same
  up_step (outside k) to (begin_theorem n) (standings.between m o blocks) same f = absurd same
  up_step (within k scope scoped last) to (begin_theorem n) there same f = absurd f
  up_step (within k scope scoped last) to s (standings.outside m) same f = absurd same
  up_step (within k scope scoped last) to s (standings.between m o blocks) same f = absurd same
  up_step (within k scope scoped last) to s (standings.within m here end (o ∷ blocks)) same f = absurd same
  up_step (within k scope scoped last) to (end_theorem line) (standings.within m here end []) same f =
      up_end k m scope scoped last here end same.0 same.1 line to f
  up_step (within k scope scoped last) to (by_rule line form r on) (standings.within m here end []) same f =
      up_rule k m scope scoped last here end same.0 same.1 line r form on to f

  -- the other way round
  abbrev Before : Standing → Step → standings.Standing → Type 0
  Before at s next = (to : Standing) × Follows th sts at s to × Same sts to next

  down_begin : (at : Standing) (n : ℕ) (there next : standings.Standing) → BeginsThere sts n there next → Same sts at (standings.outside n) → Before at (begin_theorem n) next
  down_begin (outside k) n there next b same =
      let at_k : slice_get sts k ≡ Some b.st = ap (slice_get sts) same ∙ b.there in
      let to : Standing = within k b.scope (given_judgments b.st.inputs) None in (
        to,
        record { number = sym same; st = b.st; here = at_k; scope = b.scope; is_scope = b.is_scope; leads = refl },
        subst (Same sts to) (sym b.to_is) (same, begun_place sts k b.st b.scope at_k b.is_scope),
      )
  down_begin (within k scope scoped last) n there next b same = absurd same

  down_end : (at : Standing) (line : ℕ) (there next : standings.Standing) (e : EndsThere th there next) → Same sts at (standings.within e.k e.here e.last []) →
      Before at (end_theorem line) next
  down_end (outside k) line there next e same = absurd same
  down_end (within k scope scoped None) line there next e same = absurd (subst (EndsWithGoal th e.here) same.1.last_is e.goal)
  down_end (within k scope scoped (Some form)) line there next e same = (
    outside (suc k),
    record {
      form = form;
      last_is = refl;
      st = same.1.st;
      here = same.1.there;
      goal = goal_here k e.k scope scoped (Some form) e.here e.last same.0 same.1 form (subst (EndsWithGoal th e.here) same.1.last_is e.goal);
      leads = refl;
    },
    subst (Same sts (outside (suc k))) (sym e.to_is) (ap (λ n. suc n) same.0),
  )

  instance_of : (scope : Names) (form : JudgmentScheme) (cited : List JudgmentScheme) (r : ℕ) (rule : Rule) → slice_get th.rules r ≡ Some rule →
      IsRuleInstance th scope form cited rule ⊎ IsAssumptionInstance th scope form cited rule → IsRuleInstance th scope form cited rule
  instance_of scope form cited r rule here (inl is) = is
  instance_of scope form cited r rule here (inr is) = absurd (ordinary th system r rule here is.is_assumption)

  down_rule : (at : Standing) (line r : ℕ) (form : JudgmentScheme) (on : List ℕ) (there next : standings.Standing) (g : RuleThere th line form r on there next) →
      Same sts at (standings.within g.k g.here g.last g.blocks) → Before at (by_rule line form r on) next
  down_rule at line r form on there next g same = at_blocks at g.blocks refl same
    where
      in_place : (k : ℕ) (scope : Names) (scoped : List JudgmentScheme) (last : Option JudgmentScheme) → g.blocks ≡ [] → k ≡ g.k →
          IsSamePlace sts k scope scoped last g.here g.last → Before (within k scope scoped last) (by_rule line form r on) next
      in_place k scope scoped last none number p =
          let form_is : right.IsStepForm th scope form = subst (λ (n : Names). right.IsStepForm th n form) p.scope_is g.form_is in
          let by : IsByRule th scope form g.cited r = subst (λ (n : Names). IsByRule th n form g.cited r) p.scope_is g.by in
          let to : Standing = within k scope (scoped ++ form ∷ []) (Some form) in
          let next_is : next ≡ standings.within g.k (after_step g.here (trees.by_rule line form r on)) (with_forms (form ∷ [])) [] =
          g.to_is ∙ ap (standings.within g.k (after_step g.here (trees.by_rule line form r on)) (with_forms (form ∷ []))) none in (
            to,
            record {
              right = record {
                form_is = record {
                  in_scope = form_is.form_is.in_scope;
                  root = form_is.form_is.root;
                  entries = form_is.form_is.entries;
                  may_stand = form_is.may_stand;
                };
                cited = g.cited;
                cited_are = cited_of_tree g.here scoped p.held_are on g.cited g.are_cited;
                rule = by.rule;
                here = by.there;
                is_instance = instance_of scope form g.cited r by.rule by.there by.is_instance;
              };
              leads = refl;
            },
            subst (Same sts to) (sym next_is) (number, more_place sts k scope scoped last g.here g.last line r form on p),
          )

      at_blocks : (at : Standing) (blocks : List Opened) → g.blocks ≡ blocks → Same sts at (standings.within g.k g.here g.last blocks) → Before at (by_rule line form r on) next
      at_blocks (outside k) blocks e same = absurd same
      at_blocks (within k scope scoped last) [] e same = in_place k scope scoped last e same.0 same.1
      at_blocks (within k scope scoped last) (o ∷ blocks) e same = absurd same

  down_step : (at : Standing) (s : Step) (there next : standings.Standing) → Same sts at there → GoesOn th sts there (whole_step s) next → Before at s next
  down_step at (begin_theorem n) there next same g =
      let b = begins_there th sts g in down_begin at n there next b (subst (Same sts at) b.at_is same)
  down_step at (end_theorem line) there next same g =
      let e = ends_there th sts g in down_end at line there next e (subst (Same sts at) e.at_is same)
  down_step at (by_rule line form r on) there next same g =
      let b = rule_there th sts g in down_rule at line r form on there next b (subst (Same sts at) b.at_is same)

  -- steps in order
  pub leads_up : (steps : List Step) (at to : Standing) (there : standings.Standing) → Same sts at there → Leads th sts at steps to →
      (end : standings.Standing) × standings.Leads th sts there (map whole_step steps) end × Same sts to end
  leads_up [] at to there same l = (there, standings.no_more_steps, subst (λ (t : Standing). Same sts t there) (leads_on th sts at to [] l) same)
  leads_up (s ∷ steps) at to there same l =
      let a = leads_on th sts at to (s ∷ steps) l in
      let u = up_step at a.0 s there same a.1 in
      let rest = leads_up steps a.0 to u.0 u.2 a.2 in
      (rest.0, standings.one_step u.1 rest.1, rest.2)

  pub leads_down : (steps : List Step) (at : Standing) (there end : standings.Standing) → Same sts at there → standings.Leads th sts there (map whole_step steps) end →
      (to : Standing) × Leads th sts at steps to × Same sts to end
  leads_down [] at there end same standings.no_more_steps = (at, none_more, same)
  leads_down (s ∷ steps) at there end same (standings.one_step {next = mid} g l) =
      let d = down_step at s there mid same g in
      let rest = leads_down steps d.0 mid end d.2 l in
      (rest.0, one_step (moves th sts at d.0 s d.1) rest.1, rest.2)

  outside_there : (n : ℕ) (end : standings.Standing) → Same sts (outside n) end → end ≡ standings.outside n
  outside_there n (standings.outside m) e = ap standings.outside (sym e)
  outside_there n (standings.within m here end blocks) e = absurd e
  outside_there n (standings.between m o blocks) e = absurd e

  outside_here : (n : ℕ) (to : Standing) → Same sts to (standings.outside n) → to ≡ outside n
  outside_here n (outside k) e = ap outside e
  outside_here n (within k scope scoped last) e = absurd e

  pub proves_alike : (steps : List Step) → Proves th sts steps ↔ standings.Proves th sts (map whole_step steps)
  proves_alike steps = (
    λ l. let u = leads_up steps (outside 0) (outside (length sts)) (standings.outside 0) refl l in
        subst (standings.Leads th sts (standings.outside 0) (map whole_step steps)) (outside_there (length sts) u.0 u.2) u.1,
    λ l. let d = leads_down steps (outside 0) (standings.outside 0) (standings.outside (length sts)) refl l in
        subst (λ (t : Standing). Leads th sts (outside 0) steps t) (outside_here (length sts) d.0 d.2) d.1,
  )

pub proves_are_trees : ProvesAreTrees
proves_are_trees th sts steps system provable = proves_alike th system sts provable steps
