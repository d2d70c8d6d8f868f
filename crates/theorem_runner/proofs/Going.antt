-- How a run goes on, step by step.
use Rattle.std.proofs.Common.{◌≡◌, ℕ, ◌+◌, ◌<◌, ◌≤◌, List, [], ◌∷◌, ◌++◌, length, map, take, drop, get_or, Option, Some, None, slice_get, refl, ap, ◌∙◌, sym, subst, arith}
use Rattle.std.specs.Prelude.{option_map}
use Rattle.std.specs.List.{AllByRecursion, AllZip}
use Rattle.std.proofs.lemmas.List.{length-append, drop_more, map-append, take_more, take-append-drop}
use Rattle.std.proofs.lemmas.Option.{slice_get_within, slice_get-map, slice_get_read, get_or_from_slice_get, same_Some}
use Rattle.scheme_terms.specs.Forms.{Names, Instance, ContextValue}
use Rattle.pattern_unify.proofs.Places.{within as place_within}
use Rattle.rule_schemes.specs.Rules.{JudgmentScheme, Theory, judgment_instance}
use Rattle.rule_schemes.specs.Derivation.{Derivation, node}
use Rattle.rule_schemes.specs.Statement.{Theorem, InputTree, StatementInput, given, syntax_input, derived, term, IsGiven, DeriveConclusions}
use Rattle.core_proofs.specs.declared.step.CoreStep.{CoreStep}
use Rattle.core_proofs.specs.declared.step.StepId.{StepId}
use Rattle.core_proofs.specs.View.{step}
use Rattle.core_proofs.specs.RuleStep.{AreCited}
use Rattle.core_proofs.specs.Step.{Step, begin_theorem, end_theorem, by_rule}
use Rattle.proof_trees.specs.Right.{IsProofScope}
use Rattle.core_proofs.specs.Proof.{given_judgments, Standing, outside, within, Leads, Proves}
use Rattle.proof_trees.specs.Value.{subtrees}
use Rattle.core_proofs.specs.Value.{given_trees, AreCitedTrees, Makes, makes_node, makes_last, HasValue}
use Rattle.core_proofs.proofs.Moving.{leads_on}
use Rattle.theorem_runner.specs.Instances.{IsDerived, Gives}
use Rattle.theorem_runner.specs.Laws.{ArePlainProofs}
use Rattle.theorem_runner.specs.Runs.{IsRun, GoesOn, IsAtEnd}
use Rattle.theorem_runner.proofs.Bodies.{proof_of, one_body}
use Rattle.theorem_runner.proofs.Values.{last_made}
use Rattle.theorem_runner.proofs.ValueLaws.{given_count, body_leads, value_is_one, value_derives}
use Rattle.binding_terms.proofs.Lists.{last_same}

-- what is given is derived
pub given_is_derived : (th : Theory) (inst : Instance) (inputs : List StatementInput) (xs : List InputTree) → AllZip (IsGiven th inst) inputs xs → AllByRecursion (IsDerived th) xs
given_is_derived th inst [] [] h = tt
given_is_derived th inst [] (x ∷ xs) h = absurd h
given_is_derived th inst (i ∷ inputs) [] h = absurd h
given_is_derived th inst (given j ∷ inputs) (derived d ∷ xs) h = (h.0.0, given_is_derived th inst inputs xs h.1)
given_is_derived th inst (given j ∷ inputs) (term t ∷ xs) h = absurd h.0
given_is_derived th inst (syntax_input m ∷ inputs) (derived d ∷ xs) h = absurd h.0
given_is_derived th inst (syntax_input m ∷ inputs) (term t ∷ xs) h = (tt, given_is_derived th inst inputs xs h.1)

-- trees read by their numbers are the cited ones
pub are_cited : (made : List Derivation) (on : List ℕ) (ds : List Derivation) → map Some ds ≡ map (slice_get made) on → AreCitedTrees made on ds
are_cited made [] [] e = tt
are_cited made [] (d ∷ ds) e = absurd (let no : ⊥ = cc in no)
are_cited made (n ∷ on) [] e = absurd (let no : ⊥ = cc in no)
are_cited made (n ∷ on) (d ∷ ds) e =
    let first : Some d ≡ slice_get made n = cc in
    let rest : map Some ds ≡ map (slice_get made) on = cc in
    (sym first, are_cited made on ds rest)

-- one tree more
pub cited_more : (made : List Derivation) (on : List StepId) (i : ℕ) (id : StepId) (all new : List Derivation) (tree : Derivation) → slice_get on i ≡ Some id →
    slice_get made id.0 ≡ Some tree → new ≡ all ++ tree ∷ [] → map Some all ≡ map (slice_get made) (map (λ id. id.0) (take i on)) →
    map Some new ≡ map (slice_get made) (map (λ id. id.0) (take (i + 1) on))
cited_more made on i id all new tree here there more e =
    let longer : take (i + 1) on ≡ take i on ++ id ∷ [] =
    take_more on i id (slice_get_within on i id here) ∙ ap (λ x. take i on ++ x ∷ []) (get_or_from_slice_get on i id id here) in
    ap (map Some) more ∙ map-append Some all (tree ∷ []) ∙ ap (λ xs. xs ++ Some tree ∷ []) e
    ∙ ap (λ o. map (slice_get made) (map (λ (x : StepId). x.0) (take i on)) ++ o ∷ []) (sym there)
    ∙ sym (ap (λ xs. map (slice_get made) (map (λ (x : StepId). x.0) xs)) longer
    ∙ ap (map (slice_get made)) (map-append (λ (x : StepId). x.0) (take i on) (id ∷ []))
    ∙ map-append (slice_get made) (map (λ (x : StepId). x.0) (take i on)) (id.0 ∷ []))

-- the next of the steps that are left
pub step_at : (steps : List CoreStep) (i : ℕ) (s : CoreStep) → i < length steps → s ≡ get_or steps i s → slice_get (map step steps) i ≡ Some (step s)
step_at steps i s h e = slice_get-map step steps i ∙ ap (option_map step) (slice_get_read steps (length steps) i s refl h e)

pub next_step : (steps : List Step) (i : ℕ) (s : Step) → slice_get steps i ≡ Some s → drop i steps ≡ s ∷ drop (i + 1) steps
next_step steps i s e = drop_more steps i s (slice_get_within steps i s e) ∙ ap (λ x. x ∷ drop (i + 1) steps) (get_or_from_slice_get steps i s s e)

bounded : (scoped : List JudgmentScheme) (count : ℕ) → length scoped ≡ count → (on : List ℕ) (cited : List JudgmentScheme) → AreCited scoped on cited → AllByRecursion (λ n. n < count) on
bounded scoped count same [] cited h = tt
bounded scoped count same (n ∷ on) [] h = absurd h
bounded scoped count same (n ∷ on) (j ∷ cited) h =
    (let below = slice_get_within scoped n j h.0 in omega (arith, below, same), bounded scoped count same on cited h.1)

module _ (th : Theory) (sts : List Theorem) (inst : Instance) (G : List Derivation) (whole : List Step) (M : List Derivation) where
  module _ (line r : ℕ) (form : JudgmentScheme) (on : List ℕ) (rest : List Step) (g : GoesOn th sts inst G whole M (by_rule line form r on ∷ rest)) where
    -- the numbers that a step cites are those of trees
    pub going_bounds : AllByRecursion (λ n. n < length M) on
    going_bounds =
        let go = leads_on th sts (within g.theorem g.scope g.scoped g.last) (outside g.ended) (by_rule line form r on ∷ rest) g.leads in
        bounded g.scoped (length M) g.counted on go.1.right.cited go.1.right.cited_are

    -- the run goes on over the trees with the step's node
    pub going_rule : (cited : List Derivation) (tree : Derivation) → AreCitedTrees M on cited → tree ≡ node r (judgment_instance inst form) (subtrees cited) →
        GoesOn th sts inst G whole (M ++ tree ∷ []) rest
    going_rule cited tree cited_are is =
        let go = leads_on th sts (within g.theorem g.scope g.scoped g.last) (outside g.ended) (by_rule line form r on ∷ rest) g.leads in
        let right = go.1.right in
        subst (λ (t : Derivation). GoesOn th sts inst G whole (M ++ t ∷ []) rest) (sym is) (record {
          theorem = g.theorem;
          scope = g.scope;
          scoped = g.scoped ++ form ∷ [];
          last = Some form;
          ended = g.ended;
          leads = subst (λ (t : Standing). Leads th sts t rest (outside g.ended)) go.1.leads go.2;
          counted = omega (arith, length-append g.scoped (form ∷ []), length-append M (node r (judgment_instance inst form) (subtrees cited) ∷ []), g.counted);
          last_tree = Some (node r (judgment_instance inst form) (subtrees cited));
          goes = tt;
          at_end = (M, refl);
          so_far = λ d makes. g.so_far d (makes_node cited right.rule right.here right.is_instance.ordinary cited_are makes);
        })

  -- no proof begins within one, and each is ended
  pub going_within : (n : ℕ) (rest : List Step) → GoesOn th sts inst G whole M (begin_theorem n ∷ rest) → ⊥
  going_within n rest g = (leads_on th sts (within g.theorem g.scope g.scoped g.last) (outside g.ended) (begin_theorem n ∷ rest) g.leads).1

  pub going_unended : GoesOn th sts inst G whole M [] → ⊥
  going_unended g = let wrong = leads_on th sts (within g.theorem g.scope g.scoped g.last) (outside g.ended) [] g.leads in let no : ⊥ = cc in no

  -- at the end of the proof there is a tree
  pub going_some : (line : ℕ) (rest : List Step) → GoesOn th sts inst G whole M (end_theorem line ∷ rest) → 0 < length M
  going_some line rest g =
      let go = leads_on th sts (within g.theorem g.scope g.scoped g.last) (outside g.ended) (end_theorem line ∷ rest) g.leads in
      let tree = last_made go.1.form g.last g.last_tree g.goes go.1.last_is in
      let end = subst (IsAtEnd M) tree.1 g.at_end in
      omega (arith, ap length end.1, length-append end.0 (tree.0 ∷ []))

  -- and the last one is made
  pub going_end : (line : ℕ) (rest : List Step) → GoesOn th sts inst G whole M (end_theorem line ∷ rest) → (front : List Derivation) (d : Derivation) → M ≡ front ++ d ∷ [] →
      Makes th inst G None whole d
  going_end line rest g front d e =
      let go = leads_on th sts (within g.theorem g.scope g.scoped g.last) (outside g.ended) (end_theorem line ∷ rest) g.leads in
      let tree = last_made go.1.form g.last g.last_tree g.goes go.1.last_is in
      let end = subst (IsAtEnd M) tree.1 g.at_end in
      let same : tree.0 ≡ d = last_same end.0 front tree.0 d (sym end.1 ∙ e) in
      g.so_far d (subst (λ (o : Option Derivation). Makes th inst M o (end_theorem line ∷ rest) d) (sym (tree.1 ∙ ap Some same)) makes_last)

module _ (th : Theory) (sts : List Theorem) (steps : List Step) (k : ℕ) (st : Theorem) (v : ContextValue) (xs : List InputTree) (from : ℕ)
    (plain : ArePlainProofs th sts steps) (here : slice_get sts k ≡ Some st) (begins : slice_get steps from ≡ Some (begin_theorem k)) where
  split_here : steps ≡ take from steps ++ begin_theorem k ∷ drop (from + 1) steps
  split_here = sym (take-append-drop from steps) ∙ ap (λ ss. take from steps ++ ss) (next_step steps from (begin_theorem k) begins)

  -- the run of a proof starts
  pub starts : (inst : Instance) → AllZip (IsGiven th inst) st.inputs xs →
      GoesOn th sts inst (given_trees xs) (drop (from + 1) steps) (given_trees xs) (drop (from + 1) steps)
  starts inst given_inputs =
      let b = proof_of th sts steps k st plain.proves here in
      let body = body_leads th sts steps k st b (same_Some b.st st (sym b.here ∙ here)) in
      let same : b.body ≡ drop (from + 1) steps = one_body th sts steps b.before (take from steps) b.body (drop (from + 1) steps) k (outside 0) (outside (length sts)) plain.proves b.split split_here in
      record {
        theorem = k;
        scope = b.scope;
        scoped = given_judgments st.inputs;
        last = None;
        ended = length sts;
        leads = subst (λ ss. Leads th sts (within k b.scope (given_judgments st.inputs) None) ss (outside (length sts))) same body.1;
        counted = given_count th inst st.inputs xs given_inputs;
        last_tree = None;
        goes = tt;
        at_end = tt;
        so_far = λ d makes. makes;
      }

  -- what it makes is the value
  pub is_run : (scope : Names) (inst : Instance) (d : Derivation) (ds : List Derivation) → IsProofScope st scope → Gives th st scope v xs inst →
      Makes th inst (given_trees xs) None (drop (from + 1) steps) d → ds ≡ d ∷ [] → IsRun th sts steps k v xs ds
  is_run scope inst d ds is_scope gives makes alone =
      let value : HasValue th sts steps k v xs d = record {
        statement = st;
        here = here;
        before = take from steps;
        body = drop (from + 1) steps;
        split = split_here;
        scope = scope;
        is_scope = is_scope;
        inst = inst;
        sets = gives.0;
        fits = gives.1;
        makes = makes;
      } in
      record {
        made = d;
        alone = alone;
        is_value = value;
        only = λ other g. value_is_one th sts steps k v xs d other plain value g;
        concludes = λ other i there instantiates. subst (λ xs. DeriveConclusions th other i xs) (sym alone)
            (value_derives th sts steps k other v xs i d plain there instantiates value);
      }

-- a proof that begins nowhere in the steps is none
pub begins_somewhere : (th : Theory) (sts : List Theorem) (steps : List Step) (k : ℕ) → Proves th sts steps → k < length sts → (n : ℕ) → length steps ≤ n →
    ((m : ℕ) → m < n → slice_get steps m ≡ Some (begin_theorem k) → ⊥) → ⊥
begins_somewhere th sts steps k proves below n past none =
    let st = place_within sts k below in
    let b = proof_of th sts steps k st.0 proves st.1 in
    let count : length steps ≡ length b.before + length (begin_theorem k ∷ b.body) = ap length b.split ∙ length-append b.before (begin_theorem k ∷ b.body) in
    none (length b.before) (omega (arith, count, past)) (ap (λ ss. slice_get ss (length b.before)) b.split ∙ at_seam b.before (begin_theorem k) b.body)
  where
    at_seam : (xs : List Step) (x : Step) (ys : List Step) → slice_get (xs ++ x ∷ ys) (length xs) ≡ Some x
    at_seam [] x ys = refl
    at_seam (y ∷ xs) x ys = at_seam xs x ys
