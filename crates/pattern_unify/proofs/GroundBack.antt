-- A turn brings no common ground instance, where the root is of a category of contexts: each one of the state after it is one of the state before.
use Rattle.std.proofs.Common.{◌≡◌, ◌↔◌, inl, inr, ℕ, ◌<◌, ◌==◌, Bool, true, false, if◌then◌else◌, List, [], ◌∷◌, ◌++◌, length, map, Option, Some, None, MatchOption, slice_get, unwrap_or, option_map, refl, ap, sym, ◌∙◌, subst, arith}
use Rattle.std.specs.List.{AllByRecursion, AllZip}
use Rattle.std.proofs.lemmas.Bool.Decides.{nat_tests}
use Rattle.std.proofs.lemmas.List.{length-map}
use Rattle.std.proofs.lemmas.Option.{slice_get-map, slice_get_within}
use Rattle.std.proofs.lemmas.Slice.Zip.{AllZip-long}
use Rattle.binding_terms.specs.Signature.{Signature, Fits}
use Rattle.binding_terms.specs.Scope.{IsTerm}
use Rattle.binding_terms.proofs.Lists.{all_map, all_middle, cons_head, cons_tail, match_map, some_once, some_within}
use Rattle.scheme_terms.specs.SchemeTree.{SchemeTree, meta, con, Parts}
use Rattle.scheme_terms.specs.Forms.{Names, Instance, KnownVariable, GroundEntry}
use Rattle.scheme_terms.specs.Context.{scope_of}
use Rattle.scheme_terms.specs.Instance.{instance_of, place_of, root_variable, IsMetaValue, IsKnownPlace, IsEntryOf}
use Rattle.scheme_terms.specs.SchemeScope.{IsScheme, IsRoot, params_scope}
use Rattle.scheme_terms.specs.Embedding.{embedded}
use Rattle.scheme_terms.specs.Substituting.{followed, followed_metas, identity, knowns_from}
use Rattle.scheme_terms.specs.declared.scheme.MetaDecl.{MetaDecl}
use Rattle.scheme_terms.proofs.Options.{zip_at}
use Rattle.scheme_terms.proofs.Makings.{instance_making}
use Rattle.scheme_terms.proofs.Embeddings.{embedded_injective}
use Rattle.scheme_terms.proofs.InstanceScopes.{instance_keeps_scope}
use Rattle.scheme_terms.proofs.SchemeFacts.{length_params}
use Rattle.pattern_unify.specs.Equations.{SchemeEquation, AreSides}
use Rattle.pattern_unify.specs.CommonInstance.{IsSameInstance}
use Rattle.pattern_unify.specs.Patterns.{over_parameters, common_arguments}
use Rattle.pattern_unify.specs.State.{State, Step, names_of, names_after, substitution_of, after_step, with_equations, becomes, becomes_new, joins_to, knowns_but}
use Rattle.pattern_unify.specs.Moves.{Row, delete, decompose, clash, join, meet, prune, bind, Direction, named_second, CanBind}
use Rattle.pattern_unify.specs.Move.{goes_on, Move, deletes, decomposes, clashes, joins, meets, prunes, binds, argument_equations, production_binders, production_slots, entry_equations, entry_args}
use Rattle.pattern_unify.specs.Run.{Turn}
use Rattle.pattern_unify.specs.Laws.{IsState}
use Rattle.pattern_unify.specs.CommonLaws.{IsGroundOfState}
use Rattle.pattern_unify.proofs.Renaming.{KeepsCategories}
use Rattle.pattern_unify.proofs.TypedSuits.{IsTyped}
use Rattle.pattern_unify.proofs.StepCategories.{new_categories, bind_categories, join_categories}
use Rattle.pattern_unify.proofs.MovedNames.{zip_by_places, zip_there, knowns_but_none, knowns_but_long, knowns_but_there, known_but}
use Rattle.pattern_unify.proofs.ReplacedEquations.{IsSolvedBy, restored_all, new_ones, composed_again}
use Rattle.pattern_unify.proofs.SubstitutionTurns.{entries_same}
use Rattle.pattern_unify.proofs.GroundSteps.{same_before, place_both, found_before, places_before}
use Rattle.pattern_unify.proofs.GroundTurns.{ground_instances_stay}
use Rattle.pattern_unify.proofs.StatesKept.{parts_of_production, args_at, entry_places, AreTwo}
use Rattle.pattern_unify.proofs.JoinTurns.{AreThese, sides, one_typed, other_typed, goes_low, stays_low}
use Rattle.pattern_unify.proofs.TurnInstances.{leads, never_goes, same_sides, joins_two}
use Rattle.pattern_unify.proofs.TurnFalling.{first_typed, second_typed}

-- places put in for known variables
places_zip : (R : KnownVariable → Option ℕ → Type 0) (f : ℕ → Option ℕ) (decls : List KnownVariable) (ps : List (Option ℕ)) (gone kept : ℕ) → AllZip R decls ps →
    ((k : ℕ) (p : Option ℕ) → slice_get ps k ≡ Some p → f k ≡ p) → ((decl : KnownVariable) → slice_get decls gone ≡ Some decl → R decl (f kept)) →
    AllZip R decls (map f (knowns_but gone kept 0 decls))
places_zip R f decls ps gone kept h own here =
    zip_by_places R decls (map f (knowns_but gone kept 0 decls)) (sym (length-map (knowns_but gone kept 0 decls) f ∙ knowns_but_long gone kept 0 decls)) at
  where
    at : (k : ℕ) (decl : KnownVariable) (p : Option ℕ) → slice_get decls k ≡ Some decl → slice_get (map f (knowns_but gone kept 0 decls)) k ≡ Some p → R decl p
    at k decl p e g = cases (k == gone) refl
      where
        becomes_it : Some (f (known_but gone kept k)) ≡ Some p
        becomes_it = sym (slice_get-map f (knowns_but gone kept 0 decls) k ∙ ap (option_map f) (knowns_but_there gone kept decls k decl e)) ∙ g

        cases : (b : Bool) → (k == gone) ≡ b → R decl p
        cases true same =
            let z : k ≡ gone = grind (arith, nat_tests) in
            let there : Some (f kept) ≡ Some p = ap (λ c. Some (f (if c then kept else k))) (sym same) ∙ becomes_it in
            subst (R decl) (let one : f kept ≡ p = cc in one) (here decl (ap (slice_get decls) (sym z) ∙ e))
        cases false same =
            let there : Some (f k) ≡ Some p = ap (λ c. Some (f (if c then kept else k))) (sym same) ∙ becomes_it in
            let within : k < length decls = slice_get_within decls k decl e in
            let long : length ps ≡ length decls = AllZip-long _ decls ps h in
            let found = some_within ps k (omega (arith, within, long)) in
            subst (R decl) (sym (own k found.0 found.1) ∙ (let one : f k ≡ p = cc in one)) (zip_there R decls ps h k decl found.0 e found.1)

unembedded : (inst : Instance) (ss ts : List SchemeTree) → map (λ s. embedded (instance_of inst 0 s)) ss ≡ map (λ s. embedded (instance_of inst 0 s)) ts →
    map (instance_of inst 0) ss ≡ map (instance_of inst 0) ts
unembedded inst [] [] e = refl
unembedded inst [] (t ∷ ts) e = absurd (let no = ap length e in omega (arith, no))
unembedded inst (s ∷ ss) [] e = absurd (let no = ap length e in omega (arith, no))
unembedded inst (s ∷ ss) (t ∷ ts) e =
    ap (λ x. x ∷ map (instance_of inst 0) ss) (embedded_injective (instance_of inst 0 s) (instance_of inst 0 t) (cons_head e))
    ∙ ap (λ xs. instance_of inst 0 t ∷ xs) (unembedded inst ss ts (cons_tail e))

solved_too : (inst : Instance) (es : List SchemeEquation) → AllByRecursion (IsSameInstance inst) es → AllByRecursion (IsSolvedBy (instance_making inst)) es
solved_too inst es h = all_map (IsSameInstance inst) (IsSolvedBy (instance_making inst)) (λ (e : SchemeEquation) g. ap embedded g) es h

module _ (sig : Signature) (fits : Fits sig) (names : Names) (of_contexts : IsRoot sig names.root) (st : State) (state : IsState sig names st) (inst : Instance) where
  abbrev here : Names
  here = names_of st

  module _ (step : Step) (keeps : KeepsCategories sig here (substitution_of here step)) (eqs : List SchemeEquation) (typed_sides : AllByRecursion (AreSides sig here) eqs)
      (o : IsGroundOfState sig names (after_step step (with_equations eqs st)) inst) where
    abbrev before : Instance
    before = followed here.metas (substitution_of here step) o.after

    values_typed : (decls : List MetaDecl) (ss : List SchemeTree) → AllZip (IsTyped sig (names_after here step)) decls ss →
        AllZip (IsMetaValue sig before) decls (followed_metas decls ss o.after)
    values_typed [] [] h = tt
    values_typed [] (s ∷ ss) h = absurd h
    values_typed (d ∷ decls) [] h = absurd h
    values_typed (d ∷ decls) (s ∷ ss) h = (
      subst (λ n. IsTerm sig (params_scope d ++ scope_of sig o.after.root) d.cat.0 (instance_of o.after n s)) (length_params d)
          (instance_keeps_scope sig (names_after here step) o.after (params_scope d) d.cat.0 s fits (subst (IsRoot sig) (sym state.root) of_contexts) o.common.scope h.0),
      values_typed decls ss h.1,
    )

    own_places : AllZip (IsKnownPlace before) here.knowns o.after.knowns
    own_places = places_before sig here state.knowns step keeps o.after here.knowns o.after.knowns state.knowns o.common.scope.knowns

    many : length o.after.knowns ≡ length here.knowns
    many = AllZip-long _ here.knowns o.after.knowns own_places

    solved_before : AllByRecursion (IsSameInstance before) eqs
    solved_before = same_before sig here state.knowns step keeps o.after eqs typed_sides o.common.equal

    place_own : (k : ℕ) (p : Option ℕ) → slice_get o.after.knowns k ≡ Some p → Some (place_of o.after k) ≡ p
    place_own k p e =
        let within : k < length o.after.knowns = slice_get_within o.after.knowns k p e in
        let decl = some_within here.knowns k (omega (arith, within, many)) in
        let there = zip_at (IsKnownPlace before) here.knowns o.after.knowns own_places k decl.0 decl.1 in
        let same : there.0 ≡ p = some_once there.1 e in
        ap (λ x. Some (unwrap_or (unwrap_or x None) 0)) e
        ∙ given (λ at. MatchOption (slice_get o.after.root.entries at) ⊥ (IsEntryOf before at decl.0.entry)) p (subst (IsKnownPlace before decl.0) same there.2)
      where
        given : (P : ℕ → Type 0) (p : Option ℕ) → MatchOption p ⊥ P → Some (unwrap_or p 0) ≡ p
        given P None h = absurd h
        given P (Some n) h = refl

    abbrev unstepped : (gone kept : ℕ) → step.knowns ≡ knowns_but gone kept 0 here.knowns →
        ((decl : KnownVariable) → slice_get here.knowns gone ≡ Some decl → IsKnownPlace before decl (Some (place_of o.after kept))) →
        IsGroundOfState sig names (with_equations eqs st) inst
    unstepped gone kept knowns placed = record {
      after = before;
      common = record {
        scope = record {
          root = o.common.scope.root;
          metas = values_typed here.metas step.metas keeps.metas;
          knowns = subst (λ ks. AllZip (IsKnownPlace before) here.knowns (map (λ k. Some (place_of o.after k)) ks)) (sym knowns)
              (places_zip (IsKnownPlace before) (λ k. Some (place_of o.after k)) here.knowns o.after.knowns gone kept own_places place_own placed);
        };
        equal = solved_before;
      };
      same = sym (found_before sig here state.knowns step keeps o.after many names.metas st.so_far state.values) ∙ o.same;
    }

    pub unstepped_staying : knowns_from 0 here.knowns ≡ step.knowns → IsGroundOfState sig names (with_equations eqs st) inst
    unstepped_staying knowns =
        unstepped (length here.knowns) (length here.knowns) (sym knowns ∙ sym (knowns_but_none (length here.knowns) (length here.knowns) 0 here.knowns (omega arith)))
        (λ decl declared. absurd (let within = slice_get_within here.knowns (length here.knowns) decl declared in let no : ⊥ = omega (arith, within) in no))

  module _ (before : List SchemeEquation) (e : SchemeEquation) (rest : List SchemeEquation) (at : st.equations ≡ before ++ e ∷ rest) where
    typed : AreSides sig here e
    typed = all_middle (AreSides sig here) before rest e (subst (AllByRecursion (AreSides sig here)) at state.sides)

    restores : (new : List SchemeEquation) (o : IsGroundOfState sig names (with_equations (before ++ (new ++ rest)) st) inst) →
        (AllByRecursion (IsSameInstance o.after) new → IsSameInstance o.after e) → IsGroundOfState sig names st inst
    restores new o from = record {
      after = o.after;
      common = record {
        scope = o.common.scope;
        equal = subst (AllByRecursion (IsSameInstance o.after)) (sym at) (restored_all (IsSameInstance o.after) before e rest new o.common.equal from);
      };
      same = o.same;
    }

    composed_back : (p : ℕ) (xs ys : Parts) → e.left ≡ con p xs → e.right ≡ con p ys →
        IsGroundOfState sig names (with_equations (before ++ (argument_equations sig e p xs ys ++ rest)) st) inst → IsGroundOfState sig names st inst
    composed_back p xs ys l r o =
        restores (argument_equations sig e p xs ys) o
        (λ h. embedded_injective (instance_of o.after (length e.locals) e.left) (instance_of o.after (length e.locals) e.right)
        (ap (λ s. embedded (instance_of o.after (length e.locals) s)) l
        ∙ composed_again (instance_making o.after) sig here e.locals (production_binders sig p) p (production_slots sig p) xs ys
        (parts_of_production sig here e.locals typed.0 p xs (subst (IsScheme sig here e.locals typed.0) l typed.1))
        (parts_of_production sig here e.locals typed.0 p ys (subst (IsScheme sig here e.locals typed.0) r typed.2))
        (solved_too o.after (argument_equations sig e p xs ys) h)
        ∙ ap (λ s. embedded (instance_of o.after (length e.locals) s)) (sym r)))

    module _ (low high : ℕ) (these : AreThese e low high) (two : AreTwo here low high)
        (o : IsGroundOfState sig names (after_step (joins_to high low here)
        (with_equations (before ++ (entry_equations (entry_args here low) (entry_args here high) ++ rest)) st)) inst) where
      abbrev step : Step
      step = joins_to high low here

      abbrev new : List SchemeEquation
      new = entry_equations (entry_args here low) (entry_args here high)

      abbrev eqs : List SchemeEquation
      eqs = before ++ (new ++ rest)

      keeps : KeepsCategories sig here (substitution_of here step)
      keeps = join_categories sig here state.knowns low high two

      all_sides : AllByRecursion (AreSides sig here) eqs
      all_sides = sides sig names st state before e rest at (identity here) low high these two

      abbrev joint : Instance
      joint = followed here.metas (substitution_of here step) o.after

      same_arguments : map (instance_of joint 0) two.one.entry.args ≡ map (instance_of joint 0) two.other.entry.args
      same_arguments =
          unembedded joint two.one.entry.args two.other.entry.args
          (entries_same (instance_making joint) sig here (entry_places sig two.one.entry.prod) two.one.entry.args two.other.entry.args
          (one_typed sig names st state before e rest at (identity here) low high these two) (other_typed sig names st state before e rest at (identity here) low high these two)
          (subst (AllByRecursion (IsSolvedBy (instance_making joint))) same_equations
          (solved_too joint new (new_ones (IsSameInstance joint) before new rest (solved_before step keeps eqs all_sides o)))))
        where
          same_equations : entry_equations (entry_args here low) (entry_args here high) ≡ entry_equations two.one.entry.args two.other.entry.args
          same_equations =
              ap (λ ss. entry_equations ss (entry_args here high)) (args_at here low two.one two.one_at)
              ∙ ap (entry_equations two.one.entry.args) (args_at here high two.other two.other_at)

      placed : (decl : KnownVariable) → slice_get here.knowns high ≡ Some decl → IsKnownPlace joint decl (Some (place_of o.after low))
      placed decl declared =
          let there = zip_at (IsKnownPlace joint) here.knowns o.after.knowns (own_places step keeps eqs all_sides o) low two.one two.one_at in
          let own : IsKnownPlace joint two.one (Some (place_of o.after low)) =
          subst (IsKnownPlace joint two.one) (sym (place_own step keeps eqs all_sides o low there.0 there.1)) there.2 in
          subst (λ d. IsKnownPlace joint d (Some (place_of o.after low))) (some_once two.other_at declared)
          (match_map (slice_get o.after.root.entries (place_of o.after low)) (IsEntryOf joint (place_of o.after low) two.one.entry) (IsEntryOf joint (place_of o.after low) two.other.entry)
          (λ (x : GroundEntry) k. (k.0 ∙ two.same, k.1 ∙ same_arguments)) own)

      place_joint : (k : ℕ) (decl : KnownVariable) → slice_get here.knowns k ≡ Some decl → known_but high low k ≡ low → place_of joint k ≡ place_of o.after low
      place_joint k decl declared goes_to =
          place_both sig here state.knowns step keeps o.after k (many step keeps eqs all_sides o)
          ∙ ap (place_of o.after) (ap (λ x. unwrap_or x k) (knowns_but_there high low here.knowns k decl declared) ∙ goes_to)

      places_same : place_of joint low ≡ place_of joint high
      places_same = place_joint low two.one two.one_at (stays_low low high) ∙ sym (place_joint high two.other two.other_at (goes_low low high))

      solved_joint : AreThese e low high → IsSameInstance joint e
      solved_joint (inl k) =
          ap (instance_of joint (length e.locals)) k.0 ∙ ap (λ p. root_variable joint (length e.locals) p) places_same ∙ ap (instance_of joint (length e.locals)) (sym k.1)
      solved_joint (inr k) =
          ap (instance_of joint (length e.locals)) k.0 ∙ ap (λ p. root_variable joint (length e.locals) p) (sym places_same) ∙ ap (instance_of joint (length e.locals)) (sym k.1)

      joined_back : IsGroundOfState sig names st inst
      joined_back = restores new (unstepped step keeps eqs all_sides o high low refl placed) (λ h. solved_joint these)

    move_back : (direction : Direction) (next : State) (row : Row) → Move sig st before e rest direction (goes_on next) row →
        IsGroundOfState sig names next inst → IsGroundOfState sig names st inst
    move_back direction next delete (deletes a h) =
        leads (λ x. IsGroundOfState sig names x inst → IsGroundOfState sig names st inst) next (with_equations (before ++ rest) st) h
        (λ o. restores [] o (λ g. ap (instance_of o.after (length e.locals)) (same_sides direction e a)))
    move_back direction next decompose (decomposes p xs ys l r h) =
        leads (λ x. IsGroundOfState sig names x inst → IsGroundOfState sig names st inst) next (with_equations (before ++ (argument_equations sig e p xs ys ++ rest)) st) h
        (composed_back p xs ys l r)
    move_back direction next clash (clashes a h) = absurd (never_goes next h)
    move_back direction next join (joins low high order these a h) =
        leads (λ x. IsGroundOfState sig names x inst → IsGroundOfState sig names st inst) next
        (after_step (joins_to high low here) (with_equations (before ++ (entry_equations (entry_args here low) (entry_args here high) ++ rest)) st)) h
        (joined_back low high these (joins_two here direction e low high these a))
    move_back direction next meet (meets m vs ws decl l r declared a h) =
        leads (λ x. IsGroundOfState sig names x inst → IsGroundOfState sig names st inst) next (after_step (becomes_new m decl (common_arguments vs ws) here) st) h
        (λ o. unstepped_staying (becomes_new m decl (common_arguments vs ws) here) (new_categories sig here state.knowns m decl (common_arguments vs ws) declared)
        st.equations state.sides o refl)
    move_back direction next prune (prunes m n vs keeps decl l a found declared h) =
        leads (λ x. IsGroundOfState sig names x inst → IsGroundOfState sig names st inst) next (after_step (becomes_new n decl keeps here) st) h
        (λ o. unstepped_staying (becomes_new n decl keeps here) (new_categories sig here state.knowns n decl keeps declared) st.equations state.sides o refl)
    move_back direction next bind (binds m vs l a h) =
        let can : CanBind (meta m vs) (named_second direction e) = subst (λ s. CanBind s (named_second direction e)) l a in
        leads (λ x. IsGroundOfState sig names x inst → IsGroundOfState sig names st inst) next (after_step (becomes m (over_parameters vs (named_second direction e)) here) st) h
        (λ o. unstepped_staying (becomes m (over_parameters vs (named_second direction e)) here)
        (bind_categories sig here state.knowns e.locals typed.0 m vs (named_second direction e) (subst (IsScheme sig here e.locals typed.0) l (first_typed sig here direction e typed))
        (second_typed sig here direction e typed) can.2) st.equations state.sides o refl)

-- a turn keeps the common ground instances, where the root is of a category of contexts
pub turn_keeps_ground_instances : (sig : Signature) (names : Names) (st next : State) (inst : Instance) → Fits sig → IsRoot sig names.root → IsState sig names st →
    Turn sig st (goes_on next) → IsGroundOfState sig names st inst ↔ IsGroundOfState sig names next inst
turn_keeps_ground_instances sig names st next inst fits of_contexts state turn = (
  ground_instances_stay sig names st next inst state turn,
  move_back sig fits names of_contexts st state inst turn.before turn.e turn.rest turn.at turn.direction next turn.row turn.moves,
)
