-- A turn keeps the common ground instances: each one of the state before is one of the state after it.
use Rattle.std.proofs.Common.{◌≡◌, inl, inr, ℕ, suc, ◌+◌, ◌-◌, ◌<◌, Bool, true, false, nat_lt, if◌then◌else◌, List, [], ◌∷◌, ◌++◌, length, map, Option, Some, None, MatchOption, slice_get, unwrap_or, append-nil, refl, ap, sym, ◌∙◌, subst, arith}
use Rattle.std.specs.List.{AllByRecursion, AllZip}
use Rattle.std.proofs.lemmas.Option.{slice_get_within}
use Rattle.std.proofs.lemmas.Slice.Zip.{AllZip-long}
use Rattle.binding_terms.specs.Signature.{Signature}
use Rattle.binding_terms.specs.Tree.{Tree, var}
use Rattle.binding_terms.proofs.Lists.{all_map, all_middle, each_map, match_some, some_once}
use Rattle.scheme_terms.specs.SchemeTree.{SchemeTree, meta, known, local, con, Values, Parts, filled}
use Rattle.scheme_terms.specs.Forms.{Names, Instance, KnownVariable, GroundEntry}
use Rattle.scheme_terms.specs.Context.{raised_args}
use Rattle.scheme_terms.specs.Instance.{instance_of, value_of, place_of, IsMetaValue, IsKnownPlace, IsEntryOf}
use Rattle.scheme_terms.specs.SchemeScope.{IsScheme}
use Rattle.scheme_terms.specs.Embedding.{embedded}
use Rattle.scheme_terms.specs.Substituting.{followed, params, identity, LocalsBelow}
use Rattle.scheme_terms.specs.declared.scheme.MetaDecl.{MetaDecl}
use Rattle.scheme_terms.proofs.Options.{zip_at}
use Rattle.scheme_terms.proofs.Makings.{instance_making}
use Rattle.scheme_terms.proofs.Embeddings.{embedded_injective, embedded_filled}
use Rattle.scheme_terms.proofs.InstanceScopes.{place_some}
use Rattle.scheme_terms.proofs.SchemeFacts.{scheme_below, scheme_saturated}
use Rattle.scheme_terms.proofs.AppliedInstances.{instance_filled}
use Rattle.pattern_unify.specs.Equations.{SchemeEquation, AreSides}
use Rattle.pattern_unify.specs.CommonInstance.{IsSameInstance}
use Rattle.pattern_unify.specs.Patterns.{over_parameters, parameter_at, common_arguments}
use Rattle.pattern_unify.specs.Pruning.{FirstPrunable}
use Rattle.pattern_unify.specs.State.{State, Step, names_of, names_after, substitution_of, after_step, with_equations, becomes, becomes_new, joins_to}
use Rattle.pattern_unify.specs.Moves.{Row, delete, decompose, clash, join, meet, prune, bind, Direction, named_first, named_second, CanMeet, CanPrune, CanBind}
use Rattle.pattern_unify.specs.Move.{goes_on, Move, deletes, decomposes, clashes, joins, meets, prunes, binds, argument_equations, production_binders, production_slots, entry_equations, entry_args}
use Rattle.pattern_unify.specs.Run.{Turn}
use Rattle.pattern_unify.specs.Laws.{IsState}
use Rattle.pattern_unify.specs.CommonLaws.{IsGroundOfState}
use Rattle.pattern_unify.proofs.Renaming.{KeepsCategories}
use Rattle.pattern_unify.proofs.KeptParameters.{kept_numbers}
use Rattle.pattern_unify.proofs.MoveValues.{HasParametersAmong, met_value, pruned_value, bound_value, renamed_to}
use Rattle.pattern_unify.proofs.StepCategories.{new_categories, bind_categories, join_categories}
use Rattle.pattern_unify.proofs.MovedNames.{knowns_but_none, metas_but_none}
use Rattle.pattern_unify.proofs.ReplacedEquations.{IsSolvedBy, replaced_all, decomposed}
use Rattle.pattern_unify.proofs.SubstitutionTurns.{in_direction, arguments_long, same_entries}
use Rattle.pattern_unify.proofs.GroundSteps.{same_after, places_after, found_before}
use Rattle.pattern_unify.proofs.GroundMoves.{same_together, with_new, all_typed, new_together}
use Rattle.pattern_unify.proofs.StatesKept.{parts_of_production, args_at, AreTwo}
use Rattle.pattern_unify.proofs.JoinTurns.{AreThese, sides}
use Rattle.pattern_unify.proofs.TurnInstances.{leads, never_goes, joins_two}
use Rattle.pattern_unify.proofs.TurnFalling.{first_typed, second_typed}

-- equations that an instance solves, and those that become the same trees
solved : (inst : Instance) (es : List SchemeEquation) → AllByRecursion (IsSolvedBy (instance_making inst)) es → AllByRecursion (IsSameInstance inst) es
solved inst es h =
    all_map (IsSolvedBy (instance_making inst)) (IsSameInstance inst)
    (λ (e : SchemeEquation) g. embedded_injective (instance_of inst (length e.locals) e.left) (instance_of inst (length e.locals) e.right) g) es h

embedded_if : (b : Bool) (t u : Tree) → embedded (if b then t else u) ≡ (if b then embedded t else embedded u)
embedded_if true t u = refl
embedded_if false t u = refl

renamed_instance : (inst : Instance) (r : ℕ → ℕ) (p d : ℕ) (t : SchemeTree) → LocalsBelow d t →
    embedded (instance_of inst p (filled (λ i. local (r i)) t)) ≡ filled (renamed_to r d p) (embedded (instance_of inst d t))
renamed_instance inst r p d t below =
    ap embedded (instance_filled inst p d (λ i. local (r i)) t below)
    ∙ embedded_filled (λ i. if nat_lt i d then var (r i) else var (i - d + p)) (instance_of inst d t)
    ∙ ap (λ f. filled f (embedded (instance_of inst d t))) each
  where
    each : ◌≡◌ {A = ℕ → SchemeTree} (λ i. embedded (if nat_lt i d then var (r i) else var (i - d + p))) (renamed_to r d p)
    each = λ k i. embedded_if (nat_lt i d) (var (r i)) (var (i - d + p)) k

-- places of known variables

var_same : (i j : ℕ) → var i ≡ var j → i ≡ j
var_same i j e = cc

module _ (names : Names) (inst : Instance) (places : AllZip (IsKnownPlace inst) names.knowns inst.knowns) where
  placed : (k : ℕ) (decl : KnownVariable) → slice_get names.knowns k ≡ Some decl →
      (e : GroundEntry) × (slice_get inst.root.entries (place_of inst k) ≡ Some e) × IsEntryOf inst (place_of inst k) decl.entry e
  placed k decl declared =
      let there = zip_at (IsKnownPlace inst) names.knowns inst.knowns places k decl declared in
      let own : place_of inst k ≡ unwrap_or there.0 0 = ap (λ o. unwrap_or (unwrap_or o None) 0) there.1 in
      match_some (slice_get inst.root.entries (place_of inst k)) (IsEntryOf inst (place_of inst k) decl.entry)
      (subst (λ at. MatchOption (slice_get inst.root.entries at) ⊥ (IsEntryOf inst at decl.entry)) (sym own) (place_some inst decl there.0 there.2))

  same_place : (d k l : ℕ) (one other : KnownVariable) → slice_get names.knowns k ≡ Some one → slice_get names.knowns l ≡ Some other →
      instance_of inst d (known k) ≡ instance_of inst d (known l) → place_of inst k ≡ place_of inst l
  same_place d k l one other at_k at_l e =
      let first = placed k one at_k in
      let second = placed l other at_l in
      let near : place_of inst k < length inst.root.entries = slice_get_within inst.root.entries (place_of inst k) first.0 first.1 in
      let far : place_of inst l < length inst.root.entries = slice_get_within inst.root.entries (place_of inst l) second.0 second.1 in
      let same : length inst.root.entries - suc (place_of inst k) + d ≡ length inst.root.entries - suc (place_of inst l) + d =
      var_same (length inst.root.entries - suc (place_of inst k) + d) (length inst.root.entries - suc (place_of inst l) + d) e in
      omega (arith, near, far, same)

  same_images : (k l : ℕ) (one other : KnownVariable) → slice_get names.knowns k ≡ Some one → slice_get names.knowns l ≡ Some other → place_of inst k ≡ place_of inst l →
      map (instance_of inst 0) one.entry.args ≡ map (instance_of inst 0) other.entry.args
  same_images k l one other at_k at_l same =
      let first = placed k one at_k in
      let second = placed l other at_l in
      let entry : first.0 ≡ second.0 = some_once first.1 (ap (slice_get inst.root.entries) same ∙ second.1) in
      sym first.2.1 ∙ ap (λ p. raised_args inst.root p first.0) same ∙ ap (raised_args inst.root (place_of inst l)) entry ∙ second.2.1

embedded_each : (inst : Instance) (ss ts : List SchemeTree) → map (instance_of inst 0) ss ≡ map (instance_of inst 0) ts →
    map (λ s. embedded (instance_of inst 0 s)) ss ≡ map (λ s. embedded (instance_of inst 0 s)) ts
embedded_each inst ss ts e = sym (each_map (instance_of inst 0) embedded ss) ∙ ap (map embedded) e ∙ each_map (instance_of inst 0) embedded ts

module _ (sig : Signature) (names : Names) (st : State) (state : IsState sig names st) (inst : Instance) where
  abbrev here : Names
  here = names_of st

  stepped : (step : Step) (keeps : KeepsCategories sig here (substitution_of here step)) (eqs : List SchemeEquation) → AllByRecursion (AreSides sig here) eqs →
      (o : IsGroundOfState sig names (with_equations eqs st) inst) (ts : List (Option Tree)) → AllZip (IsMetaValue sig o.after) (names_after here step).metas ts →
      followed here.metas (substitution_of here step) (record { metas = ts; knowns = o.after.knowns; root = o.after.root }) ≡ o.after →
      IsGroundOfState sig names (after_step step (with_equations eqs st)) inst
  stepped step keeps eqs sides o ts typed whole =
      let after : Instance = record { metas = ts; knowns = o.after.knowns; root = o.after.root } in
      record {
        after = after;
        common = record {
          scope = record {
            root = o.common.scope.root;
            metas = typed;
            knowns = places_after sig here state.knowns step keeps after here.knowns o.after.knowns state.knowns
                (subst (λ (i : Instance). AllZip (IsKnownPlace i) here.knowns o.after.knowns) (sym whole) o.common.scope.knowns);
          };
          equal = same_after sig here state.knowns step keeps after eqs sides (subst (λ (i : Instance). AllByRecursion (IsSameInstance i) eqs) (sym whole) o.common.equal);
        };
        same = found_before sig here state.knowns step keeps after (AllZip-long _ here.knowns o.after.knowns o.common.scope.knowns) names.metas st.so_far state.values
            ∙ ap (followed names.metas st.so_far) whole ∙ o.same;
      }

  module _ (before : List SchemeEquation) (e : SchemeEquation) (rest : List SchemeEquation) (at : st.equations ≡ before ++ e ∷ rest) where
    abbrev replaces : (new : List SchemeEquation) (o : IsGroundOfState sig names st inst) → (IsSameInstance o.after e → AllByRecursion (IsSameInstance o.after) new) →
        IsGroundOfState sig names (with_equations (before ++ (new ++ rest)) st) inst
    replaces new o to = record {
      after = o.after;
      common = record {
        scope = o.common.scope;
        equal = replaced_all (IsSameInstance o.after) before e rest new (subst (AllByRecursion (IsSameInstance o.after)) at o.common.equal) to;
      };
      same = o.same;
    }

    typed : AreSides sig here e
    typed = all_middle (AreSides sig here) before rest e (subst (AllByRecursion (AreSides sig here)) at state.sides)

    solved_here : (o : IsGroundOfState sig names st inst) → IsSameInstance o.after e
    solved_here o = all_middle (IsSameInstance o.after) before rest e (subst (AllByRecursion (IsSameInstance o.after)) at o.common.equal)

    sides_same : (o : IsGroundOfState sig names st inst) (direction : Direction) →
        embedded (instance_of o.after (length e.locals) (named_first direction e)) ≡ embedded (instance_of o.after (length e.locals) (named_second direction e))
    sides_same o direction = in_direction (instance_making o.after) direction e (ap embedded (solved_here o))

    deleted : IsGroundOfState sig names st inst → IsGroundOfState sig names (with_equations (before ++ rest) st) inst
    deleted o = replaces [] o (λ h. tt)

    decomposed_too : (p : ℕ) (xs ys : Parts) → e.left ≡ con p xs → e.right ≡ con p ys → IsGroundOfState sig names st inst →
        IsGroundOfState sig names (with_equations (before ++ (argument_equations sig e p xs ys ++ rest)) st) inst
    decomposed_too p xs ys l r o =
        replaces (argument_equations sig e p xs ys) o
        (λ h. solved o.after (argument_equations sig e p xs ys)
        (decomposed (instance_making o.after) sig here e.locals (production_binders sig p) p (production_slots sig p) xs ys
        (parts_of_production sig here e.locals typed.0 p xs (subst (IsScheme sig here e.locals typed.0) l typed.1))
        (parts_of_production sig here e.locals typed.0 p ys (subst (IsScheme sig here e.locals typed.0) r typed.2))
        (ap (λ s. embedded (instance_of o.after (length e.locals) s)) (sym l) ∙ ap embedded h ∙ ap (λ s. embedded (instance_of o.after (length e.locals) s)) r)))

    renewed : (m : ℕ) (decl : MetaDecl) (keeps : List Bool) (declared : slice_get here.metas m ≡ Some decl) (o : IsGroundOfState sig names st inst) →
        HasParametersAmong (kept_numbers keeps (params decl)) (params decl) (embedded (value_of o.after m)) →
        IsGroundOfState sig names (after_step (becomes_new m decl keeps here) st) inst
    renewed m decl keeps declared o among =
        stepped (becomes_new m decl keeps here) (new_categories sig here state.knowns m decl keeps declared) st.equations state.sides o
        (with_new sig here state.knowns o.after o.common.scope m decl keeps declared) (all_typed sig here state.knowns o.after o.common.scope m decl keeps declared among)
        (new_together sig here state.knowns o.after o.common.scope m decl keeps declared among)

    met : (direction : Direction) (m : ℕ) (vs ws : Values) (decl : MetaDecl) → named_first direction e ≡ meta m vs → named_second direction e ≡ meta m ws →
        slice_get here.metas m ≡ Some decl → CanMeet (meta m vs) (meta m ws) → IsGroundOfState sig names st inst →
        IsGroundOfState sig names (after_step (becomes_new m decl (common_arguments vs ws) here) st) inst
    met direction m vs ws decl l r declared can o =
        let one = subst (IsScheme sig here e.locals typed.0) l (first_typed sig here direction e typed) in
        let two = subst (IsScheme sig here e.locals typed.0) r (second_typed sig here direction e typed) in
        renewed m decl (common_arguments vs ws) declared o
        (met_value (instance_making o.after) (length e.locals) m (params decl) vs ws can.1 can.2
        (arguments_long sig here e.locals typed.0 m vs decl one declared) (arguments_long sig here e.locals typed.0 m ws decl two declared)
        (ap (λ s. embedded (instance_of o.after (length e.locals) s)) (sym l) ∙ sides_same o direction ∙ ap (λ s. embedded (instance_of o.after (length e.locals) s)) r))

    pruned : (direction : Direction) (m n : ℕ) (vs : Values) (keeps : List Bool) (decl : MetaDecl) → named_first direction e ≡ meta m vs →
        CanPrune (meta m vs) (named_second direction e) → FirstPrunable m vs 0 (named_second direction e) n keeps → slice_get here.metas n ≡ Some decl →
        IsGroundOfState sig names st inst → IsGroundOfState sig names (after_step (becomes_new n decl keeps here) st) inst
    pruned direction m n vs keeps decl l can found declared o =
        let two = second_typed sig here direction e typed in
        renewed n decl keeps declared o
        (pruned_value (instance_making o.after) vs (length e.locals) m n keeps here.metas decl declared (named_second direction e) can.0
        (scheme_below sig here e.locals typed.0 (named_second direction e) two) (scheme_saturated sig here e.locals typed.0 (named_second direction e) two)
        (ap (λ s. embedded (instance_of o.after (length e.locals) s)) (sym l) ∙ sides_same o direction) found)

    bound_to : (direction : Direction) (m : ℕ) (vs : Values) → named_first direction e ≡ meta m vs → CanBind (meta m vs) (named_second direction e) →
        IsGroundOfState sig names st inst → IsGroundOfState sig names (after_step (becomes m (over_parameters vs (named_second direction e)) here) st) inst
    bound_to direction m vs l can o =
        let one = subst (IsScheme sig here e.locals typed.0) l (first_typed sig here direction e typed) in
        let two = second_typed sig here direction e typed in
        stepped (becomes m (over_parameters vs (named_second direction e)) here)
        (bind_categories sig here state.knowns e.locals typed.0 m vs (named_second direction e) one two can.2) st.equations state.sides o o.after.metas
        (subst (λ ds. AllZip (IsMetaValue sig o.after) ds o.after.metas) (sym (append-nil here.metas)) o.common.scope.metas)
        (same_together sig here state.knowns o.after o.common.scope m (over_parameters vs (named_second direction e))
        (becomes m (over_parameters vs (named_second direction e)) here) refl o.after.metas (length here.knowns) (length here.knowns)
        (sym (knowns_but_none (length here.knowns) (length here.knowns) 0 here.knowns (omega arith))) refl (λ k t f. f)
        (λ decl declared. bound_value (instance_making o.after) (length e.locals) m (params decl) vs (named_second direction e) can.0
        (scheme_below sig here e.locals typed.0 (meta m vs) one) (arguments_long sig here e.locals typed.0 m vs decl one declared)
        (renamed_instance o.after (parameter_at vs) (params decl) (length e.locals) (named_second direction e)
        (scheme_below sig here e.locals typed.0 (named_second direction e) two))
        (ap (λ s. embedded (instance_of o.after (length e.locals) s)) (sym l) ∙ sides_same o direction)))

    places_same : (o : IsGroundOfState sig names st inst) (low high : ℕ) → AreThese e low high → AreTwo here low high → place_of o.after low ≡ place_of o.after high
    places_same o low high (inl k) two =
        same_place here o.after o.common.scope.knowns (length e.locals) low high two.one two.other two.one_at two.other_at
        (ap (instance_of o.after (length e.locals)) (sym k.0) ∙ solved_here o ∙ ap (instance_of o.after (length e.locals)) k.1)
    places_same o low high (inr k) two =
        same_place here o.after o.common.scope.knowns (length e.locals) low high two.one two.other two.one_at two.other_at
        (ap (instance_of o.after (length e.locals)) (sym k.1) ∙ sym (solved_here o) ∙ ap (instance_of o.after (length e.locals)) k.0)

    joined : (low high : ℕ) → AreThese e low high → AreTwo here low high → IsGroundOfState sig names st inst →
        IsGroundOfState sig names (after_step (joins_to high low here) (with_equations (before ++ (entry_equations (entry_args here low) (entry_args here high) ++ rest)) st)) inst
    joined low high these two o =
        stepped (joins_to high low here) (join_categories sig here state.knowns low high two)
        (before ++ (entry_equations (entry_args here low) (entry_args here high) ++ rest)) (sides sig names st state before e rest at (identity here) low high these two)
        (replaces (entry_equations (entry_args here low) (entry_args here high)) o
        (λ h. subst (AllByRecursion (IsSameInstance o.after)) (sym same_equations)
        (solved o.after (entry_equations two.one.entry.args two.other.entry.args) (same_entries (instance_making o.after) two.one.entry.args two.other.entry.args
        (embedded_each o.after two.one.entry.args two.other.entry.args
        (same_images here o.after o.common.scope.knowns low high two.one two.other two.one_at two.other_at (places_same o low high these two)))))))
        o.after.metas (subst (λ ds. AllZip (IsMetaValue sig o.after) ds o.after.metas) (sym (append-nil here.metas)) o.common.scope.metas)
        (same_together sig here state.knowns o.after o.common.scope (length here.metas) (local 0) (joins_to high low here)
        (sym (metas_but_none (length here.metas) (local 0) 0 here.metas (omega arith))) o.after.metas high low refl (sym (places_same o low high these two)) (λ k t f. f)
        (λ decl declared. absurd (let within = slice_get_within here.metas (length here.metas) decl declared in let no : ⊥ = omega (arith, within) in no)))
      where
        same_equations : entry_equations (entry_args here low) (entry_args here high) ≡ entry_equations two.one.entry.args two.other.entry.args
        same_equations =
            ap (λ ss. entry_equations ss (entry_args here high)) (args_at here low two.one two.one_at)
            ∙ ap (entry_equations two.one.entry.args) (args_at here high two.other two.other_at)

    move_keeps : (direction : Direction) (next : State) (row : Row) → Move sig st before e rest direction (goes_on next) row →
        IsGroundOfState sig names st inst → IsGroundOfState sig names next inst
    move_keeps direction next delete (deletes a h) o = leads (λ x. IsGroundOfState sig names x inst) next (with_equations (before ++ rest) st) h (deleted o)
    move_keeps direction next decompose (decomposes p xs ys l r h) o =
        leads (λ x. IsGroundOfState sig names x inst) next (with_equations (before ++ (argument_equations sig e p xs ys ++ rest)) st) h (decomposed_too p xs ys l r o)
    move_keeps direction next clash (clashes a h) o = absurd (never_goes next h)
    move_keeps direction next join (joins low high order these a h) o =
        leads (λ x. IsGroundOfState sig names x inst) next
        (after_step (joins_to high low here) (with_equations (before ++ (entry_equations (entry_args here low) (entry_args here high) ++ rest)) st)) h
        (joined low high these (joins_two here direction e low high these a) o)
    move_keeps direction next meet (meets m vs ws decl l r declared a h) o =
        let can : CanMeet (meta m vs) (meta m ws) = subst (λ s. CanMeet s (meta m ws)) l (subst (λ t. CanMeet (named_first direction e) t) r a) in
        leads (λ x. IsGroundOfState sig names x inst) next (after_step (becomes_new m decl (common_arguments vs ws) here) st) h (met direction m vs ws decl l r declared can o)
    move_keeps direction next prune (prunes m n vs keeps decl l a found declared h) o =
        let can : CanPrune (meta m vs) (named_second direction e) = subst (λ s. CanPrune s (named_second direction e)) l a in
        leads (λ x. IsGroundOfState sig names x inst) next (after_step (becomes_new n decl keeps here) st) h (pruned direction m n vs keeps decl l can found declared o)
    move_keeps direction next bind (binds m vs l a h) o =
        let can : CanBind (meta m vs) (named_second direction e) = subst (λ s. CanBind s (named_second direction e)) l a in
        leads (λ x. IsGroundOfState sig names x inst) next (after_step (becomes m (over_parameters vs (named_second direction e)) here) st) h (bound_to direction m vs l can o)

-- what is a common ground instance before the turn is one after it
pub ground_instances_stay : (sig : Signature) (names : Names) (st next : State) (inst : Instance) → IsState sig names st → Turn sig st (goes_on next) →
    IsGroundOfState sig names st inst → IsGroundOfState sig names next inst
ground_instances_stay sig names st next inst state turn =
    move_keeps sig names st state inst turn.before turn.e turn.rest turn.at turn.direction next turn.row turn.moves
