-- A turn keeps the common instances that are substitutions.
use Rattle.std.proofs.Common.{◌≡◌, ◌↔◌, ℕ, Bool, List, [], ◌∷◌, ◌++◌, length, map, Some, slice_get, unwrap_or, append-nil, refl, ap, sym, ◌∙◌, subst}
use Rattle.std.specs.List.{AllByRecursion, AllZip}
use Rattle.std.proofs.lemmas.List.{length-map}
use Rattle.std.proofs.lemmas.Slice.Zip.{AllZip-long}
use Rattle.binding_terms.specs.Signature.{Signature, Place}
use Rattle.binding_terms.proofs.Lists.{all_middle, cons_head, cons_tail}
use Rattle.scheme_terms.specs.SchemeTree.{SchemeTree, meta, known, local, Values, con, Parts}
use Rattle.scheme_terms.specs.Forms.{Names, Substitution}
use Rattle.scheme_terms.specs.SchemeScope.{IsScheme, AreSchemes}
use Rattle.scheme_terms.specs.Substituting.{scheme_for, known_for, applied, composed, params, knowns_from, IsKnownValue, IsSubstitution}
use Rattle.scheme_terms.specs.Demands.{numbers}
use Rattle.scheme_terms.specs.declared.scheme.MetaDecl.{MetaDecl}
use Rattle.scheme_terms.proofs.Makings.{Making, applied_making}
use Rattle.scheme_terms.proofs.Compositions.{entry_with}
use Rattle.scheme_terms.proofs.SchemeFacts.{length_values, scheme_below, scheme_saturated}
use Rattle.scheme_terms.proofs.AppliedSchemes.{applied_filled}
use Rattle.pattern_unify.specs.Equations.{SchemeEquation, AreSides}
use Rattle.pattern_unify.specs.CommonInstance.{MakesEqual}
use Rattle.pattern_unify.specs.Patterns.{over_parameters, parameter_at, common_arguments}
use Rattle.pattern_unify.specs.Pruning.{FirstPrunable}
use Rattle.pattern_unify.specs.State.{State, Step, names_of, names_after, substitution_of, after_step, with_equations, applied_known, becomes, becomes_new}
use Rattle.pattern_unify.specs.Moves.{Direction, left_first, right_first, named_first, named_second, CanMeet, CanPrune, CanBind}
use Rattle.pattern_unify.specs.Move.{argument_equations, production_binders, production_slots, entry_equations}
use Rattle.pattern_unify.specs.Laws.{IsState}
use Rattle.pattern_unify.specs.CommonLaws.{IsOfState}
use Rattle.pattern_unify.proofs.Renaming.{KeepsCategories}
use Rattle.pattern_unify.proofs.Fewer.{meta_typed}
use Rattle.pattern_unify.proofs.KeptParameters.{kept_numbers}
use Rattle.pattern_unify.proofs.MoveValues.{HasParametersAmong, numbers_long, met_value, pruned_value, bound_value}
use Rattle.pattern_unify.proofs.TypedSuits.{IsTyped}
use Rattle.pattern_unify.proofs.SteppedSchemes.{found_before}
use Rattle.pattern_unify.proofs.StepCategories.{new_categories, bind_categories}
use Rattle.pattern_unify.proofs.StepInstances.{forth, back, knowns_together, equal_together}
use Rattle.pattern_unify.proofs.ReplacedEquations.{IsSolvedBy, replaced_all, restored_all, decomposed, composed_again}
use Rattle.pattern_unify.proofs.SubstitutionMoves.{knowns_stay, same_together, with_new, all_typed, new_together}
use Rattle.pattern_unify.proofs.StatesKept.{parts_of_production}
use Rattle.pattern_unify.proofs.TurnFalling.{first_typed, second_typed}

-- the sides in a direction become the same
pub in_direction : (made : Making) (direction : Direction) (e : SchemeEquation) → IsSolvedBy made e →
    made.make (length e.locals) (named_first direction e) ≡ made.make (length e.locals) (named_second direction e)
in_direction made left_first e h = h
in_direction made right_first e h = sym h

-- as many arguments as parameters
pub arguments_long : (sig : Signature) (names : Names) (ls : List ℕ) (c m : ℕ) (vs : Values) (decl : MetaDecl) → IsScheme sig names ls c (meta m vs) →
    slice_get names.metas m ≡ Some decl → length (numbers vs) ≡ params decl
arguments_long sig names ls c m vs decl is declared =
    numbers_long vs ∙ length_values sig names ls (map (λ p. p.0) decl.params) vs (meta_typed sig names ls c m vs decl is declared) ∙ length-map decl.params (λ p. p.0)

-- entries with the same arguments
pub same_entries : (made : Making) (ss ts : List SchemeTree) → map (made.make 0) ss ≡ map (made.make 0) ts → AllByRecursion (IsSolvedBy made) (entry_equations ss ts)
same_entries made [] ts e = tt
same_entries made (s ∷ ss) [] e = tt
same_entries made (s ∷ ss) (t ∷ ts) e = (cons_head e, same_entries made ss ts (cons_tail e))

pub entries_same : (made : Making) (sig : Signature) (names : Names) (places : List Place) (ss ts : List SchemeTree) → AreSchemes sig names [] places ss →
    AreSchemes sig names [] places ts → AllByRecursion (IsSolvedBy made) (entry_equations ss ts) → map (made.make 0) ss ≡ map (made.make 0) ts
entries_same made sig names [] [] [] h g e = refl
entries_same made sig names [] [] (t ∷ ts) h g e = absurd g
entries_same made sig names [] (s ∷ ss) ts h g e = absurd h
entries_same made sig names (at ∷ places) [] ts h g e = absurd h
entries_same made sig names (at ∷ places) (s ∷ ss) [] h g e = absurd g
entries_same made sig names (at ∷ places) (s ∷ ss) (t ∷ ts) h g e =
    ap (λ x. x ∷ map (made.make 0) ss) e.0 ∙ ap (λ xs. made.make 0 t ∷ xs) (entries_same made sig names places ss ts h.1 g.1 e.1)

pub known_same : (i j : ℕ) → known i ≡ known j → i ≡ j
known_same i j e = cc

entry_same : (p q : ℕ) (ss ts : List SchemeTree) → entry_with p ss ≡ entry_with q ts → ss ≡ ts
entry_same p q ss ts e = ap (λ x. x.args) e

module _ (sig : Signature) (names : Names) (st : State) (state : IsState sig names st) where
  abbrev here : Names
  here = names_of st

  module _ (step : Step) (keeps : KeepsCategories sig here (substitution_of here step)) (eqs : List SchemeEquation) (sides : AllByRecursion (AreSides sig here) eqs) (by : Substitution) where
    -- after the step
    pub stepped : (o : IsOfState sig (with_equations eqs st) by) (ss : List SchemeTree) → AllZip (IsTyped sig o.after.into) (names_after here step).metas ss →
        composed (substitution_of here step) (record { metas = ss; knowns = o.after.knowns; into = o.after.into }) ≡ o.after →
        IsOfState sig (after_step step (with_equations eqs st)) by
    stepped o ss typed whole = record {
      after = record { metas = ss; knowns = o.after.knowns; into = o.after.into };
      common = forth sig here state.knowns step keeps eqs sides o.after o.common ss typed whole;
      same = found_before sig here step keeps (record { metas = ss; knowns = o.after.knowns; into = o.after.into }) typed
          (AllZip-long _ here.knowns o.after.knowns o.common.schemes.knowns) names.metas st.so_far state.values ∙ ap (composed st.so_far) whole ∙ o.same;
    }

    pub many_knowns : (o : IsOfState sig (after_step step (with_equations eqs st)) by) → length o.after.knowns ≡ length here.knowns
    many_knowns o = AllZip-long _ (names_after here step).knowns o.after.knowns o.common.schemes.knowns ∙ length-map here.knowns (applied_known step.metas step.knowns)

    -- and before it
    abbrev pub unstepped : (o : IsOfState sig (after_step step (with_equations eqs st)) by) →
        AllZip (IsKnownValue (composed (substitution_of here step) o.after)) here.knowns (map (known_for o.after.knowns) step.knowns) → IsOfState sig (with_equations eqs st) by
    unstepped o knowns = record {
      after = composed (substitution_of here step) o.after;
      common = back sig here state.knowns step keeps o.after o.common.schemes eqs o.common.scope knowns
          (equal_together sig here state.knowns step keeps o.after o.common.schemes eqs sides o.common.equal);
      same = sym (found_before sig here step keeps o.after o.common.schemes.metas (many_knowns o) names.metas st.so_far state.values) ∙ o.same;
    }

    unstepped_staying : step.knowns ≡ knowns_from 0 here.knowns → IsOfState sig (after_step step (with_equations eqs st)) by → IsOfState sig (with_equations eqs st) by
    unstepped_staying knowns o =
        unstepped o
        (subst (AllZip (IsKnownValue (composed (substitution_of here step) o.after)) here.knowns)
        (sym (ap (map (known_for o.after.knowns)) knowns ∙ knowns_stay o.after.knowns here.knowns (many_knowns o)))
        (knowns_together sig here state.knowns step keeps o.after o.common.schemes))

  -- other equations in the place of one
  module _ (before : List SchemeEquation) (e : SchemeEquation) (rest new : List SchemeEquation) (at : st.equations ≡ before ++ e ∷ rest) (by : Substitution) where
    abbrev pub replaces : ((after : Substitution) → IsSubstitution sig here after → MakesEqual after.metas after.knowns e → AllByRecursion (MakesEqual after.metas after.knowns) new) →
        IsOfState sig st by → IsOfState sig (with_equations (before ++ (new ++ rest)) st) by
    replaces to o = record {
      after = o.after;
      common = record {
        scope = o.common.scope;
        schemes = o.common.schemes;
        equal = replaced_all (MakesEqual o.after.metas o.after.knowns) before e rest new
            (subst (AllByRecursion (MakesEqual o.after.metas o.after.knowns)) at o.common.equal) (to o.after o.common.schemes);
      };
      same = o.same;
    }

    pub restores : (o : IsOfState sig (with_equations (before ++ (new ++ rest)) st) by) →
        (AllByRecursion (MakesEqual o.after.metas o.after.knowns) new → MakesEqual o.after.metas o.after.knowns e) → IsOfState sig st by
    restores o from = record {
      after = o.after;
      common = record {
        scope = o.common.scope;
        schemes = o.common.schemes;
        equal = subst (AllByRecursion (MakesEqual o.after.metas o.after.knowns)) (sym at)
            (restored_all (MakesEqual o.after.metas o.after.knowns) before e rest new o.common.equal from);
      };
      same = o.same;
    }

  module _ (before : List SchemeEquation) (e : SchemeEquation) (rest : List SchemeEquation) (at : st.equations ≡ before ++ e ∷ rest) (by : Substitution) where
    pub typed : AreSides sig here e
    typed = all_middle (AreSides sig here) before rest e (subst (AllByRecursion (AreSides sig here)) at state.sides)

    pub solved_here : (o : IsOfState sig st by) → MakesEqual o.after.metas o.after.knowns e
    solved_here o =
        all_middle (MakesEqual o.after.metas o.after.knowns) before rest e (subst (AllByRecursion (MakesEqual o.after.metas o.after.knowns)) at o.common.equal)

    pub deleted : e.left ≡ e.right → IsOfState sig st by ↔ IsOfState sig (with_equations (before ++ rest) st) by
    deleted same = (
      replaces before e rest [] at by (λ after is h. tt),
      (λ o. restores before e rest [] at by o (λ h. ap (applied o.after.metas o.after.knowns (length e.locals)) same)),
    )

    pub decomposed_too : (p : ℕ) (xs ys : Parts) → e.left ≡ con p xs → e.right ≡ con p ys →
        IsOfState sig st by ↔ IsOfState sig (with_equations (before ++ (argument_equations sig e p xs ys ++ rest)) st) by
    decomposed_too p xs ys l r =
        let one = parts_of_production sig here e.locals typed.0 p xs (subst (IsScheme sig here e.locals typed.0) l typed.1) in
        let two = parts_of_production sig here e.locals typed.0 p ys (subst (IsScheme sig here e.locals typed.0) r typed.2) in (
          replaces before e rest (argument_equations sig e p xs ys) at by
              (λ after is h. decomposed (applied_making after.metas after.knowns) sig here e.locals (production_binders sig p) p (production_slots sig p) xs ys one two
              (ap (applied after.metas after.knowns (length e.locals)) (sym l) ∙ h ∙ ap (applied after.metas after.knowns (length e.locals)) r)),
          (λ o. restores before e rest (argument_equations sig e p xs ys) at by o
              (λ h. ap (applied o.after.metas o.after.knowns (length e.locals)) l
              ∙ composed_again (applied_making o.after.metas o.after.knowns) sig here e.locals (production_binders sig p) p (production_slots sig p) xs ys one two h
              ∙ ap (applied o.after.metas o.after.knowns (length e.locals)) (sym r))),
        )

    -- a metavariable becomes a new one with the parameters that its value has
    renewed : (m : ℕ) (decl : MetaDecl) (keeps : List Bool) → slice_get here.metas m ≡ Some decl →
        ((after : Substitution) → MakesEqual after.metas after.knowns e → HasParametersAmong (kept_numbers keeps (params decl)) (params decl) (scheme_for after.metas m)) →
        IsOfState sig st by ↔ IsOfState sig (after_step (becomes_new m decl keeps here) st) by
    renewed m decl keeps declared among = (
      (λ o. stepped (becomes_new m decl keeps here) (new_categories sig here state.knowns m decl keeps declared) st.equations state.sides by o
          (with_new sig here state.knowns o.after o.common.schemes m decl keeps declared)
          (all_typed sig here state.knowns o.after o.common.schemes m decl keeps declared (among o.after (solved_here o)))
          (new_together sig here state.knowns o.after o.common.schemes m decl keeps declared (among o.after (solved_here o)))),
      unstepped_staying (becomes_new m decl keeps here) (new_categories sig here state.knowns m decl keeps declared) st.equations state.sides by refl,
    )

    pub met : (direction : Direction) (m : ℕ) (vs ws : Values) (decl : MetaDecl) → named_first direction e ≡ meta m vs → named_second direction e ≡ meta m ws →
        slice_get here.metas m ≡ Some decl → CanMeet (meta m vs) (meta m ws) →
        IsOfState sig st by ↔ IsOfState sig (after_step (becomes_new m decl (common_arguments vs ws) here) st) by
    met direction m vs ws decl l r declared can =
        let one = subst (IsScheme sig here e.locals typed.0) l (first_typed sig here direction e typed) in
        let two = subst (IsScheme sig here e.locals typed.0) r (second_typed sig here direction e typed) in
        renewed m decl (common_arguments vs ws) declared
        (λ after h. met_value (applied_making after.metas after.knowns) (length e.locals) m (params decl) vs ws can.1 can.2
        (arguments_long sig here e.locals typed.0 m vs decl one declared) (arguments_long sig here e.locals typed.0 m ws decl two declared)
        (ap (applied after.metas after.knowns (length e.locals)) (sym l) ∙ in_direction (applied_making after.metas after.knowns) direction e h
        ∙ ap (applied after.metas after.knowns (length e.locals)) r))

    pub pruned : (direction : Direction) (m n : ℕ) (vs : Values) (keeps : List Bool) (decl : MetaDecl) → named_first direction e ≡ meta m vs →
        CanPrune (meta m vs) (named_second direction e) → FirstPrunable m vs 0 (named_second direction e) n keeps → slice_get here.metas n ≡ Some decl →
        IsOfState sig st by ↔ IsOfState sig (after_step (becomes_new n decl keeps here) st) by
    pruned direction m n vs keeps decl l can found declared =
        let two = second_typed sig here direction e typed in
        renewed n decl keeps declared
        (λ after h. pruned_value (applied_making after.metas after.knowns) vs (length e.locals) m n keeps here.metas decl declared (named_second direction e) can.0
        (scheme_below sig here e.locals typed.0 (named_second direction e) two) (scheme_saturated sig here e.locals typed.0 (named_second direction e) two)
        (ap (applied after.metas after.knowns (length e.locals)) (sym l) ∙ in_direction (applied_making after.metas after.knowns) direction e h) found)

    pub bound_to : (direction : Direction) (m : ℕ) (vs : Values) → named_first direction e ≡ meta m vs → CanBind (meta m vs) (named_second direction e) →
        IsOfState sig st by ↔ IsOfState sig (after_step (becomes m (over_parameters vs (named_second direction e)) here) st) by
    bound_to direction m vs l can = (forward, unstepped_staying step keeps st.equations state.sides by refl)
      where
        t : SchemeTree
        t = named_second direction e

        step : Step
        step = becomes m (over_parameters vs (named_second direction e)) here

        one : IsScheme sig here e.locals typed.0 (meta m vs)
        one = subst (IsScheme sig here e.locals typed.0) l (first_typed sig here direction e typed)

        two : IsScheme sig here e.locals typed.0 (named_second direction e)
        two = second_typed sig here direction e typed

        keeps : KeepsCategories sig here (substitution_of here (becomes m (over_parameters vs (named_second direction e)) here))
        keeps = bind_categories sig here state.knowns e.locals typed.0 m vs (named_second direction e) one two can.2

        value_for : (o : IsOfState sig st by) (decl : MetaDecl) (v : SchemeTree) → slice_get here.metas m ≡ Some decl → slice_get o.after.metas m ≡ Some v →
            applied o.after.metas o.after.knowns (params decl) (over_parameters vs (named_second direction e)) ≡ v
        value_for o decl v declared at_v =
            bound_value (applied_making o.after.metas o.after.knowns) (length e.locals) m (params decl) vs (named_second direction e) can.0
            (scheme_below sig here e.locals typed.0 (meta m vs) one) (arguments_long sig here e.locals typed.0 m vs decl one declared)
            (applied_filled o.after.metas o.after.knowns (params decl) (length e.locals) (λ i. local (parameter_at vs i)) (named_second direction e)
            (scheme_below sig here e.locals typed.0 (named_second direction e) two))
            (ap (applied o.after.metas o.after.knowns (length e.locals)) (sym l) ∙ in_direction (applied_making o.after.metas o.after.knowns) direction e (solved_here o))
            ∙ ap (λ x. unwrap_or x (local 0)) at_v

        forward : IsOfState sig st by → IsOfState sig (after_step (becomes m (over_parameters vs (named_second direction e)) here) st) by
        forward o =
            let all = subst (λ ds. AllZip (IsTyped sig o.after.into) ds o.after.metas) (sym (append-nil here.metas)) o.common.schemes.metas in
            stepped (becomes m (over_parameters vs (named_second direction e)) here) keeps st.equations state.sides by o o.after.metas all
            (same_together sig here state.knowns o.after o.common.schemes m (over_parameters vs (named_second direction e))
            (becomes m (over_parameters vs (named_second direction e)) here) refl refl keeps o.after.metas all
            (λ k v at_v. ap (λ x. unwrap_or x (local 0)) at_v) (λ decl v declared at_v. value_for o decl v declared at_v))
