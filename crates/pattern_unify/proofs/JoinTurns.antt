-- A join keeps the common instances that are substitutions.
use Rattle.std.proofs.Common.{◌≡◌, ◌⊎◌, ◌↔◌, inl, inr, ℕ, List, [], ◌∷◌, ◌++◌, length, map, Some, slice_get, unwrap_or, append-nil, refl, ap, sym, ◌∙◌, subst, arith}
use Rattle.std.specs.List.{AllByRecursion, AllZip}
use Rattle.std.proofs.lemmas.Bool.Decides.{nat_tests}
use Rattle.std.proofs.lemmas.List.{length-map}
use Rattle.std.proofs.lemmas.Option.{slice_get_within}
use Rattle.std.proofs.lemmas.Slice.Zip.{AllZip-long}
use Rattle.binding_terms.specs.Signature.{Signature}
use Rattle.binding_terms.proofs.Lists.{all_at, match_some, match_map, some_once}
use Rattle.scheme_terms.specs.SchemeTree.{SchemeTree, known, local}
use Rattle.scheme_terms.specs.Forms.{Names, Substitution, KnownVariable}
use Rattle.scheme_terms.specs.SchemeScope.{AreSchemes, IsKnownEntry}
use Rattle.scheme_terms.specs.Substituting.{known_for, applied, composed, metas_from, Suits, applied_entry, IsKnownValue, IsSubstitution}
use Rattle.scheme_terms.proofs.Options.{zip_at}
use Rattle.scheme_terms.proofs.Makings.{applied_making}
use Rattle.scheme_terms.proofs.Compositions.{entry_with}
use Rattle.pattern_unify.specs.Equations.{SchemeEquation, AreSides}
use Rattle.pattern_unify.specs.CommonInstance.{MakesEqual}
use Rattle.pattern_unify.specs.State.{State, Step, names_of, names_after, substitution_of, after_step, with_equations, applied_known, joins_to, metas_but}
use Rattle.pattern_unify.specs.Move.{entry_equations, entry_args}
use Rattle.pattern_unify.specs.Laws.{IsState}
use Rattle.pattern_unify.specs.CommonLaws.{IsOfState}
use Rattle.pattern_unify.proofs.Renaming.{KeepsCategories}
use Rattle.pattern_unify.proofs.TypedSuits.{IsTyped, typed_all_suit}
use Rattle.pattern_unify.proofs.SteppedSchemes.{known_after}
use Rattle.pattern_unify.proofs.StepCategories.{join_categories}
use Rattle.pattern_unify.proofs.StepInstances.{metas_become, knowns_together, equal_together}
use Rattle.pattern_unify.proofs.MovedNames.{knowns_become, knowns_zip, knowns_but_there, knowns_but_long, known_but, metas_but_none}
use Rattle.pattern_unify.proofs.ReplacedEquations.{replaced_all, new_ones}
use Rattle.pattern_unify.proofs.SubstitutionMoves.{each_has_value}
use Rattle.pattern_unify.proofs.SubstitutionTurns.{same_entries, entries_same, stepped, unstepped, many_knowns, replaces, restores, solved_here}
use Rattle.pattern_unify.proofs.StatesKept.{entry_places, entry_typed, entries_sides, args_at, AreTwo}

known_same : (i j : ℕ) → known i ≡ known j → i ≡ j
known_same i j e = cc

-- the two sides are these known variables, in either order
abbrev pub AreThese : SchemeEquation → (low high : ℕ) → Type 0
AreThese e low high = ((e.left ≡ known low) × (e.right ≡ known high)) ⊎ ((e.left ≡ known high) × (e.right ≡ known low))

pub numbers_same : (ss : List SchemeTree) (ks : List ℕ) (e : SchemeEquation) (low high : ℕ) → AreThese e low high → MakesEqual ss ks e → known_for ks low ≡ known_for ks high
numbers_same ss ks e low high (inl k) h =
    known_same (known_for ks low) (known_for ks high) (ap (applied ss ks (length e.locals)) (sym k.0) ∙ h ∙ ap (applied ss ks (length e.locals)) k.1)
numbers_same ss ks e low high (inr k) h =
    known_same (known_for ks low) (known_for ks high) (ap (applied ss ks (length e.locals)) (sym k.1) ∙ sym h ∙ ap (applied ss ks (length e.locals)) k.0)

equal_numbers : (ss : List SchemeTree) (ks : List ℕ) (e : SchemeEquation) (low high : ℕ) → AreThese e low high → known_for ks low ≡ known_for ks high → MakesEqual ss ks e
equal_numbers ss ks e low high (inl k) h = ap (applied ss ks (length e.locals)) k.0 ∙ ap known h ∙ ap (applied ss ks (length e.locals)) (sym k.1)
equal_numbers ss ks e low high (inr k) h = ap (applied ss ks (length e.locals)) k.0 ∙ ap known (sym h) ∙ ap (applied ss ks (length e.locals)) (sym k.1)

-- two known variables that become one have the same arguments in their entries
same_images : (names : Names) (after : Substitution) → AllZip (IsKnownValue after) names.knowns after.knowns → (low high : ℕ) (two : AreTwo names low high) →
    known_for after.knowns low ≡ known_for after.knowns high →
    map (applied after.metas after.knowns 0) two.one.entry.args ≡ map (applied after.metas after.knowns 0) two.other.entry.args
same_images names after values low high two same =
    let one = zip_at (IsKnownValue after) names.knowns after.knowns values low two.one two.one_at in
    let other = zip_at (IsKnownValue after) names.knowns after.knowns values high two.other two.other_at in
    let first = match_some (slice_get after.into.knowns one.0) (λ o. o.entry ≡ applied_entry after 0 two.one.entry) one.2 in
    let second = match_some (slice_get after.into.knowns other.0) (λ o. o.entry ≡ applied_entry after 0 two.other.entry) other.2 in
    let number : one.0 ≡ other.0 = sym (ap (λ o. unwrap_or o low) one.1) ∙ same ∙ ap (λ o. unwrap_or o high) other.1 in
    ap (λ e. e.args) (sym first.2 ∙ ap (λ o. o.entry) (some_once first.1 (ap (slice_get after.into.knowns) number ∙ second.1)) ∙ second.2)

pub goes_low : (low high : ℕ) → known_but high low high ≡ low
goes_low low high = grind (arith, nat_tests)

pub stays_low : (low high : ℕ) → known_but high low low ≡ low
stays_low low high = grind (arith, nat_tests)

module _ (sig : Signature) (names : Names) (st : State) (state : IsState sig names st) (before : List SchemeEquation) (e : SchemeEquation) (rest : List SchemeEquation)
    (at : st.equations ≡ before ++ e ∷ rest) (by : Substitution) (low high : ℕ) (these : AreThese e low high) (two : AreTwo (names_of st) low high) where
  abbrev here : Names
  here = names_of st

  abbrev step : Step
  step = joins_to high low here

  abbrev new : List SchemeEquation
  new = entry_equations (entry_args here low) (entry_args here high)

  abbrev eqs : List SchemeEquation
  eqs = before ++ (new ++ rest)

  keeps : KeepsCategories sig here (substitution_of here step)
  keeps = join_categories sig here state.knowns low high two

  pub one_typed : AreSchemes sig here [] (entry_places sig two.one.entry.prod) two.one.entry.args
  one_typed = entry_typed sig here here.root two.one.entry (all_at (λ d. IsKnownEntry sig here here.root d.entry) here.knowns low two.one state.knowns two.one_at)

  pub other_typed : AreSchemes sig here [] (entry_places sig two.one.entry.prod) two.other.entry.args
  other_typed =
      subst (λ p. AreSchemes sig here [] (entry_places sig p) two.other.entry.args) (sym two.same)
      (entry_typed sig here here.root two.other.entry (all_at (λ d. IsKnownEntry sig here here.root d.entry) here.knowns high two.other state.knowns two.other_at))

  same_equations : new ≡ entry_equations two.one.entry.args two.other.entry.args
  same_equations =
      ap (λ ss. entry_equations ss (entry_args here high)) (args_at here low two.one two.one_at)
      ∙ ap (entry_equations two.one.entry.args) (args_at here high two.other two.other_at)

  pub sides : AllByRecursion (AreSides sig here) eqs
  sides =
      replaced_all (AreSides sig here) before e rest new (subst (AllByRecursion (AreSides sig here)) at state.sides)
      (λ typed. subst (AllByRecursion (AreSides sig here)) (sym same_equations)
      (entries_sides sig here (entry_places sig two.one.entry.prod) two.one.entry.args two.other.entry.args one_typed other_typed))

  -- forth
  entries_solved : (after : Substitution) → IsSubstitution sig here after → MakesEqual after.metas after.knowns e → AllByRecursion (MakesEqual after.metas after.knowns) new
  entries_solved after is h =
      subst (AllByRecursion (MakesEqual after.metas after.knowns)) (sym same_equations)
      (same_entries (applied_making after.metas after.knowns) two.one.entry.args two.other.entry.args
      (same_images here after is.knowns low high two (numbers_same after.metas after.knowns e low high these h)))

  joined_together : (after : Substitution) (is : IsSubstitution sig here after) → known_for after.knowns low ≡ known_for after.knowns high →
      AllZip (IsTyped sig after.into) (names_after here step).metas after.metas → composed (substitution_of here step) after ≡ after
  joined_together after is same typed =
      ap (λ ts. by_these ts (map (known_for after.knowns) step.knowns)) metas
      ∙ ap (by_these after.metas)
      (knowns_become (known_for after.knowns) after.knowns high low here.knowns long (sym same) (λ k y f. ap (λ o. unwrap_or o k) f))
    where
      by_these : List SchemeTree → List ℕ → Substitution
      by_these ts ks = record { metas = ts; knowns = ks; into = after.into }

      long : length after.knowns ≡ length here.knowns
      long = AllZip-long _ here.knowns after.knowns is.knowns

      wide : length after.metas ≡ length here.metas
      wide = AllZip-long _ here.metas after.metas is.metas

      unchanged : metas_but (length here.metas) (local 0) 0 here.metas ≡ metas_from 0 here.metas
      unchanged = metas_but_none (length here.metas) (local 0) 0 here.metas (omega arith)

      suits : AllByRecursion (Suits after.metas after.knowns) (metas_from 0 here.metas)
      suits =
          typed_all_suit sig (names_after here step) after.into after.metas after.knowns typed
          (long ∙ sym (length-map here.knowns (applied_known step.metas step.knowns))) here.metas (metas_from 0 here.metas) keeps.metas

      metas : map (applied after.metas after.knowns 0) (metas_from 0 here.metas) ≡ after.metas
      metas =
          ap (map (applied after.metas after.knowns 0)) (sym unchanged)
          ∙ metas_become (length here.metas) (local 0) here.metas after.metas after.knowns after.metas wide
          (subst (AllByRecursion (Suits after.metas after.knowns)) (sym unchanged) suits)
          (λ k decl v declared f. each_has_value (applied_making after.metas after.knowns) after.metas (length here.metas) (local 0) k decl v f refl
          (λ there. absurd (let within = slice_get_within here.metas k decl declared in let no : ⊥ = omega (arith, there, within) in no)))

  joined_forth : IsOfState sig st by → IsOfState sig (after_step step (with_equations eqs st)) by
  joined_forth o =
      let solved : MakesEqual o.after.metas o.after.knowns e = solved_here sig names st state before e rest at by o in
      let all = subst (λ ds. AllZip (IsTyped sig o.after.into) ds o.after.metas) (sym (append-nil here.metas)) o.common.schemes.metas in
      stepped sig names st state step keeps eqs sides by (replaces sig names st state before e rest new at by entries_solved o) o.after.metas all
      (joined_together o.after o.common.schemes (numbers_same o.after.metas o.after.knowns e low high these solved) all)

  -- and back
  module _ (o : IsOfState sig (after_step step (with_equations eqs st)) by) where
    abbrev whole : Substitution
    whole = composed (substitution_of here step) o.after

    solved_by_whole : AllByRecursion (MakesEqual whole.metas whole.knowns) eqs
    solved_by_whole = equal_together sig here state.knowns step keeps o.after o.common.schemes eqs sides o.common.equal

    same_entry : applied_entry whole 0 two.one.entry ≡ applied_entry whole 0 two.other.entry
    same_entry =
        ap (λ p. entry_with p (map (applied whole.metas whole.knowns 0) two.one.entry.args)) two.same
        ∙ ap (entry_with two.other.entry.prod)
        (entries_same (applied_making whole.metas whole.knowns) sig here (entry_places sig two.one.entry.prod) two.one.entry.args two.other.entry.args one_typed other_typed
        (subst (AllByRecursion (MakesEqual whole.metas whole.knowns)) same_equations (new_ones (MakesEqual whole.metas whole.knowns) before new rest solved_by_whole)))

    knowns_whole : AllZip (IsKnownValue whole) here.knowns (map (known_for o.after.knowns) step.knowns)
    knowns_whole =
        knowns_zip (IsKnownValue whole) here.knowns o.after.knowns high low own (many_knowns sig names st state step keeps eqs sides by o) of_high
      where
        own : AllZip (IsKnownValue whole) here.knowns o.after.knowns
        own = knowns_together sig here state.knowns step keeps o.after o.common.schemes

        of_high : (decl : KnownVariable) → slice_get here.knowns high ≡ Some decl → IsKnownValue whole decl (known_for o.after.knowns low)
        of_high decl declared =
            let value = zip_at (IsKnownValue whole) here.knowns o.after.knowns own low two.one two.one_at in
            let kept : IsKnownValue whole two.other value.0 =
            match_map (slice_get o.after.into.knowns value.0) (λ other. other.entry ≡ applied_entry whole 0 two.one.entry)
            (λ other. other.entry ≡ applied_entry whole 0 two.other.entry) (λ (other : KnownVariable) f. f ∙ same_entry) value.2 in
            subst (λ d. IsKnownValue whole d (known_for o.after.knowns low)) (some_once two.other_at declared)
            (subst (IsKnownValue whole two.other) (sym (ap (λ x. unwrap_or x low) value.1)) kept)

    number_whole : (k : ℕ) (decl : KnownVariable) → slice_get here.knowns k ≡ Some decl → known_but high low k ≡ low → known_for whole.knowns k ≡ known_for o.after.knowns low
    number_whole k decl declared goes =
        known_after step.knowns o.after.knowns k
        (knowns_but_long high low 0 here.knowns ∙ sym (many_knowns sig names st state step keeps eqs sides by o))
        ∙ ap (known_for o.after.knowns) (ap (λ x. unwrap_or x k) (knowns_but_there high low here.knowns k decl declared) ∙ goes)

    pub joined_back : IsOfState sig st by
    joined_back =
        restores sig names st state before e rest new at by (unstepped sig names st state step keeps eqs sides by o knowns_whole)
        (λ entries. equal_numbers whole.metas whole.knowns e low high these
        (number_whole low two.one two.one_at (stays_low low high) ∙ sym (number_whole high two.other two.other_at (goes_low low high))))

  pub joined : IsOfState sig st by ↔ IsOfState sig (after_step step (with_equations eqs st)) by
  joined = (joined_forth, joined_back)
