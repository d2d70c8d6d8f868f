-- Equations of patterns, with entries of patterns, are within the fragment.
use Rattle.std.proofs.Common.{◌≡◌, ◌⊎◌, inl, inr, ℕ, zero, suc, ◌+◌, ◌-◌, ◌<◌, ◌≤◌, List, [], ◌∷◌, ◌++◌, length, map, get_or, option_map, slice_get, unwrap_or, refl, ap, sym, ◌∙◌, subst, arith}
use Rattle.std.specs.List.{AllByRecursion}
use Rattle.std.proofs.lemmas.Bool.{cases_lt}
use Rattle.binding_terms.specs.Numbered.{AnyByRecursion}
use Rattle.binding_terms.specs.Signature.{Signature, Fits, Place}
use Rattle.binding_terms.proofs.Lists.{all_middle}
use Rattle.scheme_terms.specs.SchemeTree.{SchemeTree, meta, known, local, con, Values, no_values, value, values, Parts, no_parts, part, AreDistinctLocals, OccursIn, OccursInValues, OccursInParts}
use Rattle.scheme_terms.specs.Forms.{Names, KnownVariable}
use Rattle.scheme_terms.specs.SchemeScope.{AreSchemes, IsKnownEntry}
use Rattle.scheme_terms.specs.Substituting.{scheme_for, applied, params, parameters}
use Rattle.scheme_terms.specs.Demands.{numbers}
use Rattle.scheme_terms.specs.declared.scheme.Root.{Root}
use Rattle.scheme_terms.proofs.SchemeFacts.{scheme_below}
use Rattle.scheme_terms.proofs.Identities.{identity_is_substitution}
use Rattle.pattern_unify.specs.Equations.{SchemeEquation, AreSides}
use Rattle.pattern_unify.specs.Patterns.{IsAmong, IsRigidIn, IsRigidInParts, HasRigidOther, PartsHaveRigidOther, HasLocalsAmong, HaveLocalsAmong, PartsHaveLocalsAmong, over_parameters, parameter_at, common_arguments, marked}
use Rattle.pattern_unify.specs.Pruning.{HasOther, HasPrunable, PartsHavePrunable}
use Rattle.pattern_unify.specs.State.{State, Step, names_of, start, after_step, with_equations, applied_equation, applied_known, becomes, becomes_new, joins_to, metas_but}
use Rattle.pattern_unify.specs.Moves.{Row, delete, decompose, clash, join, meet, prune, bind, Direction, left_first, right_first, named_second, CanBind, AppliesTo, Rests}
use Rattle.pattern_unify.specs.Move.{goes_on, Move, deletes, decomposes, clashes, joins, meets, prunes, binds, part_equations, argument_equations, production_binders, production_slots, entry_equations, entry_args}
use Rattle.pattern_unify.specs.Run.{IsStuck, End, solved, clashed, stuck, Runs, is_solved, is_stuck, has_clash, turns}
use Rattle.pattern_unify.specs.Laws.{IsState}
use Rattle.pattern_unify.specs.CommonLaws.{IsOfPatterns, PartsAreOfPatterns, PatternsAreWithin}
use Rattle.pattern_unify.proofs.Deciding.{decided_number}
use Rattle.pattern_unify.proofs.EachLocals.{EachLocal, EachLocalOfValues, EachLocalOfParts}
use Rattle.pattern_unify.proofs.KeptParameters.{among_back, marked_distinct}
use Rattle.pattern_unify.proofs.MoveValues.{parameter_same}
use Rattle.pattern_unify.proofs.MovedNames.{metas_but_none}
use Rattle.pattern_unify.proofs.ReplacedEquations.{replaced_all}
use Rattle.pattern_unify.proofs.PatternsKept.{renamed_patterns, applied_patterns, put_patterns}
use Rattle.pattern_unify.proofs.StatesKept.{entry_places, entry_typed, turn_keeps_state}
use Rattle.pattern_unify.proofs.JoinTurns.{sides}
use Rattle.pattern_unify.proofs.TurnInstances.{leads, never_goes, joins_two}
use Rattle.scheme_terms.specs.Substituting.{identity}

-- whether a local is among distinct ones
among_or_not : (i : ℕ) (vs : Values) → AreDistinctLocals vs → IsAmong i vs ⊎ (IsAmong i vs → ⊥)
among_or_not i no_values h = inr (λ no. no)
among_or_not i (value (local a) vs) h = elim (decided_number a i) [
  | inl same ↦ inl (inl (ap local same))
  | inr other ↦ elim (among_or_not i vs h.1) [
    | inl later ↦ inl (inr later)
    | inr none ↦ inr (λ at. elim at [
      | inl e ↦ other (local_number a i e)
      | inr later ↦ none later
    ])
  ]
]
  where
    local_number : (a i : ℕ) → local a ≡ local i → a ≡ i
    local_number a i e = cc
among_or_not i (value (meta m ws) vs) h = absurd h
among_or_not i (value (known l) vs) h = absurd h
among_or_not i (value (con p xs) vs) h = absurd h

none_in_locals : (m : ℕ) (vs : Values) → AreDistinctLocals vs → OccursInValues m vs → ⊥
none_in_locals m no_values h o = o
none_in_locals m (value (local i) vs) h (inl o) = o
none_in_locals m (value (local i) vs) h (inr o) = none_in_locals m vs h.1 o
none_in_locals m (value (meta k ws) vs) h o = h
none_in_locals m (value (known l) vs) h o = h
none_in_locals m (value (con p xs) vs) h o = h

-- in schemes of patterns each occurrence is rigid
mutual
  occurs_rigid : (m : ℕ) (t : SchemeTree) → IsOfPatterns t → OccursIn m t → IsRigidIn m t
  occurs_rigid m (meta k ws) h (inl same) = same
  occurs_rigid m (meta k ws) h (inr o) = absurd (none_in_locals m ws h o)
  occurs_rigid m (known k) h o = absurd o
  occurs_rigid m (local i) h o = absurd o
  occurs_rigid m (con p xs) h o = occurs_rigid_parts m xs h o

  occurs_rigid_parts : (m : ℕ) (xs : Parts) → PartsAreOfPatterns xs → OccursInParts m xs → IsRigidInParts m xs
  occurs_rigid_parts m no_parts h o = o
  occurs_rigid_parts m (part n s xs) h (inl o) = inl (occurs_rigid m s h.0 o)
  occurs_rigid_parts m (part n s xs) h (inr o) = inr (occurs_rigid_parts m xs h.1 o)

-- where no clash and no prune applies, the locals are all among the pattern's
module _ (m : ℕ) (vs : Values) (distinct : AreDistinctLocals vs) where
  values_among : (d : ℕ) (ws : Values) → AreDistinctLocals ws → (HasOther vs d ws → ⊥) → HaveLocalsAmong vs d ws
  values_among d no_values h none = tt
  values_among d (value (local i) ws) h none = (here (cases_lt i d) (among_or_not (i - d) vs distinct), values_among d ws h.1 (λ o. none (inr o)))
    where
      here : (i < d) ⊎ (d ≤ i) → IsAmong (i - d) vs ⊎ (IsAmong (i - d) vs → ⊥) → (i < d) ⊎ IsAmong (i - d) vs
      here (inl near) c = inl near
      here (inr far) (inl among) = inr among
      here (inr far) (inr away) = absurd (none (inl (far, away)))
  values_among d (value (meta k us) ws) h none = absurd h
  values_among d (value (known l) ws) h none = absurd h
  values_among d (value (con p xs) ws) h none = absurd h

  mutual
    all_among : (d : ℕ) (t : SchemeTree) → IsOfPatterns t → (IsRigidIn m t → ⊥) → (HasRigidOther vs d t → ⊥) → (HasPrunable m vs d t → ⊥) → HasLocalsAmong vs d t
    all_among d (meta k ws) h rigid other prunable = values_among d ws h (λ o. prunable (rigid, h, o))
    all_among d (known k) h rigid other prunable = tt
    all_among d (local i) h rigid other prunable = here (cases_lt i d) (among_or_not (i - d) vs distinct)
      where
        here : (i < d) ⊎ (d ≤ i) → IsAmong (i - d) vs ⊎ (IsAmong (i - d) vs → ⊥) → (i < d) ⊎ IsAmong (i - d) vs
        here (inl near) c = inl near
        here (inr far) (inl among) = inr among
        here (inr far) (inr away) = absurd (other (far, away))
    all_among d (con p xs) h rigid other prunable = all_parts_among d xs h rigid other prunable

    all_parts_among : (d : ℕ) (xs : Parts) → PartsAreOfPatterns xs → (IsRigidInParts m xs → ⊥) → (PartsHaveRigidOther vs d xs → ⊥) → (PartsHavePrunable m vs d xs → ⊥) →
        PartsHaveLocalsAmong vs d xs
    all_parts_among d no_parts h rigid other prunable = tt
    all_parts_among d (part n s xs) h rigid other prunable = (
      all_among (d + n) s h.0 (λ o. rigid (inl o)) (λ o. other (inl o)) (λ o. prunable (inl o)),
      all_parts_among d xs h.1 (λ o. rigid (inr o)) (λ o. other (inr o)) (λ o. prunable (inr o)),
    )

  -- a pattern and a scheme of patterns: some move applies
  meta_moves : (names : Names) (t : SchemeTree) → IsOfPatterns t → (IsRigidIn m t → ⊥) → ((row : Row) → AppliesTo names row (meta m vs) t → ⊥) → ⊥
  meta_moves names t h rigid rests =
      rests bind (distinct, (λ o. rigid (occurs_rigid m t h o)), all_among 0 t h rigid (λ o. rests clash (inr (distinct, inr o))) (λ o. rests prune (distinct, o)))

pattern_moves : (names : Names) (ls : List ℕ) (s t : SchemeTree) → IsOfPatterns s → IsOfPatterns t → Rests names (record { locals = ls; left = s; right = t }) → ⊥
pattern_moves names ls (meta m vs) (meta k ws) hs ht rests = elim (decided_number m k) [
  | inl same ↦ rests meet left_first (same, hs, ht)
  | inr other ↦ meta_moves m vs hs names (meta k ws) ht (λ e. other (sym e)) (λ row a. rests row left_first a)
]
pattern_moves names ls (meta m vs) (known k) hs ht rests = meta_moves m vs hs names (known k) ht (λ e. e) (λ row a. rests row left_first a)
pattern_moves names ls (meta m vs) (local i) hs ht rests = meta_moves m vs hs names (local i) ht (λ e. e) (λ row a. rests row left_first a)
pattern_moves names ls (meta m vs) (con p xs) hs ht rests =
    meta_moves m vs hs names (con p xs) ht (λ e. rests clash left_first (inr (hs, inl e))) (λ row a. rests row left_first a)
pattern_moves names ls (known k) (meta m vs) hs ht rests = meta_moves m vs ht names (known k) hs (λ e. e) (λ row a. rests row right_first a)
pattern_moves names ls (local i) (meta m vs) hs ht rests = meta_moves m vs ht names (local i) hs (λ e. e) (λ row a. rests row right_first a)
pattern_moves names ls (con p xs) (meta m vs) hs ht rests =
    meta_moves m vs ht names (con p xs) hs (λ e. rests clash right_first (inr (ht, inl e))) (λ row a. rests row right_first a)
pattern_moves names ls (known k) (known l) hs ht rests = elim (decided_number k l) [
  | inl same ↦ rests delete left_first (ap known same)
  | inr other ↦ rests clash left_first (inl (other, λ one. rests join left_first (other, one)))
]
pattern_moves names ls (known k) (local i) hs ht rests = rests clash right_first (inl tt)
pattern_moves names ls (known k) (con p xs) hs ht rests = rests clash right_first (inl tt)
pattern_moves names ls (local i) (known k) hs ht rests = rests clash left_first (inl tt)
pattern_moves names ls (local i) (local j) hs ht rests = elim (decided_number i j) [
  | inl same ↦ rests delete left_first (ap local same)
  | inr other ↦ rests clash left_first (inl other)
]
pattern_moves names ls (local i) (con p xs) hs ht rests = rests clash right_first (inl tt)
pattern_moves names ls (con p xs) (known k) hs ht rests = rests clash left_first (inl tt)
pattern_moves names ls (con p xs) (local i) hs ht rests = rests clash left_first (inl tt)
pattern_moves names ls (con p xs) (con q ys) hs ht rests = elim (decided_number p q) [
  | inl same ↦ rests decompose left_first same
  | inr other ↦ rests clash left_first (inl other)
]

-- what a bind puts in
among_number : (i : ℕ) (vs : Values) → AreDistinctLocals vs → IsAmong i vs → AnyByRecursion (λ j. j ≡ i) (numbers vs)
among_number i no_values h o = absurd o
among_number i (value (local a) vs) h (inl e) = inl (let same : a ≡ i = cc in same)
among_number i (value (local a) vs) h (inr o) = inr (among_number i vs h.1 o)
among_number i (value (meta m ws) vs) h o = absurd h
among_number i (value (known l) vs) h o = absurd h
among_number i (value (con p xs) vs) h o = absurd h

mutual
  each_among : (vs : Values) (d : ℕ) (s : SchemeTree) → HasLocalsAmong vs d s → EachLocal (λ i. IsAmong i vs) d s
  each_among vs d (meta m ws) h = each_value_among vs d ws h
  each_among vs d (known k) h = tt
  each_among vs d (local i) h = h
  each_among vs d (con p xs) h = each_part_among vs d xs h

  each_value_among : (vs : Values) (d : ℕ) (ws : Values) → HaveLocalsAmong vs d ws → EachLocalOfValues (λ i. IsAmong i vs) d ws
  each_value_among vs d no_values h = tt
  each_value_among vs d (value s ws) h = (each_among vs d s h.0, each_value_among vs d ws h.1)

  each_part_among : (vs : Values) (d : ℕ) (xs : Parts) → PartsHaveLocalsAmong vs d xs → EachLocalOfParts (λ i. IsAmong i vs) d xs
  each_part_among vs d no_parts h = tt
  each_part_among vs d (part n s xs) h = (each_among vs (d + n) s h.0, each_part_among vs d xs h.1)

bound_patterns : (vs : Values) (t : SchemeTree) → AreDistinctLocals vs → HasLocalsAmong vs 0 t → IsOfPatterns t → IsOfPatterns (over_parameters vs t)
bound_patterns vs t distinct among h = renamed_patterns (λ i. IsAmong i vs) (parameter_at vs) one t (each_among vs 0 t among) h
  where
    back : (i : ℕ) → IsAmong i vs → get_or (numbers vs) (length (numbers vs) - 1 - parameter_at vs i) 0 ≡ i
    back i at =
        ap (λ p. get_or (numbers vs) (length (numbers vs) - 1 - p) 0) (parameter_same vs distinct i) ∙ (among_back (numbers vs) i (among_number i vs distinct at)).1

    one : (i j : ℕ) → IsAmong i vs → IsAmong j vs → parameter_at vs i ≡ parameter_at vs j → i ≡ j
    one i j at_i at_j e = sym (back i at_i) ∙ ap (λ p. get_or (numbers vs) (length (numbers vs) - 1 - p) 0) e ∙ back j at_j

-- states of patterns
abbrev IsPatternEquation : SchemeEquation → Type 0
IsPatternEquation e = IsOfPatterns e.left × IsOfPatterns e.right

abbrev HasPatternEntry : KnownVariable → Type 0
HasPatternEntry decl = AllByRecursion IsOfPatterns decl.entry.args

record IsPatternState (st : State) : Type 0 where
  equations : AllByRecursion IsPatternEquation st.equations
  entries : AllByRecursion HasPatternEntry (names_of st).knowns

not_stuck : (st : State) → IsPatternState st → IsStuck st → ⊥
not_stuck st patterns h = at st.equations h.0 h.1 patterns.equations
  where
    at : (es : List SchemeEquation) → (es ≡ [] → ⊥) → AllByRecursion (Rests (names_of st)) es → AllByRecursion IsPatternEquation es → ⊥
    at [] some rests all = some refl
    at (e ∷ es) some rests all = pattern_moves (names_of st) e.locals e.left e.right all.0.0 all.0.1 rests.0

module _ (sig : Signature) (names : Names) (ss : List SchemeTree) (ks : List ℕ) (all : (m : ℕ) → IsOfPatterns (scheme_for ss m)) where
  equations_kept : (es : List SchemeEquation) → AllByRecursion (AreSides sig names) es → AllByRecursion IsPatternEquation es → AllByRecursion IsPatternEquation (map (applied_equation ss ks) es)
  equations_kept [] typed h = tt
  equations_kept (e ∷ es) typed h = (
    (
      applied_patterns ss ks all (length e.locals) e.left (scheme_below sig names e.locals typed.0.0 e.left typed.0.1) h.0.0,
      applied_patterns ss ks all (length e.locals) e.right (scheme_below sig names e.locals typed.0.0 e.right typed.0.2) h.0.1,
    ),
    equations_kept es typed.1 h.1,
  )

  arguments_kept : (places : List Place) (ts : List SchemeTree) → AreSchemes sig names [] places ts → AllByRecursion IsOfPatterns ts → AllByRecursion IsOfPatterns (map (applied ss ks 0) ts)
  arguments_kept [] [] typed h = tt
  arguments_kept [] (t ∷ ts) typed h = absurd typed
  arguments_kept (at ∷ places) [] typed h = absurd typed
  arguments_kept (at ∷ places) (t ∷ ts) typed h =
      (applied_patterns ss ks all 0 t (scheme_below sig names [] at.cat t typed.0) h.0, arguments_kept places ts typed.1 h.1)

  entries_kept : (root : Root) (decls : List KnownVariable) → AllByRecursion (λ d. IsKnownEntry sig names root d.entry) decls → AllByRecursion HasPatternEntry decls →
      AllByRecursion HasPatternEntry (map (applied_known ss ks) decls)
  entries_kept root [] typed h = tt
  entries_kept root (d ∷ decls) typed h =
      (arguments_kept (entry_places sig d.entry.prod) d.entry.args (entry_typed sig names root d.entry typed.0) h.0, entries_kept root decls typed.1 h.1)

parts_patterns : (ls bs : List ℕ) (ps : List Place) (xs ys : Parts) → PartsAreOfPatterns xs → PartsAreOfPatterns ys → AllByRecursion IsPatternEquation (part_equations ls bs ps xs ys)
parts_patterns ls bs [] xs ys h g = tt
parts_patterns ls bs (s ∷ ps) no_parts ys h g = tt
parts_patterns ls bs (s ∷ ps) (part m x xs) no_parts h g = tt
parts_patterns ls bs (s ∷ ps) (part m x xs) (part n y ys) h g = ((h.0, g.0), parts_patterns ls bs ps xs ys h.1 g.1)

entry_patterns : (ss ts : List SchemeTree) → AllByRecursion IsOfPatterns ss → AllByRecursion IsOfPatterns ts → AllByRecursion IsPatternEquation (entry_equations ss ts)
entry_patterns [] ts h g = tt
entry_patterns (s ∷ ss) [] h g = tt
entry_patterns (s ∷ ss) (t ∷ ts) h g = ((h.0, g.0), entry_patterns ss ts h.1 g.1)

args_patterns : (decls : List KnownVariable) (k : ℕ) → AllByRecursion HasPatternEntry decls →
    AllByRecursion IsOfPatterns (unwrap_or (option_map (λ decl. decl.entry.args) (slice_get decls k)) [])
args_patterns [] k h = tt
args_patterns (d ∷ decls) zero h = h.0
args_patterns (d ∷ decls) (suc k) h = args_patterns decls k h.1

second_patterns : (direction : Direction) (e : SchemeEquation) → IsPatternEquation e → IsOfPatterns (named_second direction e)
second_patterns left_first e h = h.1
second_patterns right_first e h = h.0

module _ (sig : Signature) (names : Names) (st : State) (state : IsState sig names st) (patterns : IsPatternState st) (before : List SchemeEquation) (e : SchemeEquation)
    (rest : List SchemeEquation) (at : st.equations ≡ before ++ e ∷ rest) where
  here_patterns : IsPatternEquation e
  here_patterns = all_middle IsPatternEquation before rest e (subst (AllByRecursion IsPatternEquation) at patterns.equations)

  replaced : (new : List SchemeEquation) → AllByRecursion IsPatternEquation new → AllByRecursion IsPatternEquation (before ++ (new ++ rest))
  replaced new h = replaced_all IsPatternEquation before e rest new (subst (AllByRecursion IsPatternEquation) at patterns.equations) (λ g. h)

  stepped : (step : Step) (m : ℕ) (s : SchemeTree) → step.metas ≡ metas_but m s 0 (names_of st).metas → IsOfPatterns s → (eqs : List SchemeEquation) →
      AllByRecursion (AreSides sig (names_of st)) eqs → AllByRecursion IsPatternEquation eqs → IsPatternState (after_step step (with_equations eqs st))
  stepped step m s metas h eqs typed g =
      let all : (k : ℕ) → IsOfPatterns (scheme_for step.metas k) =
      λ k. subst (λ ss. IsOfPatterns (scheme_for ss k)) (sym metas) (put_patterns m s h 0 (names_of st).metas k) in
      record {
        equations = equations_kept sig (names_of st) step.metas step.knowns all eqs typed g;
        entries = entries_kept sig (names_of st) step.metas step.knowns all (names_of st).root (names_of st).knowns state.knowns patterns.entries;
      }

  move_keeps : (direction : Direction) (next : State) (row : Row) → Move sig st before e rest direction (goes_on next) row → IsPatternState next
  move_keeps direction next delete (deletes a h) =
      leads IsPatternState next (with_equations (before ++ rest) st) h (record { equations = replaced [] tt; entries = patterns.entries })
  move_keeps direction next decompose (decomposes p xs ys l r h) =
      leads IsPatternState next (with_equations (before ++ (argument_equations sig e p xs ys ++ rest)) st) h
      (record {
        equations = replaced (argument_equations sig e p xs ys)
            (parts_patterns e.locals (production_binders sig p) (production_slots sig p) xs ys (subst IsOfPatterns l here_patterns.0) (subst IsOfPatterns r here_patterns.1));
        entries = patterns.entries;
      })
  move_keeps direction next clash (clashes a h) = absurd (never_goes next h)
  move_keeps direction next join (joins low high order these a h) =
      leads IsPatternState next
      (after_step (joins_to high low (names_of st)) (with_equations (before ++ (entry_equations (entry_args (names_of st) low) (entry_args (names_of st) high) ++ rest)) st)) h
      (stepped (joins_to high low (names_of st)) (length (names_of st).metas) (local 0) (sym (metas_but_none (length (names_of st).metas) (local 0) 0 (names_of st).metas (omega arith))) tt
      (before ++ (entry_equations (entry_args (names_of st) low) (entry_args (names_of st) high) ++ rest))
      (sides sig names st state before e rest at (identity names) low high these (joins_two (names_of st) direction e low high these a))
      (replaced (entry_equations (entry_args (names_of st) low) (entry_args (names_of st) high))
      (entry_patterns (entry_args (names_of st) low) (entry_args (names_of st) high) (args_patterns (names_of st).knowns low patterns.entries)
      (args_patterns (names_of st).knowns high patterns.entries))))
  move_keeps direction next meet (meets m vs ws decl l r declared a h) =
      leads IsPatternState next (after_step (becomes_new m decl (common_arguments vs ws) (names_of st)) st) h
      (stepped (becomes_new m decl (common_arguments vs ws) (names_of st)) m
      (meta (length (names_of st).metas) (values (marked (common_arguments vs ws) (parameters (params decl))))) refl (marked_distinct (common_arguments vs ws) (params decl))
      st.equations state.sides patterns.equations)
  move_keeps direction next prune (prunes m n vs keeps decl l a found declared h) =
      leads IsPatternState next (after_step (becomes_new n decl keeps (names_of st)) st) h
      (stepped (becomes_new n decl keeps (names_of st)) n (meta (length (names_of st).metas) (values (marked keeps (parameters (params decl))))) refl
      (marked_distinct keeps (params decl)) st.equations state.sides patterns.equations)
  move_keeps direction next bind (binds m vs l a h) =
      let can : CanBind (meta m vs) (named_second direction e) = subst (λ s. CanBind s (named_second direction e)) l a in
      leads IsPatternState next (after_step (becomes m (over_parameters vs (named_second direction e)) (names_of st)) st) h
      (stepped (becomes m (over_parameters vs (named_second direction e)) (names_of st)) m (over_parameters vs (named_second direction e)) refl
      (bound_patterns vs (named_second direction e) can.0 can.2 (second_patterns direction e here_patterns)) st.equations state.sides patterns.equations)

abbrev end_kind : End → ℕ
end_kind (solved st) = 0
end_kind clashed = 1
end_kind (stuck st) = 2

-- a run from such a state does not end stuck
pattern_run : (sig : Signature) (names : Names) (st : State) (end : End) → Fits sig → Runs sig st end → IsState sig names st → IsPatternState st → (last : State) → end ≡ stuck last → ⊥
pattern_run sig names st end fits (is_solved s h) state patterns last same = absurd (omega (arith, ap end_kind same))
pattern_run sig names st end fits (is_stuck s h) state patterns last same = not_stuck s patterns h
pattern_run sig names st end fits (has_clash s turn) state patterns last same = absurd (omega (arith, ap end_kind same))
pattern_run sig names st end fits (turns s next other turn run) state patterns last same =
    pattern_run sig names next other fits run (turn_keeps_state sig names s next fits state turn)
    (move_keeps sig names s state patterns turn.before turn.e turn.rest turn.at turn.direction next turn.row turn.moves) last same

pub patterns_are_within : PatternsAreWithin
patterns_are_within sig names eqs fits owed equations entries left ends =
    pattern_run sig names (start names eqs) (stuck ends.st) fits ends.runs
    (record { root = refl; knowns = owed.knowns; sides = owed.sides; values = (identity_is_substitution sig names owed.knowns).metas })
    (record { equations = equations; entries = entries }) ends.st refl
