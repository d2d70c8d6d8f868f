-- Each name that stands in a state of a run has a line, from the start on.
use Rattle.std.proofs.Common.{◌≡◌, ◌⊎◌, inl, inr, ℕ, zero, suc, ◌+◌, Bool, true, false, List, [], ◌∷◌, ◌++◌, length, map, Some, slice_get, unwrap_or, refl, ap, sym, ◌∙◌, subst, arith}
use Rattle.std.specs.List.{AllByRecursion, AllZip}
use Rattle.std.proofs.lemmas.Option.{slice_get_within}
use Rattle.binding_terms.specs.Numbered.{AnyByRecursion}
use Rattle.binding_terms.specs.Signature.{Signature, Place, slots, binders}
use Rattle.binding_terms.specs.Scope.{bound}
use Rattle.binding_terms.proofs.Lists.{any_at, any_split, any_front, any_back, match_some}
use Rattle.scheme_terms.specs.SchemeTree.{SchemeTree, meta, known, local, con, Values, no_values, value, values, Parts, no_parts, part, OccursIn, OccursInValues, OccursInParts, KnownIn, KnownInValues, KnownInParts, StrictIn}
use Rattle.scheme_terms.specs.Forms.{Names, KnownVariable}
use Rattle.scheme_terms.specs.Context.{variables}
use Rattle.scheme_terms.specs.SchemeScope.{IsScheme, AreValues, AreSchemeParts, AreSchemes, IsKnownEntry, KnownsFit, params_scope}
use Rattle.scheme_terms.specs.Substituting.{known_for, params, parameters, metas_from, knowns_from, identity, applied}
use Rattle.scheme_terms.specs.declared.scheme.MetaDecl.{MetaDecl}
use Rattle.scheme_terms.specs.declared.scheme.Root.{Root}
use Rattle.pattern_unify.specs.Equations.{SchemeEquation, AreSides}
use Rattle.pattern_unify.specs.Patterns.{over_parameters, parameter_at, common_arguments, marked}
use Rattle.pattern_unify.specs.State.{State, names_of, start, after_step, with_equations, becomes, becomes_new, joins_to, metas_but}
use Rattle.pattern_unify.specs.Measure.{sides, entry_schemes, schemes_of}
use Rattle.pattern_unify.specs.Moves.{Row, delete, decompose, clash, join, meet, prune, bind, Direction, left_first, right_first, named_second, CanBind}
use Rattle.pattern_unify.specs.Move.{goes_on, Move, deletes, decomposes, clashes, joins, meets, prunes, binds, argument_equations, entry_equations, entry_args}
use Rattle.pattern_unify.specs.Run.{Turn}
use Rattle.pattern_unify.specs.Laws.{IsState}
use Rattle.pattern_unify.proofs.Standing.{StandsIn, from_filled}
use Rattle.pattern_unify.proofs.Falling.{in_marked}
use Rattle.pattern_unify.proofs.JoinFalling.{known_filled, sides_second, occurs_decomposed, known_decomposed, any_in_entries}
use Rattle.pattern_unify.proofs.MovedNames.{meta_but_there, meta_but_other, metas_but_there, metas_but_none, own_distinct}
use Rattle.pattern_unify.proofs.SubstitutionMoves.{value_is}
use Rattle.pattern_unify.proofs.StrictKept.{strict_kept_in}
use Rattle.pattern_unify.proofs.StatesKept.{entry_places, entry_typed, AreTwo}
use Rattle.pattern_unify.proofs.TurnInstances.{leads, never_goes, joins_two}
use Rattle.pattern_unify.proofs.JoinTurns.{AreThese, sides as typed_sides}
use Rattle.pattern_unify.proofs.LinesKept.{HasLines, all_schemes, lines_replaced, lines_after, other_kept, saturated, number_mapped}

-- known variables for themselves
pub known_stays : (decls : List KnownVariable) (k : ℕ) → known_for (knowns_from 0 decls) k ≡ k
known_stays decls k = at decls 0 k k (let e : 0 + k ≡ k = omega arith in e)
  where
    at : (decls : List KnownVariable) (n i k : ℕ) → n + i ≡ k → unwrap_or (slice_get (knowns_from n decls) i) k ≡ k
    at [] n i k e = refl
    at (d ∷ decls) n zero k e = let z : n ≡ k = omega (arith, e) in z
    at (d ∷ decls) n (suc i) k e = at decls (suc n) i k (omega (arith, e))

-- what stands in a scheme of a scope is declared there
abbrev IsDeclared : Names → ℕ → Type 0
IsDeclared names n = (decl : MetaDecl) × (slice_get names.metas n ≡ Some decl)

abbrev IsKnownDeclared : Names → ℕ → Type 0
IsKnownDeclared names k = (decl : KnownVariable) × (slice_get names.knowns k ≡ Some decl)

module _ (sig : Signature) (names : Names) (n : ℕ) where
  mutual
    declared : (ls : List ℕ) (c : ℕ) (s : SchemeTree) → IsScheme sig names ls c s → OccursIn n s → IsDeclared names n
    declared ls c (meta m vs) is (inl h) =
        let found = match_some (slice_get names.metas m) (λ decl. (decl.cat.0 ≡ c) × AreValues sig names ls (map (λ p. p.0) decl.params) vs) is in
        (found.0, ap (slice_get names.metas) (sym h) ∙ found.1)
    declared ls c (meta m vs) is (inr h) =
        let found = match_some (slice_get names.metas m) (λ decl. (decl.cat.0 ≡ c) × AreValues sig names ls (map (λ p. p.0) decl.params) vs) is in
        declared_values ls (map (λ p. p.0) found.0.params) vs found.2.1 h
    declared ls c (known k) is h = absurd h
    declared ls c (local i) is h = absurd h
    declared ls c (con p xs) is h =
        let found = match_some (slice_get sig.prods p) (λ prod. (prod.cat.0 ≡ c) × AreSchemeParts sig names ls (binders prod.items) (slots prod.items) xs) is in
        declared_parts ls (binders found.0.items) (slots found.0.items) xs found.2.1 h

    declared_values : (ls cs : List ℕ) (vs : Values) → AreValues sig names ls cs vs → OccursInValues n vs → IsDeclared names n
    declared_values ls cs no_values is h = absurd h
    declared_values ls [] (value s vs) is h = absurd is
    declared_values ls (c ∷ cs) (value s vs) is (inl h) = declared ls c s is.0 h
    declared_values ls (c ∷ cs) (value s vs) is (inr h) = declared_values ls cs vs is.1 h

    declared_parts : (ls bs : List ℕ) (ss : List Place) (xs : Parts) → AreSchemeParts sig names ls bs ss xs → OccursInParts n xs → IsDeclared names n
    declared_parts ls bs ss no_parts is h = absurd h
    declared_parts ls bs [] (part b s xs) is h = absurd is
    declared_parts ls bs (at ∷ ss) (part b s xs) is (inl h) = declared (bound bs at.binds ++ ls) at.cat s is.1 h
    declared_parts ls bs (at ∷ ss) (part b s xs) is (inr h) = declared_parts ls bs ss xs is.2 h

  mutual
    known_declared : (ls : List ℕ) (c : ℕ) (s : SchemeTree) → IsScheme sig names ls c s → KnownIn n s → IsKnownDeclared names n
    known_declared ls c (meta m vs) is h =
        let found = match_some (slice_get names.metas m) (λ decl. (decl.cat.0 ≡ c) × AreValues sig names ls (map (λ p. p.0) decl.params) vs) is in
        known_declared_values ls (map (λ p. p.0) found.0.params) vs found.2.1 h
    known_declared ls c (known k) is h =
        let found = match_some (slice_get names.knowns k) (λ decl. variables sig decl.entry.prod ≡ c ∷ []) is in
        (found.0, ap (slice_get names.knowns) (sym h) ∙ found.1)
    known_declared ls c (local i) is h = absurd h
    known_declared ls c (con p xs) is h =
        let found = match_some (slice_get sig.prods p) (λ prod. (prod.cat.0 ≡ c) × AreSchemeParts sig names ls (binders prod.items) (slots prod.items) xs) is in
        known_declared_parts ls (binders found.0.items) (slots found.0.items) xs found.2.1 h

    known_declared_values : (ls cs : List ℕ) (vs : Values) → AreValues sig names ls cs vs → KnownInValues n vs → IsKnownDeclared names n
    known_declared_values ls cs no_values is h = absurd h
    known_declared_values ls [] (value s vs) is h = absurd is
    known_declared_values ls (c ∷ cs) (value s vs) is (inl h) = known_declared ls c s is.0 h
    known_declared_values ls (c ∷ cs) (value s vs) is (inr h) = known_declared_values ls cs vs is.1 h

    known_declared_parts : (ls bs : List ℕ) (ss : List Place) (xs : Parts) → AreSchemeParts sig names ls bs ss xs → KnownInParts n xs → IsKnownDeclared names n
    known_declared_parts ls bs ss no_parts is h = absurd h
    known_declared_parts ls bs [] (part b s xs) is h = absurd is
    known_declared_parts ls bs (at ∷ ss) (part b s xs) is (inl h) = known_declared (bound bs at.binds ++ ls) at.cat s is.1 h
    known_declared_parts ls bs (at ∷ ss) (part b s xs) is (inr h) = known_declared_parts ls bs ss xs is.2 h

-- what is so of a typed scheme, among the schemes of a state
module _ (sig : Signature) (names : Names) (P : SchemeTree → Type 0) (R : Type 0) (told : (ls : List ℕ) (c : ℕ) (s : SchemeTree) → IsScheme sig names ls c s → P s → R) where
  in_metas : (decls : List MetaDecl) (ss : List SchemeTree) → AllZip (λ decl s. IsScheme sig names (params_scope decl) decl.cat.0 s) decls ss → AnyByRecursion P ss → R
  in_metas [] [] is h = absurd h
  in_metas [] (s ∷ ss) is h = absurd is
  in_metas (d ∷ decls) [] is h = absurd h
  in_metas (d ∷ decls) (s ∷ ss) is (inl h) = told (params_scope d) d.cat.0 s is.0 h
  in_metas (d ∷ decls) (s ∷ ss) is (inr h) = in_metas decls ss is.1 h

  in_sides : (es : List SchemeEquation) → AllByRecursion (AreSides sig names) es → AnyByRecursion P (sides es) → R
  in_sides [] is h = absurd h
  in_sides (e ∷ es) is (inl h) = told e.locals is.0.0 e.left is.0.1 h
  in_sides (e ∷ es) is (inr (inl h)) = told e.locals is.0.0 e.right is.0.2 h
  in_sides (e ∷ es) is (inr (inr h)) = in_sides es is.1 h

  in_arguments : (places : List Place) (ss : List SchemeTree) → AreSchemes sig names [] places ss → AnyByRecursion P ss → R
  in_arguments [] [] is h = absurd h
  in_arguments [] (s ∷ ss) is h = absurd is
  in_arguments (at ∷ places) [] is h = absurd h
  in_arguments (at ∷ places) (s ∷ ss) is (inl h) = told [] at.cat s is.0 h
  in_arguments (at ∷ places) (s ∷ ss) is (inr h) = in_arguments places ss is.1 h

  in_entries : (root : Root) (decls : List KnownVariable) → AllByRecursion (λ d. IsKnownEntry sig names root d.entry) decls → AnyByRecursion P (entry_schemes decls) → R
  in_entries root [] is h = absurd h
  in_entries root (d ∷ decls) is h = elim (any_split P d.entry.args (entry_schemes decls) h) [
    | inl k ↦ in_arguments (entry_places sig d.entry.prod) d.entry.args (entry_typed sig names root d.entry is.0) k
    | inr k ↦ in_entries root decls is.1 k
  ]

  pub in_state : (whole : Names) (st : State) → names_of st ≡ names → IsState sig whole st → AnyByRecursion P (all_schemes st) → R
  in_state whole st same state h = elim (any_split P st.so_far.metas (schemes_of st) h) [
    | inl k ↦ in_metas whole.metas st.so_far.metas (subst (λ (ns : Names). AllZip (λ decl s. IsScheme sig ns (params_scope decl) decl.cat.0 s) whole.metas st.so_far.metas) same state.values) k
    | inr k ↦ elim (any_split P (sides st.equations) (entry_schemes (names_of st).knowns) k) [
      | inl o ↦ in_sides st.equations (subst (λ (ns : Names). AllByRecursion (AreSides sig ns) st.equations) same state.sides) o
      | inr o ↦ in_entries names.root names.knowns (subst (KnownsFit sig) same state.knowns) (subst (λ (ns : Names). AnyByRecursion P (entry_schemes ns.knowns)) same o)
    ]
  ]

-- at the start each name is its own line
pub start_has_lines : (sig : Signature) (names : Names) (eqs : List SchemeEquation) → IsState sig names (start names eqs) → HasLines (start names eqs)
start_has_lines sig names eqs state = record {
  metas = λ n h. own n (in_state sig names (OccursIn n) (IsDeclared names n) (λ ls c s is at. declared sig names n ls c s is at) names (start names eqs) refl state h);
  knowns = λ k h. own_known k (in_state sig names (KnownIn k) (IsKnownDeclared names k) (λ ls c s is at. known_declared sig names k ls c s is at) names (start names eqs) refl state h);
}
  where
    own : (n : ℕ) → IsDeclared names n → AnyByRecursion (StrictIn n) (metas_from 0 names.metas)
    own n found =
        let within = slice_get_within names.metas n found.0 found.1 in
        subst (AnyByRecursion (StrictIn n)) (metas_but_none (length names.metas) (local 0) 0 names.metas (omega arith))
        (any_at (StrictIn n) (metas_but (length names.metas) (local 0) 0 names.metas) n (meta n (values (parameters (params found.0))))
        (metas_but_there (length names.metas) (local 0) names.metas n found.0 found.1
        ∙ ap Some (meta_but_other (length names.metas) (local 0) n found.0 (λ e. omega (arith, e, within)))) (refl, own_distinct (params found.0)))

    own_known : (k : ℕ) → IsKnownDeclared names k → AnyByRecursion (λ j. j ≡ k) (knowns_from 0 names.knowns)
    own_known k found = subst (λ x. AnyByRecursion (λ j. j ≡ x) (knowns_from 0 names.knowns)) (let z : 0 + k ≡ k = omega arith in z) (at names.knowns 0 k found.1)
      where
        at : (decls : List KnownVariable) (n i : ℕ) → slice_get decls i ≡ Some found.0 → AnyByRecursion (λ j. j ≡ n + i) (knowns_from n decls)
        at [] n i e = absurd (let no : ⊥ = cc in no)
        at (d ∷ decls) n zero e = inl (let z : n ≡ n + 0 = omega arith in z)
        at (d ∷ decls) n (suc i) e = inr (subst (λ x. AnyByRecursion (λ j. j ≡ x) (knowns_from (suc n) decls)) (let z : suc n + i ≡ n + suc i = omega arith in z) (at decls (suc n) i e))

no_known_in_marked : (x : ℕ) (bs : List Bool) (n : ℕ) → KnownInValues x (values (marked bs (parameters n))) → ⊥
no_known_in_marked x [] n h = h
no_known_in_marked x (b ∷ bs) zero h = h
no_known_in_marked x (true ∷ bs) (suc n) (inl h) = h
no_known_in_marked x (true ∷ bs) (suc n) (inr h) = no_known_in_marked x bs n h
no_known_in_marked x (false ∷ bs) (suc n) h = no_known_in_marked x bs n h

second_of : (P : SchemeTree → Type 0) (direction : Direction) (e : SchemeEquation) → P (named_second direction e) → P e.left ⊎ P e.right
second_of P left_first e h = inr h
second_of P right_first e h = inl h

module _ (sig : Signature) (names : Names) (st : State) (state : IsState sig names st) (lines : HasLines st) (before : List SchemeEquation) (e : SchemeEquation)
    (rest : List SchemeEquation) (at : st.equations ≡ before ++ e ∷ rest) where
  side_stands : (P : SchemeTree → Type 0) → P e.left ⊎ P e.right → AnyByRecursion P (all_schemes st)
  side_stands P h =
      any_back P st.so_far.metas (schemes_of st)
      (any_front P (sides st.equations) (entry_schemes (names_of st).knowns)
      (subst (λ es. AnyByRecursion P (sides es)) (sym at)
      (sides_second P before (e ∷ rest) (elim h [
        | inl l ↦ inl l
        | inr r ↦ inr (inl r)
      ]))))

  renewed : (m : ℕ) (decl : MetaDecl) (keeps : List Bool) → slice_get (names_of st).metas m ≡ Some decl → HasLines (after_step (becomes_new m decl keeps (names_of st)) st)
  renewed m decl keeps there =
      lines_after sig names st state lines (becomes_new m decl keeps (names_of st)) m (meta new (values (marked keeps (parameters (params decl))))) refl put_metas
      (λ x h. absurd (no_known_in_marked x keeps (params decl) h))
    where
      new : ℕ
      new = length (names_of st).metas

      put_metas : (x : ℕ) → OccursIn x (meta (length (names_of st).metas) (values (marked keeps (parameters (params decl))))) → StandsIn m (all_schemes st) →
          AnyByRecursion (StrictIn x) (map (applied (becomes_new m decl keeps (names_of st)).metas (becomes_new m decl keeps (names_of st)).knowns 0) st.so_far.metas)
      put_metas x (inl same) stood =
          subst (λ y. AnyByRecursion (StrictIn y) (map (applied (becomes_new m decl keeps (names_of st)).metas (becomes_new m decl keeps (names_of st)).knowns 0) st.so_far.metas)) same
          (strict_kept_in (becomes_new m decl keeps (names_of st)).metas (becomes_new m decl keeps (names_of st)).knowns (names_of st).metas m (length (names_of st).metas) decl keeps there
          (value_is (becomes_new m decl keeps (names_of st)).metas m (meta (length (names_of st).metas) (values (marked keeps (parameters (params decl)))))
          (metas_but_there m (meta (length (names_of st).metas) (values (marked keeps (parameters (params decl))))) (names_of st).metas m decl there
          ∙ ap Some (meta_but_there m (meta (length (names_of st).metas) (values (marked keeps (parameters (params decl))))) m decl refl)))
          st.so_far.metas (saturated sig names st state lines) (lines.metas m stood))
      put_metas x (inr inside) stood = absurd (in_marked x keeps (params decl) inside)

  bound_to : (direction : Direction) (m : ℕ) (vs : Values) → (OccursIn m (named_second direction e) → ⊥) →
      HasLines (after_step (becomes m (over_parameters vs (named_second direction e)) (names_of st)) st)
  bound_to direction m vs free =
      lines_after sig names st state lines (becomes m (over_parameters vs (named_second direction e)) (names_of st)) m (over_parameters vs (named_second direction e)) refl
      (λ x h stood. other_kept sig names st state lines (becomes m (over_parameters vs (named_second direction e)) (names_of st)) m (over_parameters vs (named_second direction e)) refl x
      (λ same. free (subst (λ y. OccursIn y (named_second direction e)) same (put x h)))
      (lines.metas x (side_stands (OccursIn x) (second_of (OccursIn x) direction e (put x h)))))
      (λ x h. number_mapped (known_for (knowns_from 0 (names_of st).knowns)) st.so_far.knowns x x
      (lines.knowns x (side_stands (KnownIn x) (second_of (KnownIn x) direction e (put_known x h)))) (known_stays (names_of st).knowns x))
    where
      put : (x : ℕ) → OccursIn x (over_parameters vs (named_second direction e)) → OccursIn x (named_second direction e)
      put x h = elim (from_filled x (λ i. local (parameter_at vs i)) (named_second direction e) h) [ inl k ↦ k | inr k ↦ absurd k.1 ]

      put_known : (x : ℕ) → KnownIn x (over_parameters vs (named_second direction e)) → KnownIn x (named_second direction e)
      put_known x h = elim (known_filled x (λ i. local (parameter_at vs i)) (named_second direction e) h) [ inl k ↦ k | inr k ↦ absurd k.1 ]

  joined : (low high : ℕ) (these : AreThese e low high) (two : AreTwo (names_of st) low high) →
      HasLines (after_step (joins_to high low (names_of st)) (with_equations (before ++ (entry_equations (entry_args (names_of st) low) (entry_args (names_of st) high) ++ rest)) st))
  joined low high these two =
      lines_after sig names (with_equations eqs st) replaced middle (joins_to high low (names_of st)) (length (names_of st).metas) (local 0)
      (sym (metas_but_none (length (names_of st).metas) (local 0) 0 (names_of st).metas (omega arith))) (λ x h stood. absurd h) (λ x h. absurd h)
    where
      eqs : List SchemeEquation
      eqs = before ++ (entry_equations (entry_args (names_of st) low) (entry_args (names_of st) high) ++ rest)

      middle : HasLines (with_equations (before ++ (entry_equations (entry_args (names_of st) low) (entry_args (names_of st) high) ++ rest)) st)
      middle =
          lines_replaced sig names st state lines before e rest (entry_equations (entry_args (names_of st) low) (entry_args (names_of st) high)) at
          (λ x h. inr (any_in_entries (OccursIn x) (names_of st) low high h)) (λ x h. inr (any_in_entries (KnownIn x) (names_of st) low high h))

      replaced : IsState sig names (with_equations (before ++ (entry_equations (entry_args (names_of st) low) (entry_args (names_of st) high) ++ rest)) st)
      replaced = record {
        root = state.root;
        knowns = state.knowns;
        sides = typed_sides sig names st state before e rest at (identity names) low high these two;
        values = state.values;
      }

  move_keeps : (direction : Direction) (next : State) (row : Row) → Move sig st before e rest direction (goes_on next) row → HasLines next
  move_keeps direction next delete (deletes a h) =
      leads HasLines next (with_equations (before ++ rest) st) h (lines_replaced sig names st state lines before e rest [] at (λ x k. absurd k) (λ x k. absurd k))
  move_keeps direction next decompose (decomposes p xs ys l r h) =
      leads HasLines next (with_equations (before ++ (argument_equations sig e p xs ys ++ rest)) st) h
      (lines_replaced sig names st state lines before e rest (argument_equations sig e p xs ys) at (λ x k. inl (occurs_decomposed sig x e p xs ys l r k))
      (λ x k. inl (known_decomposed sig x e p xs ys l r k)))
  move_keeps direction next clash (clashes a h) = absurd (never_goes next h)
  move_keeps direction next join (joins low high order these a h) =
      leads HasLines next
      (after_step (joins_to high low (names_of st)) (with_equations (before ++ (entry_equations (entry_args (names_of st) low) (entry_args (names_of st) high) ++ rest)) st)) h
      (joined low high these (joins_two (names_of st) direction e low high these a))
  move_keeps direction next meet (meets m vs ws decl l r there a h) =
      leads HasLines next (after_step (becomes_new m decl (common_arguments vs ws) (names_of st)) st) h (renewed m decl (common_arguments vs ws) there)
  move_keeps direction next prune (prunes m n vs keeps decl l a found there h) =
      leads HasLines next (after_step (becomes_new n decl keeps (names_of st)) st) h (renewed n decl keeps there)
  move_keeps direction next bind (binds m vs l a h) =
      let can : CanBind (meta m vs) (named_second direction e) = subst (λ s. CanBind s (named_second direction e)) l a in
      leads HasLines next (after_step (becomes m (over_parameters vs (named_second direction e)) (names_of st)) st) h (bound_to direction m vs can.1)

-- a turn keeps the lines
pub turn_keeps_lines : (sig : Signature) (names : Names) (st next : State) → IsState sig names st → HasLines st → Turn sig st (goes_on next) → HasLines next
turn_keeps_lines sig names st next state lines turn =
    move_keeps sig names st state lines turn.before turn.e turn.rest turn.at turn.direction next turn.row turn.moves
