-- What a solved run has found, over the names that are left, is a common instance.
use Rattle.std.proofs.Common.{◌≡◌, ◌≢◌, ◌⊎◌, inl, inr, ℕ, zero, suc, Bool, true, false, ◌==◌, ◌||◌, List, [], ◌∷◌, length, map, drop, Some, MatchOption, slice_get, unwrap_or, option_map, refl, ap, sym, ◌∙◌, subst, arith}
use Rattle.std.specs.List.{AllByRecursion, AllZip}
use Rattle.std.proofs.lemmas.Bool.Decides.{nat_tests}
use Rattle.std.proofs.lemmas.Option.{slice_get-map}
use Rattle.binding_terms.specs.Numbered.{AnyByRecursion}
use Rattle.binding_terms.specs.Signature.{Signature, Place, slots, binders}
use Rattle.binding_terms.specs.declared.grammar.Prod.{Prod}
use Rattle.binding_terms.proofs.Lists.{all_at, all_from_places, any_at, any_back, any_front, each_map, match_from, match_map, match_some}
use Rattle.scheme_terms.specs.SchemeTree.{SchemeTree, meta, known, local, con, values, Parts, no_parts, part, OccursIn, OccursInParts, KnownIn, StrictIn, StrictInParts}
use Rattle.scheme_terms.specs.Forms.{Names, Substitution, SchemeEntry, KnownVariable}
use Rattle.scheme_terms.specs.SchemeScope.{IsScheme, AreSchemes, IsKnownEntry, KnownsFit, params_scope}
use Rattle.scheme_terms.specs.Substituting.{known_for, applied, composed, params, parameters, Suits, IsSaturated, applied_entry, IsKnownValue}
use Rattle.scheme_terms.specs.declared.scheme.MetaDecl.{MetaDecl}
use Rattle.scheme_terms.specs.declared.scheme.Root.{Root}
use Rattle.scheme_terms.specs.declared.scheme.Root.TheVariants.{Closed, Empty, Whole}
use Rattle.scheme_terms.proofs.SchemeFacts.{scheme_saturated, scheme_suits}
use Rattle.scheme_terms.proofs.AppliedSchemes.{applied_twice}
use Rattle.scheme_terms.proofs.Compositions.{same_arguments, entry_with}
use Rattle.pattern_unify.specs.Equations.{SchemeEquation, AreSides}
use Rattle.pattern_unify.specs.CommonInstance.{MakesEqual, IsCommonInstance}
use Rattle.pattern_unify.specs.State.{State, names_of, applied_known}
use Rattle.pattern_unify.specs.Measure.{sides, entry_schemes, schemes_of}
use Rattle.pattern_unify.specs.LeftNames.{is_meta_left, is_known_left, is_listed, rank, left_names}
use Rattle.pattern_unify.proofs.Standing.{StandsIn, stands_tested, tested_stands}
use Rattle.pattern_unify.proofs.JoinFalling.{KnownStandsIn}
use Rattle.pattern_unify.proofs.TypedSuits.{IsTyped}
use Rattle.pattern_unify.proofs.LinesKept.{all_schemes, saturated, line_declared}
use Rattle.pattern_unify.proofs.PickedLists.{picked_at, all_picked, metas_left_at, knowns_left_at}
use Rattle.pattern_unify.proofs.Renumbered.{renumbered, renumbered_is, renumbered_typed, left_suits}
use Rattle.pattern_unify.proofs.RunInstances.{Found}

-- a strict occurrence is one
mutual
  strict_occurs : (n : ℕ) (s : SchemeTree) → StrictIn n s → OccursIn n s
  strict_occurs n (meta m vs) h = inl h.0
  strict_occurs n (known k) h = absurd h
  strict_occurs n (local i) h = absurd h
  strict_occurs n (con p xs) h = strict_occurs_parts n xs h

  strict_occurs_parts : (n : ℕ) (xs : Parts) → StrictInParts n xs → OccursInParts n xs
  strict_occurs_parts n no_parts h = absurd h
  strict_occurs_parts n (part b s xs) (inl h) = inl (strict_occurs n s h)
  strict_occurs_parts n (part b s xs) (inr h) = inr (strict_occurs_parts n xs h)

lines_stand : (n : ℕ) (ss : List SchemeTree) → AnyByRecursion (StrictIn n) ss → StandsIn n ss
lines_stand n [] h = absurd h
lines_stand n (s ∷ ss) (inl h) = inl (strict_occurs n s h)
lines_stand n (s ∷ ss) (inr h) = inr (lines_stand n ss h)

-- numbers in a list
or_true : (a b : Bool) → (a ≡ true) ⊎ (b ≡ true) → (a || b) ≡ true
or_true true b h = refl
or_true false b (inl h) = cc
or_true false b (inr h) = h

true_or : (a b : Bool) → (a || b) ≡ true → (a ≡ true) ⊎ (b ≡ true)
true_or true b h = inl refl
true_or false b h = inr h

listed_true : (ks : List ℕ) (k : ℕ) → AnyByRecursion (λ j. j ≡ k) ks → is_listed ks k ≡ true
listed_true [] k h = absurd h
listed_true (j ∷ ks) k (inl h) = or_true (j == k) (is_listed ks k) (inl (let e : (j == k) ≡ true = grind (arith, nat_tests) in e))
listed_true (j ∷ ks) k (inr h) = or_true (j == k) (is_listed ks k) (inr (listed_true ks k h))

pub listed_back : (ks : List ℕ) (k : ℕ) → is_listed ks k ≡ true → AnyByRecursion (λ j. j ≡ k) ks
listed_back [] k h = cc
listed_back (j ∷ ks) k h = elim (true_or (j == k) (is_listed ks k) h) [
  | inl e ↦ inl (let same : j ≡ k = grind (arith, nat_tests) in same)
  | inr later ↦ inr (listed_back ks k later)
]

entry_at : (P : SchemeTree → Type 0) (decls : List KnownVariable) (k : ℕ) (decl : KnownVariable) → slice_get decls k ≡ Some decl → AnyByRecursion P decl.entry.args →
    AnyByRecursion P (entry_schemes decls)
entry_at P [] k decl e h = absurd (let no : ⊥ = cc in no)
entry_at P (d ∷ decls) zero decl e h =
    any_front P d.entry.args (entry_schemes decls) (subst (λ (x : KnownVariable). AnyByRecursion P x.entry.args) (let same : decl ≡ d = cc in same) h)
entry_at P (d ∷ decls) (suc k) decl e h = any_back P d.entry.args (entry_schemes decls) (entry_at P decls k decl e h)

-- a number to which a known variable goes is one of the scope
value_declared : (by : Substitution) (decls : List KnownVariable) (ks : List ℕ) (k : ℕ) → AllZip (IsKnownValue by) decls ks → AnyByRecursion (λ j. j ≡ k) ks →
    (decl : KnownVariable) × (slice_get by.into.knowns k ≡ Some decl)
value_declared by [] [] k h at = absurd at
value_declared by [] (j ∷ ks) k h at = absurd h
value_declared by (d ∷ decls) [] k h at = absurd at
value_declared by (d ∷ decls) (j ∷ ks) k h (inl e) =
    let found = match_some (slice_get by.into.knowns j) (λ o. o.entry ≡ applied_entry by 0 d.entry) h.0 in (found.0, ap (slice_get by.into.knowns) (sym e) ∙ found.1)
value_declared by (d ∷ decls) (j ∷ ks) k h (inr at) = value_declared by decls ks k h.1 at

module _ (sig : Signature) (names : Names) (eqs : List SchemeEquation) (final : State) (fits : KnownsFit sig names) (typed_sides : AllByRecursion (AreSides sig names) eqs)
    (found : Found sig names eqs final) where
  abbrev pub far : Substitution
  far = final.so_far

  abbrev pub scope : Names
  scope = names_of final

  abbrev pub left : Substitution
  left = left_names final

  abbrev pub by : Substitution
  by = composed final.so_far (left_names final)

  abbrev pub IsLeft : ℕ → Type 0
  IsLeft m = is_meta_left final m ≡ true

  abbrev pub IsKnownLeft : ℕ → Type 0
  IsKnownLeft k = is_known_left final k ≡ true

  abbrev pub to_meta : ℕ → ℕ
  to_meta m = rank (is_meta_left final) 0 m

  abbrev pub to_known : ℕ → ℕ
  to_known k = rank (is_known_left final) 0 k

  -- only names that are left stand in the scheme
  abbrev pub OnlyLeft : SchemeTree → Type 0
  OnlyLeft s = ((m : ℕ) → OccursIn m s → IsLeft m) × ((k : ℕ) → KnownIn k s → IsKnownLeft k)

  standing_left : (n : ℕ) → StandsIn n (all_schemes final) → IsLeft n
  standing_left n h = tested_stands n far.metas (lines_stand n far.metas (found.lines.metas n h))

  standing_known_left : (k : ℕ) → KnownStandsIn k (all_schemes final) → IsKnownLeft k
  standing_known_left k h = listed_true far.knowns k (found.lines.knowns k h)

  pub left_line : (n : ℕ) → IsLeft n → AnyByRecursion (StrictIn n) far.metas
  left_line n h = found.lines.metas n (any_front (OccursIn n) far.metas (schemes_of final) (stands_tested n far.metas h))

  pub left_declared : (n : ℕ) → IsLeft n → (decl : MetaDecl) × (slice_get scope.metas n ≡ Some decl)
  left_declared n h = line_declared scope.metas n far.metas (saturated sig names final found.state found.lines) (left_line n h)

  pub known_left_declared : (k : ℕ) → IsKnownLeft k → (decl : KnownVariable) × (slice_get scope.knowns k ≡ Some decl)
  known_left_declared k h = value_declared far names.knowns far.knowns k found.itself.schemes.knowns (listed_back far.knowns k h)

  pub found_only : AllByRecursion OnlyLeft far.metas
  found_only =
      all_from_places OnlyLeft far.metas
      (λ r s e. (
        (λ m o. standing_left m (any_front (OccursIn m) far.metas (schemes_of final) (any_at (OccursIn m) far.metas r s e o))),
        (λ k o. standing_known_left k (any_front (KnownIn k) far.metas (schemes_of final) (any_at (KnownIn k) far.metas r s e o))),
      ))

  pub found_knowns_left : AllByRecursion IsKnownLeft far.knowns
  found_knowns_left = all_from_places IsKnownLeft far.knowns (λ r k e. listed_true far.knowns k (any_at (λ j. j ≡ k) far.knowns r k e refl))

  pub entry_only : (k : ℕ) (decl : KnownVariable) → slice_get scope.knowns k ≡ Some decl → AllByRecursion OnlyLeft decl.entry.args
  entry_only k decl e =
      all_from_places OnlyLeft decl.entry.args
      (λ r s f. (
        (λ m o. standing_left m (any_back (OccursIn m) far.metas (schemes_of final) (any_back (OccursIn m) (sides final.equations) (entry_schemes scope.knowns)
            (entry_at (OccursIn m) scope.knowns k decl e (any_at (OccursIn m) decl.entry.args r s f o))))),
        (λ l o. standing_known_left l (any_back (KnownIn l) far.metas (schemes_of final) (any_back (KnownIn l) (sides final.equations) (entry_schemes scope.knowns)
            (entry_at (KnownIn l) scope.knowns k decl e (any_at (KnownIn l) decl.entry.args r s f o))))),
      ))

  -- what is put in for the names
  pub put : (m : ℕ) (decl : MetaDecl) → slice_get scope.metas m ≡ Some decl → IsLeft m → slice_get left.metas m ≡ Some (meta (to_meta m) (values (parameters (params decl))))
  put m decl e h = metas_left_at (is_meta_left final) scope.metas m decl e h

  pub put_known : (k : ℕ) → IsKnownLeft k → slice_get left.knowns k ≡ Some (to_known k)
  put_known k h = let decl = known_left_declared k h in knowns_left_at (is_known_left final) scope.knowns k decl.0 decl.1

  there : (m : ℕ) (decl : MetaDecl) → slice_get scope.metas m ≡ Some decl → IsLeft m → slice_get left.into.metas (to_meta m) ≡ Some decl
  there m decl e h = picked_at (is_meta_left final) scope.metas m decl e h

  pub known_at : (k : ℕ) (decl : KnownVariable) → slice_get scope.knowns k ≡ Some decl → IsKnownLeft k →
      slice_get left.into.knowns (to_known k) ≡ Some (applied_known left.metas left.knowns decl)
  known_at k decl e h =
      picked_at (is_known_left final) (map (applied_known left.metas left.knowns) scope.knowns) k (applied_known left.metas left.knowns decl)
      (slice_get-map (applied_known left.metas left.knowns) scope.knowns k ∙ ap (option_map (applied_known left.metas left.knowns)) e) h

  known_there : (k : ℕ) (decl : KnownVariable) → slice_get scope.knowns k ≡ Some decl → IsKnownLeft k →
      MatchOption (slice_get left.into.knowns (to_known k)) ⊥ (λ other. other.entry.prod ≡ decl.entry.prod)
  known_there k decl e h =
      match_from (slice_get left.into.knowns (to_known k)) (λ other. other.entry.prod ≡ decl.entry.prod) (applied_known left.metas left.knowns decl) (known_at k decl e h) refl

  pub is_renumbered : (d : ℕ) (s : SchemeTree) → IsSaturated scope.metas s → OnlyLeft s → applied left.metas left.knowns d s ≡ renumbered to_meta to_known s
  is_renumbered d s sat only = renumbered_is to_meta to_known IsLeft IsKnownLeft scope left.metas left.knowns put put_known d s sat only.0 only.1

  pub left_typed : (ls : List ℕ) (c d : ℕ) (s : SchemeTree) → IsScheme sig scope ls c s → OnlyLeft s → IsScheme sig left.into ls c (applied left.metas left.knowns d s)
  left_typed ls c d s is only =
      subst (IsScheme sig left.into ls c) (sym (is_renumbered d s (scheme_saturated sig scope ls c s is) only))
      (renumbered_typed to_meta to_known IsLeft IsKnownLeft sig scope left.into there known_there ls c s is only.0 only.1)

  all_suit : (ss : List SchemeTree) → AllByRecursion (IsSaturated scope.metas) ss → AllByRecursion OnlyLeft ss → AllByRecursion (Suits left.metas left.knowns) ss
  all_suit [] sat only = tt
  all_suit (s ∷ ss) sat only =
      (left_suits to_meta to_known IsLeft IsKnownLeft scope left.metas left.knowns put put_known s sat.0 only.0.0 only.0.1, all_suit ss sat.1 only.1)

  pub twice : (d : ℕ) (ls : List ℕ) (c : ℕ) (s : SchemeTree) → IsScheme sig names ls c s →
      applied left.metas left.knowns d (applied far.metas far.knowns d s) ≡ applied by.metas by.knowns d s
  twice d ls c s is =
      applied_twice far left (all_suit far.metas (saturated sig names final found.state found.lines) found_only) d s
      (scheme_suits sig names far found.itself.schemes ls c s is)

  by_metas : (decls : List MetaDecl) (ss : List SchemeTree) → AllZip (IsTyped sig scope) decls ss → AllByRecursion OnlyLeft ss →
      AllZip (IsTyped sig left.into) decls (map (applied left.metas left.knowns 0) ss)
  by_metas [] [] h only = tt
  by_metas [] (s ∷ ss) h only = absurd h
  by_metas (d ∷ decls) [] h only = absurd h
  by_metas (d ∷ decls) (s ∷ ss) h only = (left_typed (params_scope d) d.cat.0 0 s h.0 only.0, by_metas decls ss h.1 only.1)

  entry_twice : (e other : SchemeEntry) → IsKnownEntry sig names names.root e → other ≡ applied_entry far 0 e → entry_with other.prod (map (applied left.metas left.knowns 0) other.args) ≡ applied_entry by 0 e
  entry_twice e other is same =
      ap (λ x. entry_with x.prod (map (applied left.metas left.knowns 0) x.args)) same
      ∙ ap (entry_with e.prod)
      (each_map (applied far.metas far.knowns 0) (applied left.metas left.knowns 0) e.args
      ∙ same_arguments sig names (λ s. applied left.metas left.knowns 0 (applied far.metas far.knowns 0 s)) (applied by.metas by.knowns 0) (λ c s h. twice 0 [] c s h) e is)

  by_knowns : (decls : List KnownVariable) (ks : List ℕ) → AllByRecursion (λ d. IsKnownEntry sig names names.root d.entry) decls → AllZip (IsKnownValue far) decls ks →
      AllByRecursion IsKnownLeft ks → AllZip (IsKnownValue by) decls (map (known_for left.knowns) ks)
  by_knowns [] [] is h only = tt
  by_knowns [] (k ∷ ks) is h only = absurd h
  by_knowns (d ∷ decls) [] is h only = absurd h
  by_knowns (d ∷ decls) (k ∷ ks) is h only =
      let other = match_some (slice_get scope.knowns k) (λ o. o.entry ≡ applied_entry far 0 d.entry) h.0 in
      let number : known_for left.knowns k ≡ to_known k = ap (λ o. unwrap_or o k) (put_known k only.0) in (
        match_from (slice_get left.into.knowns (known_for left.knowns k)) (λ o. o.entry ≡ applied_entry by 0 d.entry) (applied_known left.metas left.knowns other.0)
            (ap (slice_get left.into.knowns) number ∙ known_at k other.0 other.1 only.0) (entry_twice d.entry other.0.entry is.0 other.2),
        by_knowns decls ks is.1 h.1 only.1,
      )

  by_equal : (es : List SchemeEquation) → AllByRecursion (AreSides sig names) es → AllByRecursion (MakesEqual far.metas far.knowns) es → AllByRecursion (MakesEqual by.metas by.knowns) es
  by_equal [] is h = tt
  by_equal (e ∷ es) is h = (
    sym (twice (length e.locals) e.locals is.0.0 e.left is.0.1) ∙ ap (applied left.metas left.knowns (length e.locals)) h.0
        ∙ twice (length e.locals) e.locals is.0.0 e.right is.0.2,
    by_equal es is.1 h.1,
  )

  left_arguments : (places : List Place) (ss : List SchemeTree) → AreSchemes sig scope [] places ss → AllByRecursion OnlyLeft ss →
      AreSchemes sig left.into [] places (map (applied left.metas left.knowns 0) ss)
  left_arguments [] [] h only = tt
  left_arguments [] (s ∷ ss) h only = absurd h
  left_arguments (at ∷ places) [] h only = absurd h
  left_arguments (at ∷ places) (s ∷ ss) h only = (left_typed [] at.cat 0 s h.0 only.0, left_arguments places ss h.1 only.1)

  left_entry : (root : Root) (e : SchemeEntry) → IsKnownEntry sig scope root e → AllByRecursion OnlyLeft e.args →
      IsKnownEntry sig left.into root (entry_with e.prod (map (applied left.metas left.knowns 0) e.args))
  left_entry Closed e h only = absurd h
  left_entry (Empty c) e h only = absurd h
  left_entry (Whole c) e h only =
      match_map (slice_get sig.prods e.prod) (λ prod. (prod.cat.0 ≡ c.0) × (binders prod.items ≢ []) × AreSchemes sig scope [] (drop 1 (slots prod.items)) e.args)
      (λ prod. (prod.cat.0 ≡ c.0) × (binders prod.items ≢ []) × AreSchemes sig left.into [] (drop 1 (slots prod.items)) (map (applied left.metas left.knowns 0) e.args))
      (λ (prod : Prod) g. (g.0, g.1, left_arguments (drop 1 (slots prod.items)) e.args g.2 only)) h

  left_fits : KnownsFit sig left.into
  left_fits = all_picked (is_known_left final) (λ d. IsKnownEntry sig left.into scope.root d.entry) (map (applied_known left.metas left.knowns) scope.knowns) each
    where
      each : (k : ℕ) (x : KnownVariable) → slice_get (map (applied_known left.metas left.knowns) scope.knowns) k ≡ Some x → IsKnownLeft k → IsKnownEntry sig left.into scope.root x.entry
      each k x e h =
          let decl = known_left_declared k h in
          let same : Some (applied_known left.metas left.knowns decl.0) ≡ Some x =
          sym (slice_get-map (applied_known left.metas left.knowns) scope.knowns k ∙ ap (option_map (applied_known left.metas left.knowns)) decl.1) ∙ e in
          subst (λ (d : KnownVariable). IsKnownEntry sig left.into scope.root d.entry) (let one : applied_known left.metas left.knowns decl.0 ≡ x = cc in one)
          (left_entry scope.root decl.0.entry (all_at (λ d. IsKnownEntry sig scope scope.root d.entry) scope.knowns k decl.0 found.state.knowns decl.1) (entry_only k decl.0 decl.1))

  pub left_is_common : IsCommonInstance sig names eqs by
  left_is_common = record {
    scope = left_fits;
    schemes = record {
      metas = by_metas names.metas far.metas found.itself.schemes.metas found_only;
      knowns = by_knowns names.knowns far.knowns fits found.itself.schemes.knowns found_knowns_left;
    };
    equal = by_equal eqs typed_sides found.itself.equal;
  }
