-- Schemes put in by a step of a run keep the categories: what is asked is less than of a substitution, since entries of known variables may differ.
use Rattle.std.proofs.Common.{◌≡◌, ◌≢◌, ℕ, zero, suc, ◌+◌, Bool, true, false, ◌==◌, if◌then◌else◌, List, [], ◌∷◌, ◌++◌, length, map, drop, Some, MatchOption, slice_get, refl, ap, sym, ◌∙◌, subst, arith}
use Rattle.std.specs.List.{AllByRecursion, AllZip}
use Rattle.std.proofs.lemmas.Bool.Decides.{nat_tests}
use Rattle.std.proofs.lemmas.Option.{slice_get_within}
use Rattle.binding_terms.specs.Signature.{Signature, Place, slots, binders}
use Rattle.binding_terms.specs.Scope.{bound}
use Rattle.binding_terms.specs.declared.grammar.Prod.{Prod}
use Rattle.binding_terms.proofs.Lists.{append_within, match_from, match_map, match_some, zip_map}
use Rattle.scheme_terms.specs.SchemeTree.{SchemeTree, meta, known, local, con, Values, no_values, value, Parts, no_parts, part, values}
use Rattle.scheme_terms.specs.Forms.{Names, Substitution, SchemeEntry, KnownVariable}
use Rattle.scheme_terms.specs.Context.{variables}
use Rattle.scheme_terms.specs.SchemeScope.{IsScheme, AreValues, AreSchemeParts, AreSchemes, IsKnownEntry, KnownsFit, params_scope}
use Rattle.scheme_terms.specs.Substituting.{applied, params, parameters, metas_from, knowns_from, Suits, applied_entry, IsKnownValue, IsSubstitution}
use Rattle.scheme_terms.specs.declared.scheme.MetaDecl.{MetaDecl}
use Rattle.scheme_terms.specs.declared.scheme.Root.{Root}
use Rattle.scheme_terms.specs.declared.scheme.Root.TheVariants.{Closed, Empty, Whole}
use Rattle.scheme_terms.proofs.SchemeFacts.{scheme_suits}
use Rattle.scheme_terms.proofs.SchemeScopes.{applied_scheme}
use Rattle.scheme_terms.proofs.AppliedSchemes.{applied_anywhere}
use Rattle.scheme_terms.proofs.Compositions.{entry_with}
use Rattle.scheme_terms.proofs.Identities.{identity_is_substitution}
use Rattle.pattern_unify.specs.Equations.{SchemeEquation, AreSides}
use Rattle.pattern_unify.specs.State.{Step, State, names_of, names_after, substitution_of, after_step, applied_equation, applied_known, metas_but, knowns_but}
use Rattle.pattern_unify.specs.Laws.{IsState}

-- facts of options and of lists

pub mapped_at : {A B : Type 0} (f : A → B) (xs : List A) (k : ℕ) (P : B → Type 0) → MatchOption (slice_get xs k) ⊥ (λ a. P (f a)) → MatchOption (slice_get (map f xs) k) ⊥ P
mapped_at f [] k P h = absurd h
mapped_at f (x ∷ xs) zero P h = h
mapped_at f (x ∷ xs) (suc k) P h = mapped_at f xs k P h

pub mapped_back : {A B : Type 0} (f : A → B) (xs : List A) (k : ℕ) (P : B → Type 0) → MatchOption (slice_get (map f xs) k) ⊥ P → MatchOption (slice_get xs k) ⊥ (λ a. P (f a))
mapped_back f [] k P h = absurd h
mapped_back f (x ∷ xs) zero P h = h
mapped_back f (x ∷ xs) (suc k) P h = mapped_back f xs k P h

-- a scope that has the names of another, each known variable with a variable of the same categories
record HasNames (sig : Signature) (from to : Names) : Type 0 where
  metas : (m : ℕ) (decl : MetaDecl) → slice_get from.metas m ≡ Some decl → slice_get to.metas m ≡ Some decl
  knowns : (k c : ℕ) → IsScheme sig from [] c (known k) → IsScheme sig to [] c (known k)

module _ (sig : Signature) (from to : Names) (has : HasNames sig from to) where
  mutual
    in_other : (ls : List ℕ) (c : ℕ) (s : SchemeTree) → IsScheme sig from ls c s → IsScheme sig to ls c s
    in_other ls c (meta m vs) h =
        let found = match_some (slice_get from.metas m) (λ decl. (decl.cat.0 ≡ c) × AreValues sig from ls (map (λ p. p.0) decl.params) vs) h in
        match_from (slice_get to.metas m) (λ decl. (decl.cat.0 ≡ c) × AreValues sig to ls (map (λ p. p.0) decl.params) vs)
        found.0 (has.metas m found.0 found.1) (found.2.0, values_in_other ls (map (λ p. p.0) found.0.params) vs found.2.1)
    in_other ls c (known k) h = has.knowns k c h
    in_other ls c (local i) h = h
    in_other ls c (con p xs) h =
        match_map (slice_get sig.prods p) (λ prod. (prod.cat.0 ≡ c) × AreSchemeParts sig from ls (binders prod.items) (slots prod.items) xs)
        (λ prod. (prod.cat.0 ≡ c) × AreSchemeParts sig to ls (binders prod.items) (slots prod.items) xs)
        (λ (prod : Prod) g. (g.0, parts_in_other ls (binders prod.items) (slots prod.items) xs g.1)) h

    values_in_other : (ls cs : List ℕ) (vs : Values) → AreValues sig from ls cs vs → AreValues sig to ls cs vs
    values_in_other ls [] no_values h = tt
    values_in_other ls [] (value s vs) h = h
    values_in_other ls (c ∷ cs) no_values h = h
    values_in_other ls (c ∷ cs) (value s vs) h = (in_other ls c s h.0, values_in_other ls cs vs h.1)

    parts_in_other : (ls bs : List ℕ) (ss : List Place) (xs : Parts) → AreSchemeParts sig from ls bs ss xs → AreSchemeParts sig to ls bs ss xs
    parts_in_other ls bs [] no_parts h = tt
    parts_in_other ls bs [] (part n s xs) h = h
    parts_in_other ls bs (at ∷ ss) no_parts h = h
    parts_in_other ls bs (at ∷ ss) (part n s xs) h = (h.0, in_other (bound bs at.binds ++ ls) at.cat s h.1, parts_in_other ls bs ss xs h.2)

-- a scope with the entries' arguments left out: its schemes are the same

abbrev bare_known : KnownVariable → KnownVariable
bare_known decl = record { name = decl.name; entry = entry_with decl.entry.prod [] }

abbrev bare : Names → Names
bare names = record { root = names.root; metas = names.metas; knowns = map bare_known names.knowns }

abbrev bare_by : Substitution → Substitution
bare_by by = record { metas = by.metas; knowns = by.knowns; into = bare by.into }

to_bare : (sig : Signature) (names : Names) → HasNames sig names (bare names)
to_bare sig names = record {
  metas = λ m decl e. e;
  knowns = λ k c h. mapped_at bare_known names.knowns k (λ decl. variables sig decl.entry.prod ≡ c ∷ []) h;
}

from_bare : (sig : Signature) (names : Names) → HasNames sig (bare names) names
from_bare sig names = record {
  metas = λ m decl e. e;
  knowns = λ k c h. mapped_back bare_known names.knowns k (λ decl. variables sig decl.entry.prod ≡ c ∷ []) h;
}

-- the known variable goes to one whose entry is of the same production
abbrev pub HasProduction : Names → KnownVariable → ℕ → Type 0
HasProduction into decl k = MatchOption (slice_get into.knowns k) ⊥ (λ other. other.entry.prod ≡ decl.entry.prod)

-- what is put in for the names is of their categories
pub record KeepsCategories (sig : Signature) (names : Names) (by : Substitution) : Type 0 where
  pub metas : AllZip (λ decl s. IsScheme sig by.into (params_scope decl) decl.cat.0 s) names.metas by.metas
  pub knowns : AllZip (HasProduction by.into) names.knowns by.knowns

bare_values : (by : Substitution) (decls : List KnownVariable) (ks : List ℕ) → AllZip (HasProduction by.into) decls ks →
    AllZip (IsKnownValue (bare_by by)) (map bare_known decls) ks
bare_values by [] [] h = tt
bare_values by [] (k ∷ ks) h = absurd h
bare_values by (decl ∷ decls) [] h = absurd h
bare_values by (decl ∷ decls) (k ∷ ks) h = (
  mapped_at bare_known by.into.knowns k (λ other. other.entry ≡ applied_entry (bare_by by) 0 (bare_known decl).entry)
      (match_map (slice_get by.into.knowns k) (λ other. other.entry.prod ≡ decl.entry.prod)
      (λ other. (bare_known other).entry ≡ applied_entry (bare_by by) 0 (bare_known decl).entry)
      (λ (other : KnownVariable) e. ap (λ p. entry_with p []) e) h.0),
  bare_values by decls ks h.1,
)

module _ (sig : Signature) (names : Names) (by : Substitution) (keeps : KeepsCategories sig names by) where
  bare_is : IsSubstitution sig (bare names) (bare_by by)
  bare_is = record {
    metas = zip_map (λ decl s. IsScheme sig by.into (params_scope decl) decl.cat.0 s) (λ decl s. IsScheme sig (bare by.into) (params_scope decl) decl.cat.0 s)
        (λ (decl : MetaDecl) s h. in_other sig by.into (bare by.into) (to_bare sig by.into) (params_scope decl) decl.cat.0 s h) names.metas by.metas keeps.metas;
    knowns = bare_values by names.knowns by.knowns keeps.knowns;
  }

  pub kept_scheme : (ls : List ℕ) (c : ℕ) (s : SchemeTree) → IsScheme sig names ls c s → IsScheme sig by.into ls c (applied by.metas by.knowns (length ls) s)
  kept_scheme ls c s h =
      in_other sig (bare by.into) by.into (from_bare sig by.into) ls c (applied by.metas by.knowns (length ls) s)
      (applied_scheme sig (bare names) (bare_by by) bare_is ls c s (in_other sig names (bare names) (to_bare sig names) ls c s h))

  -- a value, which stands under parameters alone
  kept_value : (ls : List ℕ) (c : ℕ) (s : SchemeTree) → IsScheme sig names ls c s → IsScheme sig by.into ls c (applied by.metas by.knowns 0 s)
  kept_value ls c s h =
      let suits : Suits by.metas by.knowns s = scheme_suits sig (bare names) (bare_by by) bare_is ls c s (in_other sig names (bare names) (to_bare sig names) ls c s h) in
      subst (IsScheme sig by.into ls c) (applied_anywhere by.metas by.knowns (length ls) 0 s suits) (kept_scheme ls c s h)

  pub kept_values : (decls : List MetaDecl) (ss : List SchemeTree) → AllZip (λ decl s. IsScheme sig names (params_scope decl) decl.cat.0 s) decls ss →
      AllZip (λ decl s. IsScheme sig by.into (params_scope decl) decl.cat.0 s) decls (map (applied by.metas by.knowns 0) ss)
  kept_values [] [] h = tt
  kept_values [] (s ∷ ss) h = absurd h
  kept_values (decl ∷ decls) [] h = absurd h
  kept_values (decl ∷ decls) (s ∷ ss) h = (kept_value (params_scope decl) decl.cat.0 s h.0, kept_values decls ss h.1)

  pub kept_sides : (es : List SchemeEquation) → AllByRecursion (AreSides sig names) es → AllByRecursion (AreSides sig by.into) (map (applied_equation by.metas by.knowns) es)
  kept_sides [] h = tt
  kept_sides (e ∷ es) h = ((h.0.0, kept_scheme e.locals h.0.0 e.left h.0.1, kept_scheme e.locals h.0.0 e.right h.0.2), kept_sides es h.1)

  kept_schemes : (places : List Place) (ss : List SchemeTree) → AreSchemes sig names [] places ss → AreSchemes sig by.into [] places (map (applied by.metas by.knowns 0) ss)
  kept_schemes [] [] h = tt
  kept_schemes [] (s ∷ ss) h = h
  kept_schemes (at ∷ places) [] h = h
  kept_schemes (at ∷ places) (s ∷ ss) h = (kept_scheme [] at.cat s h.0, kept_schemes places ss h.1)

  kept_entry : (root : Root) (e : SchemeEntry) → IsKnownEntry sig names root e → IsKnownEntry sig by.into root (entry_with e.prod (map (applied by.metas by.knowns 0) e.args))
  kept_entry Closed e h = absurd h
  kept_entry (Empty c) e h = absurd h
  kept_entry (Whole c) e h =
      match_map (slice_get sig.prods e.prod) (λ prod. (prod.cat.0 ≡ c.0) × (binders prod.items ≢ []) × AreSchemes sig names [] (drop 1 (slots prod.items)) e.args)
      (λ prod. (prod.cat.0 ≡ c.0) × (binders prod.items ≢ []) × AreSchemes sig by.into [] (drop 1 (slots prod.items)) (map (applied by.metas by.knowns 0) e.args))
      (λ (prod : Prod) g. (g.0, g.1, kept_schemes (drop 1 (slots prod.items)) e.args g.2)) h

  pub kept_knowns : (root : Root) (decls : List KnownVariable) → AllByRecursion (λ decl. IsKnownEntry sig names root decl.entry) decls →
      AllByRecursion (λ decl. IsKnownEntry sig by.into root decl.entry) (map (applied_known by.metas by.knowns) decls)
  kept_knowns root [] h = tt
  kept_knowns root (decl ∷ decls) h = (kept_entry root decl.entry h.0, kept_knowns root decls h.1)

-- a step whose schemes are of the names' categories keeps what a state is
pub step_keeps : (sig : Signature) (names : Names) (step : Step) (st : State) → KeepsCategories sig (names_of st) (substitution_of (names_of st) step) →
    IsState sig names st → IsState sig names (after_step step st)
step_keeps sig names step st keeps state = record {
  root = state.root;
  knowns = kept_knowns sig (names_of st) (substitution_of (names_of st) step) keeps (names_of st).root (names_of st).knowns state.knowns;
  sides = kept_sides sig (names_of st) (substitution_of (names_of st) step) keeps st.equations state.sides;
  values = kept_values sig (names_of st) (substitution_of (names_of st) step) keeps names.metas st.so_far.metas state.values;
}

-- what a step puts in: names for themselves, but one

abbrev IsTyped : Signature → Names → MetaDecl → SchemeTree → Type 0
IsTyped sig into decl s = IsScheme sig into (params_scope decl) decl.cat.0 s

metas_from_but : (R : MetaDecl → SchemeTree → Type 0) (m : ℕ) (s : SchemeTree) (n : ℕ) (decls : List MetaDecl) → AllZip R decls (metas_from n decls) →
    ((k : ℕ) (decl : MetaDecl) → slice_get decls k ≡ Some decl → n + k ≡ m → R decl s) → AllZip R decls (metas_but m s n decls)
metas_from_but R m s n [] h here = tt
metas_from_but R m s n (decl ∷ decls) h here = (
  at (n == m) refl,
  metas_from_but R m s (suc n) decls h.1 (λ k d e same. here (suc k) d e (let x : n + suc k ≡ m = omega (arith, same) in x)),
)
  where
    at : (b : Bool) → (n == m) ≡ b → R decl (if b then s else meta n (values (parameters (params decl))))
    at true e = here 0 decl refl (let x : n + 0 ≡ m = grind (arith, nat_tests) in x)
    at false e = h.0

itself_at : (R : MetaDecl → SchemeTree → Type 0) (n : ℕ) (decls : List MetaDecl) (k : ℕ) (decl : MetaDecl) → AllZip R decls (metas_from n decls) →
    slice_get decls k ≡ Some decl → R decl (meta (n + k) (values (parameters (params decl))))
itself_at R n [] k decl h e = absurd (let no : ⊥ = cc in no)
itself_at R n (d ∷ decls) zero decl h e =
    subst (λ x. R decl (meta x (values (parameters (params decl))))) (let z : n ≡ n + 0 = omega arith in z)
    (subst (λ x. R x (meta n (values (parameters (params x))))) (let same : d ≡ decl = cc in same) h.0)
itself_at R n (d ∷ decls) (suc k) decl h e =
    subst (λ x. R decl (meta x (values (parameters (params decl))))) (let z : suc n + k ≡ n + suc k = omega arith in z) (itself_at R (suc n) decls k decl h.1 e)

knowns_from_but : (R : KnownVariable → ℕ → Type 0) (gone kept n : ℕ) (decls : List KnownVariable) → AllZip R decls (knowns_from n decls) →
    ((k : ℕ) (decl : KnownVariable) → slice_get decls k ≡ Some decl → n + k ≡ gone → R decl kept) → AllZip R decls (knowns_but gone kept n decls)
knowns_from_but R gone kept n [] h here = tt
knowns_from_but R gone kept n (decl ∷ decls) h here = (
  at (n == gone) refl,
  knowns_from_but R gone kept (suc n) decls h.1 (λ k d e same. here (suc k) d e (let x : n + suc k ≡ gone = omega (arith, same) in x)),
)
  where
    at : (b : Bool) → (n == gone) ≡ b → R decl (if b then kept else n)
    at true e = here 0 decl refl (let x : n + 0 ≡ gone = grind (arith, nat_tests) in x)
    at false e = h.0

known_itself : (R : KnownVariable → ℕ → Type 0) (n : ℕ) (decls : List KnownVariable) → ((k : ℕ) (decl : KnownVariable) → slice_get decls k ≡ Some decl → R decl (n + k)) →
    AllZip R decls (knowns_from n decls)
known_itself R n [] h = tt
known_itself R n (decl ∷ decls) h = (
  subst (R decl) (let z : n + 0 ≡ n = omega arith in z) (h 0 decl refl),
  known_itself R (suc n) decls (λ k d e. subst (R d) (let z : n + suc k ≡ suc n + k = omega arith in z) (h (suc k) d e)),
)

module _ (sig : Signature) (names : Names) (step : Step) where
  -- the names stand after the step, each with its number
  after_has : HasNames sig names (names_after names step)
  after_has = record {
    metas = λ m decl e. append_within names.metas step.made m (slice_get_within names.metas m decl e) ∙ e;
    knowns = λ k c h. mapped_at (applied_known step.metas step.knowns) names.knowns k (λ decl. variables sig decl.entry.prod ≡ c ∷ []) h;
  }

  pub after_scheme : (ls : List ℕ) (c : ℕ) (s : SchemeTree) → IsScheme sig names ls c s → IsScheme sig (names_after names step) ls c s
  after_scheme = in_other sig names (names_after names step) after_has

  pub after_production : (k : ℕ) (decl other : KnownVariable) → slice_get names.knowns k ≡ Some other → other.entry.prod ≡ decl.entry.prod →
      HasProduction (names_after names step) decl k
  after_production k decl other e same =
      mapped_at (applied_known step.metas step.knowns) names.knowns k (λ o. o.entry.prod ≡ decl.entry.prod)
      (match_from (slice_get names.knowns k) (λ o. o.entry.prod ≡ decl.entry.prod) other e same)

  metas_themselves : KnownsFit sig names → AllZip (IsTyped sig (names_after names step)) names.metas (metas_from 0 names.metas)
  metas_themselves fits =
      zip_map (IsTyped sig names) (IsTyped sig (names_after names step))
      (λ (decl : MetaDecl) s h. after_scheme (params_scope decl) decl.cat.0 s h) names.metas (metas_from 0 names.metas) (identity_is_substitution sig names fits).metas

  knowns_themselves : AllZip (HasProduction (names_after names step)) names.knowns (knowns_from 0 names.knowns)
  knowns_themselves =
      known_itself (HasProduction (names_after names step)) 0 names.knowns
      (λ k decl e. subst (HasProduction (names_after names step) decl) (let z : k ≡ 0 + k = omega arith in z) (after_production k decl decl e refl))

  -- one metavariable becomes a scheme of its category
  pub one_meta_keeps : KnownsFit sig names → (m : ℕ) (s : SchemeTree) (decl : MetaDecl) → slice_get names.metas m ≡ Some decl →
      IsScheme sig (names_after names step) (params_scope decl) decl.cat.0 s → step.metas ≡ metas_but m s 0 names.metas → step.knowns ≡ knowns_from 0 names.knowns →
      KeepsCategories sig names (substitution_of names step)
  one_meta_keeps fits m s decl e typed metas knowns = record {
    metas = subst (AllZip (IsTyped sig (names_after names step)) names.metas) (sym metas)
        (metas_from_but (IsTyped sig (names_after names step)) m s 0 names.metas (metas_themselves fits)
        (λ k d found same. subst (λ x. IsTyped sig (names_after names step) x s)
        (let here : Some decl ≡ Some d = sym e ∙ ap (slice_get names.metas) (let z : m ≡ k = omega (arith, same) in z) ∙ found in let one : decl ≡ d = cc in one) typed));
    knowns = subst (AllZip (HasProduction (names_after names step)) names.knowns) (sym knowns) knowns_themselves;
  }

  -- one known variable becomes another, whose entry is of the same production
  pub one_known_keeps : KnownsFit sig names → (gone kept : ℕ) (decl other : KnownVariable) → slice_get names.knowns gone ≡ Some decl →
      slice_get names.knowns kept ≡ Some other → other.entry.prod ≡ decl.entry.prod → step.metas ≡ metas_from 0 names.metas →
      step.knowns ≡ knowns_but gone kept 0 names.knowns → KeepsCategories sig names (substitution_of names step)
  one_known_keeps fits gone kept decl other e f same metas knowns = record {
    metas = subst (AllZip (IsTyped sig (names_after names step)) names.metas) (sym metas) (metas_themselves fits);
    knowns = subst (AllZip (HasProduction (names_after names step)) names.knowns) (sym knowns)
        (knowns_from_but (HasProduction (names_after names step)) gone kept 0 names.knowns knowns_themselves
        (λ k d found at. after_production kept d other f
        (let here : Some decl ≡ Some d = sym e ∙ ap (slice_get names.knowns) (let z : gone ≡ k = omega (arith, at) in z) ∙ found in
        let one : decl ≡ d = cc in same ∙ ap (λ o. o.entry.prod) one)));
  }

  -- the parameters of a metavariable on its own parameters
  pub own_values : KnownsFit sig names → (m : ℕ) (decl : MetaDecl) → slice_get names.metas m ≡ Some decl →
      IsScheme sig (names_after names step) (params_scope decl) decl.cat.0 (meta m (values (parameters (params decl))))
  own_values fits m decl e =
      subst (λ x. IsScheme sig (names_after names step) (params_scope decl) decl.cat.0 (meta x (values (parameters (params decl))))) (let z : 0 + m ≡ m = omega arith in z)
      (itself_at (IsTyped sig (names_after names step)) 0 names.metas m decl (metas_themselves fits) e)
