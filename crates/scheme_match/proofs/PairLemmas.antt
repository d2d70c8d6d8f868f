-- What a pair asks of metavariables, where it becomes equal.
use Rattle.std.proofs.Common.{◌≡◌, ℕ, ◌+◌, List, [], ◌∷◌, ◌++◌, length, map, drop, Some, None, slice_get, inl, inr, refl, ap, ◌∙◌, sym, subst, arith}
use Rattle.std.specs.List.{AllByRecursion}
use Rattle.std.proofs.lemmas.List.{drop_at}
use Rattle.std.proofs.lemmas.Option.{same_Some}
use Rattle.binding_terms.specs.Numbered.{AnyByRecursion}
use Rattle.binding_terms.specs.Signature.{Signature, Place, Fits}
use Rattle.binding_terms.specs.Tree.{Tree}
use Rattle.binding_terms.specs.Scope.{IsTerm}
use Rattle.scheme_terms.specs.SchemeTree.{SchemeTree}
use Rattle.scheme_terms.specs.Forms.{Names, SchemeEntry, ContextValue, Instance}
use Rattle.scheme_terms.specs.Context.{IsValue, AreEntries, AreArguments, scope_after, scope_of}
use Rattle.scheme_terms.specs.Instance.{instance_of, root_entries, entries_instance, root_cat, value_of}
use Rattle.scheme_terms.specs.SchemeScope.{AreSchemes, IsRoot, AreSchemeEntries, AreExplicitEntries, entry_variables, params_scope}
use Rattle.scheme_terms.specs.Substituting.{LocalsBelow}
use Rattle.scheme_terms.specs.Embedding.{embedded}
use Rattle.scheme_terms.specs.declared.scheme.MetaDecl.{MetaDecl}
use Rattle.scheme_terms.specs.declared.scheme.Root.{Root}
use Rattle.scheme_terms.specs.declared.scheme.Root.TheVariants.{Closed, Empty, Whole}
use Rattle.scheme_terms.proofs.Makings.{instance_making, demand_is_value, strict_demands}
use Rattle.scheme_terms.proofs.SchemeFacts.{scheme_below}
use Rattle.rule_schemes.specs.Rules.{JudgmentScheme, JudgmentValue, judgment_instance, AreClosed}
use Rattle.scheme_match.specs.Matching.{Matched, judgments, terms, JudgmentsFit, PairFits, MakesEqual, StrictInPair}
use Rattle.scheme_match.specs.Demands.{entries_over, PairDemands, PairsDemand, Becomes}
use Rattle.scheme_match.proofs.Contexts.{over_root}
use Rattle.scheme_match.proofs.Entries.{AddOne, add_one, entries_behind, scope_append, entries_strict, entries_value, entries_long, entries_scope, entries_typed}
use Rattle.scheme_match.proofs.Lists.{schemes_below, list_value, list_strict, list_typed, one_typed}
use Rattle.scheme_match.proofs.Scopes.{closed_arguments}

-- the entries of a value of a category
of_category : (sig : Signature) (own : Root) (v : ContextValue) (c : ℕ) → IsValue sig own v → Some c ≡ v.cat → AreEntries sig c [] v.entries
of_category sig Closed v c is e = absurd (let no : Some c ≡ None = e ∙ is.0 in cc)
of_category sig (Empty d) v c is e = subst (AreEntries sig c []) (sym is.1) tt
of_category sig (Whole d) v c is e = subst (λ k. AreEntries sig k [] v.entries) (let same : d.0 ≡ c = same_Some d.0 c (sym is.0 ∙ sym e) in same) is.1

-- what is known of a context that becomes a value: its explicit entries are of a category, in the scope that the root's entries leave
record Explicit (sig : Signature) (names : Names) (inst : Instance) (form : Root) (es : List SchemeEntry) : Type 0 where
  cat : ℕ
  one : AddOne sig es
  schemes : AreSchemeEntries sig names [] cat es
  entries : AreEntries sig cat (scope_after sig [] (root_entries inst form)) (entries_instance inst 0 es)

explicit : (sig : Signature) (names : Names) (inst : Instance) (form own : Root) (es : List SchemeEntry) (v : ContextValue) → Fits sig → IsRoot sig form →
    AreExplicitEntries sig names form es → IsValue sig own v → root_cat form ≡ v.cat → root_entries inst form ++ entries_instance inst 0 es ≡ v.entries → Explicit sig names inst form es
explicit sig names inst Closed own es v fits is none value cat e =
    record { cat = 0; one = subst (AddOne sig) (sym none) tt; schemes = subst (AreSchemeEntries sig names [] 0) (sym none) tt; entries = subst (λ xs. AreEntries sig 0 [] (entries_instance inst 0 xs)) (sym none) tt }
explicit sig names inst (Empty c) own es v fits is schemes value cat e =
    let entries = subst (AreEntries sig c.0 []) (sym e) (of_category sig own v c.0 value cat) in
    record { cat = c.0; one = add_one sig fits c.0 is inst [] 0 es entries; schemes = schemes; entries = entries }
explicit sig names inst (Whole c) own es v fits is schemes value cat e =
    let entries = entries_behind sig c.0 [] inst.root.entries (entries_instance inst 0 es) (subst (AreEntries sig c.0 []) (sym e) (of_category sig own v c.0 value cat)) in
    record { cat = c.0; one = add_one sig fits c.0 is inst (scope_after sig [] inst.root.entries) 0 es entries; schemes = schemes; entries = entries }

-- the scope of the root's entries over which a form stands is that of the root, or empty
within_root : (sig : Signature) (inst : Instance) (form : Root) (i c : ℕ) → slice_get (scope_after sig [] (root_entries inst form)) i ≡ Some c → slice_get (scope_of sig inst.root) i ≡ Some c
within_root sig inst Closed i c e = absurd (let no : ⊥ = cc in no)
within_root sig inst (Empty d) i c e = absurd (let no : ⊥ = cc in no)
within_root sig inst (Whole d) i c e = e

closed_context : (sig : Signature) (names : Names) (inst : Instance) (form : Root) (es : List SchemeEntry) (v : ContextValue) → AreExplicitEntries sig names form es →
    root_entries inst form ++ entries_instance inst 0 es ≡ v.entries → (args : List Tree) (places : List Place) → AreArguments sig (scope_of sig v) places args → AreClosed form args
closed_context sig names inst Closed es v none e args places are =
    closed_arguments sig places args (subst (λ es. AreArguments sig (scope_after sig [] es) places args) (sym e ∙ ap (entries_instance inst 0) none) are)
closed_context sig names inst (Empty c) es v none e args places are = tt
closed_context sig names inst (Whole c) es v none e args places are = tt

-- what is known of a judgment that a pattern becomes: the scope of its arguments is that of the pattern's locals, before an outer one
record Judged (sig : Signature) (names : Names) (inst : Instance) (j : JudgmentScheme) (w : JudgmentValue) : Type 0 where
  outer : List ℕ
  locals : List ℕ
  cat : ℕ
  wide : (i c : ℕ) → slice_get outer i ≡ Some c → slice_get (scope_of sig inst.root) i ≡ Some c
  one : AddOne sig j.context.entries
  entry_schemes : AreSchemeEntries sig names [] cat j.context.entries
  entries : AreEntries sig cat outer (entries_instance inst 0 j.context.entries)
  long : length locals ≡ length j.context.entries
  places : List Place
  schemes : AreSchemes sig names locals places j.args
  values : AreArguments sig (locals ++ outer) places w.args

judged : (sig : Signature) (metas : List MetaDecl) (inst : Instance) (j : JudgmentScheme) (w : JudgmentValue) → Fits sig → (fit : JudgmentsFit sig metas j w) →
    judgment_instance inst j ≡ w → Judged sig fit.names inst j w
judged sig metas inst j w fits fit becomes =
    let entries_are : root_entries inst j.context.root ++ entries_instance inst 0 j.context.entries ≡ w.context.entries = ap (λ (x : JudgmentValue). x.context.entries) becomes in
    let known = explicit sig fit.names inst j.context.root fit.form j.context.entries w.context fits fit.root fit.entries fit.context
    (ap (λ (x : JudgmentValue). x.context.cat) becomes) entries_are in
    let outer : List ℕ = scope_after sig [] (root_entries inst j.context.root) in
    let scope : scope_of sig w.context ≡ entry_variables sig [] j.context.entries ++ outer =
    ap (scope_after sig []) (sym entries_are) ∙ scope_append sig [] (root_entries inst j.context.root) (entries_instance inst 0 j.context.entries)
    ∙ entries_scope sig fit.names known.cat outer inst [] 0 j.context.entries in
    record {
      outer = outer;
      locals = entry_variables sig [] j.context.entries;
      cat = known.cat;
      wide = within_root sig inst j.context.root;
      one = known.one;
      entry_schemes = known.schemes;
      entries = known.entries;
      long = entries_long sig fit.names known.cat outer inst [] 0 j.context.entries refl known.one ∙ (let e : 0 + length j.context.entries ≡ length j.context.entries = omega arith in e);
      places = fit.places;
      schemes = fit.schemes;
      values = subst (λ sc. AreArguments sig sc fit.places w.args) scope fit.values;
    }

module _ (sig : Signature) (fits : Fits sig) (metas : List MetaDecl) (root : ContextValue) (inst : Instance) (root_is : inst.root ≡ root) where
  left_are : (j : JudgmentScheme) (w : JudgmentValue) → judgment_instance inst j ≡ w →
      entries_instance inst 0 j.context.entries ≡ drop (length (entries_over root j.context.root)) w.context.entries
  left_are j w becomes =
      sym (drop_at (root_entries inst j.context.root) (entries_instance inst 0 j.context.entries) (length (entries_over root j.context.root))
      (ap length (over_root inst root j.context.root root_is)))
      ∙ ap (λ (x : JudgmentValue). drop (length (entries_over root j.context.root)) x.context.entries) becomes

  -- a pair becomes equal exactly where the instance of the pattern is the judgment, or the term
  pub equal_becomes : (p : Matched) → MakesEqual inst p → Becomes inst p
  equal_becomes (judgments j w) equal = equal.same
  equal_becomes (terms n s t) equal = equal

  pub becomes_equal : (p : Matched) → PairFits sig metas root p → Becomes inst p → MakesEqual inst p
  becomes_equal (judgments j w) fit becomes =
      let fit_here = fit (ap (λ (x : JudgmentValue). x.judgment) becomes) in
      record {
        same = becomes;
        closed = closed_context sig fit_here.names inst j.context.root j.context.entries w.context fit_here.entries
            (ap (λ (x : JudgmentValue). x.context.entries) becomes) w.args fit_here.places fit_here.values;
      }
  becomes_equal (terms n s t) fit becomes = becomes

  -- what is asked is the value
  pub pair_value : (m : ℕ) (p : Matched) (v : SchemeTree) → PairFits sig metas root p → Becomes inst p → PairDemands root m p v → embedded (value_of inst m) ≡ v
  pair_value m (judgments j w) v fit becomes asked =
      let at = judged sig metas inst j w fits (fit asked.0) becomes in
      elim asked.1 [
        | inl entry ↦ entries_value sig (fit asked.0).names at.cat at.outer inst m [] 0 j.context.entries (drop (length (entries_over root j.context.root)) w.context.entries) v refl at.one
            at.entry_schemes (subst (AreEntries sig at.cat at.outer) (left_are j w becomes) at.entries) (left_are j w becomes) entry
        | inr arg ↦ list_value inst m (length j.context.entries) j.args w.args v
            (subst (λ d. AllByRecursion (LocalsBelow d) j.args) at.long (schemes_below sig (fit asked.0).names at.locals at.places j.args at.schemes))
            (ap (λ (x : JudgmentValue). x.args) becomes) arg
      ]
  pair_value m (terms n s t) v fit becomes asked =
      demand_is_value (instance_making inst) m n s (embedded t) v (subst (λ d. LocalsBelow d s) fit.number (scheme_below sig fit.names fit.locals fit.cat s fit.scheme_fits))
      (ap embedded becomes) asked

  -- a strict occurrence asks for something
  pub pair_strict : (m : ℕ) (p : Matched) → Becomes inst p → StrictInPair m p → (v : SchemeTree) × PairDemands root m p v
  pair_strict m (judgments j w) becomes (inl strict) =
      let found = entries_strict inst m 0 j.context.entries (drop (length (entries_over root j.context.root)) w.context.entries) (left_are j w becomes) strict in
      (found.0, (ap (λ (x : JudgmentValue). x.judgment) becomes, inl found.1))
  pair_strict m (judgments j w) becomes (inr strict) =
      let found = list_strict inst m (length j.context.entries) j.args w.args (ap (λ (x : JudgmentValue). x.args) becomes) strict in
      (found.0, (ap (λ (x : JudgmentValue). x.judgment) becomes, inr found.1))
  pair_strict m (terms n s t) becomes strict = strict_demands (instance_making inst) m n s (embedded t) (ap embedded becomes) strict

  -- and types the value
  module _ (m : ℕ) (decl : MetaDecl) (named : slice_get metas m ≡ Some decl) where
    named_in : (names : Names) → names.metas ≡ metas → slice_get names.metas m ≡ Some decl
    named_in names e = ap (λ ms. slice_get ms m) e ∙ named

    judgment_typed : (j : JudgmentScheme) (w : JudgmentValue) → judgment_instance inst j ≡ w → (fit : JudgmentsFit sig metas j w) → StrictInPair m (judgments j w) →
        IsTerm sig (params_scope decl ++ scope_of sig inst.root) decl.cat.0 (value_of inst m)
    judgment_typed j w becomes fit (inl strict) =
        let at = judged sig metas inst j w fits fit becomes in
        entries_typed sig fit.names at.cat at.outer inst (scope_of sig inst.root) at.wide m decl (named_in fit.names fit.metas_are) [] 0 j.context.entries
        (entries_instance inst 0 j.context.entries) refl at.one at.entry_schemes at.entries refl strict
    judgment_typed j w becomes fit (inr strict) =
        let at = judged sig metas inst j w fits fit becomes in
        list_typed at.outer (scope_of sig inst.root) at.wide sig fit.names inst m decl (named_in fit.names fit.metas_are) at.locals at.places j.args w.args at.schemes at.values
        (ap (λ d. map (instance_of inst d) j.args) at.long ∙ ap (λ (x : JudgmentValue). x.args) becomes) strict

    pub pair_typed : (p : Matched) → PairFits sig metas root p → Becomes inst p → StrictInPair m p → IsTerm sig (params_scope decl ++ scope_of sig inst.root) decl.cat.0 (value_of inst m)
    pair_typed (judgments j w) fit becomes strict = judgment_typed j w becomes (fit (ap (λ (x : JudgmentValue). x.judgment) becomes)) strict
    pair_typed (terms n s t) fit becomes strict =
        one_typed (scope_of sig inst.root) (scope_of sig inst.root) (λ i c e. e) sig fit.names inst m decl (named_in fit.names fit.metas_are) fit.locals fit.cat s t fit.scheme_fits
        (subst (λ r. IsTerm sig (fit.locals ++ scope_of sig r) fit.cat t) (sym root_is) fit.value_fits)
        (ap (λ d. instance_of inst d s) fit.number ∙ becomes) strict

-- all pairs
module _ (sig : Signature) (fits : Fits sig) (metas : List MetaDecl) (root : ContextValue) (inst : Instance) (root_is : inst.root ≡ root) where
  pub all_become : (ps : List Matched) → AllByRecursion (MakesEqual inst) ps → AllByRecursion (Becomes inst) ps
  all_become [] equal = tt
  all_become (p ∷ ps) equal = (equal_becomes sig fits metas root inst root_is p equal.0, all_become ps equal.1)

  pub all_equal : (ps : List Matched) → AllByRecursion (PairFits sig metas root) ps → AllByRecursion (Becomes inst) ps → AllByRecursion (MakesEqual inst) ps
  all_equal [] fit become = tt
  all_equal (p ∷ ps) fit become = (becomes_equal sig fits metas root inst root_is p fit.0 become.0, all_equal ps fit.1 become.1)

  pub pairs_value : (m : ℕ) (ps : List Matched) (v : SchemeTree) → AllByRecursion (PairFits sig metas root) ps → AllByRecursion (Becomes inst) ps → PairsDemand root m ps v →
      embedded (value_of inst m) ≡ v
  pairs_value m [] v fit become asked = absurd asked
  pairs_value m (p ∷ ps) v fit become (inl asked) = pair_value sig fits metas root inst root_is m p v fit.0 become.0 asked
  pairs_value m (p ∷ ps) v fit become (inr asked) = pairs_value m ps v fit.1 become.1 asked

  pub pairs_strict : (m : ℕ) (ps : List Matched) → AllByRecursion (Becomes inst) ps → AnyByRecursion (StrictInPair m) ps → (v : SchemeTree) × PairsDemand root m ps v
  pairs_strict m [] become strict = absurd strict
  pairs_strict m (p ∷ ps) become (inl strict) = let found = pair_strict sig fits metas root inst root_is m p become.0 strict in (found.0, inl found.1)
  pairs_strict m (p ∷ ps) become (inr strict) = let found = pairs_strict m ps become.1 strict in (found.0, inr found.1)

  pub pairs_typed : (m : ℕ) (decl : MetaDecl) → slice_get metas m ≡ Some decl → (ps : List Matched) → AllByRecursion (PairFits sig metas root) ps → AllByRecursion (Becomes inst) ps →
      AnyByRecursion (StrictInPair m) ps → IsTerm sig (params_scope decl ++ scope_of sig inst.root) decl.cat.0 (value_of inst m)
  pairs_typed m decl named [] fit become strict = absurd strict
  pairs_typed m decl named (p ∷ ps) fit become (inl strict) = pair_typed sig fits metas root inst root_is m decl named p fit.0 become.0 strict
  pairs_typed m decl named (p ∷ ps) fit become (inr strict) = pairs_typed m decl named ps fit.1 become.1 strict
