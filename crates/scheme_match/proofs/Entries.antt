-- The explicit entries of a pattern and those that they are to become.
use Rattle.std.proofs.Common.{◌≡◌, ℕ, ◌+◌, List, [], ◌∷◌, ◌++◌, length, map, drop, Some, slice_get, inl, inr, refl, ap, ◌∙◌, sym, subst, append_assoc, length-append, arith}
use Rattle.std.specs.List.{AllByRecursion}
use Rattle.binding_terms.specs.Signature.{Signature, Place, slots, Fits, IsContext}
use Rattle.binding_terms.specs.Scope.{IsTerm}
use Rattle.binding_terms.proofs.Lists.{cons_head, cons_tail, match_same}
use Rattle.scheme_terms.specs.SchemeTree.{SchemeTree}
use Rattle.scheme_terms.specs.Forms.{SchemeEntry, GroundEntry, Names, Instance}
use Rattle.scheme_terms.specs.Context.{AreArguments, IsEntry, AreEntries, variables, scope_after}
use Rattle.scheme_terms.specs.Instance.{instance_of, entries_instance, value_of}
use Rattle.scheme_terms.specs.SchemeScope.{AreSchemes, AreSchemeEntries, entry_variables, params_scope}
use Rattle.scheme_terms.specs.Substituting.{LocalsBelow}
use Rattle.scheme_terms.specs.Embedding.{embedded}
use Rattle.scheme_terms.specs.declared.scheme.MetaDecl.{MetaDecl}
use Rattle.scheme_terms.proofs.Values.{entry_adds_one}
use Rattle.rule_schemes.specs.Rules.{StrictInEntries}
use Rattle.scheme_match.specs.Demands.{EntriesDemand}
use Rattle.scheme_match.proofs.Lists.{schemes_below, list_value, list_strict, list_typed}

-- each entry adds one variable
abbrev pub AddOne : Signature → List SchemeEntry → Type 0
AddOne sig es = AllByRecursion (λ e. length (variables sig e.prod) ≡ 1) es

pub entries_strict : (inst : Instance) (m n : ℕ) (es : List SchemeEntry) (gs : List GroundEntry) → entries_instance inst n es ≡ gs → StrictInEntries m es →
    (v : SchemeTree) × EntriesDemand m n es gs v
entries_strict inst m n [] gs e strict = absurd strict
entries_strict inst m n (x ∷ es) [] e strict = absurd (let no : ⊥ = cc in no)
entries_strict inst m n (x ∷ es) (g ∷ gs) e (inl strict) =
    let found = list_strict inst m n x.args g.args (ap (λ (y : GroundEntry). y.args) (cons_head e)) strict in
    (found.0, inl found.1)
entries_strict inst m n (x ∷ es) (g ∷ gs) e (inr strict) =
    let found = entries_strict inst m (n + 1) es gs (cons_tail e) strict in
    (found.0, inr found.1)

module _ (sig : Signature) (names : Names) (c : ℕ) (outer : List ℕ) (inst : Instance) where
  -- what is known of an entry, and of those after it
  record Next (ls : List ℕ) (n : ℕ) (x : SchemeEntry) (es : List SchemeEntry) (g : GroundEntry) (gs : List GroundEntry) : Type 0 where
    places : List Place
    schemes : AreSchemes sig names ls places x.args
    terms : AreArguments sig (ls ++ outer) places g.args
    args : map (instance_of inst n) x.args ≡ g.args
    long : length (variables sig x.prod ++ ls) ≡ n + 1
    scheme_entries : AreSchemeEntries sig names (variables sig x.prod ++ ls) c es
    entries : AreEntries sig c ((variables sig x.prod ++ ls) ++ outer) gs
    rest : entries_instance inst (n + 1) es ≡ gs

  next : (ls : List ℕ) (n : ℕ) (x : SchemeEntry) (es : List SchemeEntry) (g : GroundEntry) (gs : List GroundEntry) → length ls ≡ n → AddOne sig (x ∷ es) →
      AreSchemeEntries sig names ls c (x ∷ es) → AreEntries sig c (ls ++ outer) (g ∷ gs) → entries_instance inst n (x ∷ es) ≡ g ∷ gs → Next ls n x es g gs
  next ls n x es g gs long one is are e =
      let prod : g.prod ≡ x.prod = sym (ap (λ (y : GroundEntry). y.prod) (cons_head e)) in
      let here = subst (λ p. IsEntry sig c (ls ++ outer) (record { prod = p; args = g.args })) prod are.0 in
      let both = match_same (slice_get sig.prods x.prod) is.0 here in
      record {
        places = drop 1 (slots both.0.items);
        schemes = both.1.2;
        terms = both.2.2;
        args = ap (λ (y : GroundEntry). y.args) (cons_head e);
        long = omega (arith, length-append (variables sig x.prod) ls, one.0, long);
        scheme_entries = is.1;
        entries = subst (λ sc. AreEntries sig c sc gs) (sym (append_assoc (variables sig x.prod) ls outer))
            (subst (λ p. AreEntries sig c (variables sig p ++ (ls ++ outer)) gs) prod are.1);
        rest = cons_tail e;
      }

  pub entries_value : (m : ℕ) (ls : List ℕ) (n : ℕ) (es : List SchemeEntry) (gs : List GroundEntry) (v : SchemeTree) → length ls ≡ n → AddOne sig es →
      AreSchemeEntries sig names ls c es → AreEntries sig c (ls ++ outer) gs → entries_instance inst n es ≡ gs → EntriesDemand m n es gs v → embedded (value_of inst m) ≡ v
  entries_value m ls n [] gs v long one is are e asked = absurd asked
  entries_value m ls n (x ∷ es) [] v long one is are e asked = absurd asked
  entries_value m ls n (x ∷ es) (g ∷ gs) v long one is are e (inl asked) =
      let at = next ls n x es g gs long one is are e in
      list_value inst m n x.args g.args v (subst (λ d. AllByRecursion (LocalsBelow d) x.args) long (schemes_below sig names ls at.places x.args at.schemes)) at.args asked
  entries_value m ls n (x ∷ es) (g ∷ gs) v long one is are e (inr asked) =
      let at = next ls n x es g gs long one is are e in
      entries_value m (variables sig x.prod ++ ls) (n + 1) es gs v at.long one.1 at.scheme_entries at.entries at.rest asked

  -- the scope behind the entries
  pub entries_long : (ls : List ℕ) (n : ℕ) (es : List SchemeEntry) → length ls ≡ n → AddOne sig es → length (entry_variables sig ls es) ≡ n + length es
  entries_long ls n [] long one = long ∙ (let e : n ≡ n + 0 = omega arith in e)
  entries_long ls n (x ∷ es) long one =
      entries_long (variables sig x.prod ++ ls) (n + 1) es (omega (arith, length-append (variables sig x.prod) ls, one.0, long)) one.1
      ∙ (let e : n + 1 + length es ≡ n + length (x ∷ es) = omega arith in e)

  pub entries_scope : (ls : List ℕ) (n : ℕ) (es : List SchemeEntry) → scope_after sig (ls ++ outer) (entries_instance inst n es) ≡ entry_variables sig ls es ++ outer
  entries_scope ls n [] = refl
  entries_scope ls n (x ∷ es) =
      ap (λ sc. scope_after sig sc (entries_instance inst (n + 1) es)) (sym (append_assoc (variables sig x.prod) ls outer))
      ∙ entries_scope (variables sig x.prod ++ ls) (n + 1) es

  pub entries_typed : (beyond : List ℕ) → ((i k : ℕ) → slice_get outer i ≡ Some k → slice_get beyond i ≡ Some k) → (m : ℕ) (decl : MetaDecl) → slice_get names.metas m ≡ Some decl →
      (ls : List ℕ) (n : ℕ) (es : List SchemeEntry) (gs : List GroundEntry) → length ls ≡ n → AddOne sig es →
      AreSchemeEntries sig names ls c es → AreEntries sig c (ls ++ outer) gs → entries_instance inst n es ≡ gs → StrictInEntries m es →
      IsTerm sig (params_scope decl ++ beyond) decl.cat.0 (value_of inst m)
  entries_typed beyond wide m decl named ls n [] gs long one is are e strict = absurd strict
  entries_typed beyond wide m decl named ls n (x ∷ es) [] long one is are e strict = absurd (let no : ⊥ = cc in no)
  entries_typed beyond wide m decl named ls n (x ∷ es) (g ∷ gs) long one is are e (inl strict) =
      let at = next ls n x es g gs long one is are e in
      list_typed outer beyond wide sig names inst m decl named ls at.places x.args g.args at.schemes at.terms
      (ap (λ d. map (instance_of inst d) x.args) long ∙ at.args) strict
  entries_typed beyond wide m decl named ls n (x ∷ es) (g ∷ gs) long one is are e (inr strict) =
      let at = next ls n x es g gs long one is are e in
      entries_typed beyond wide m decl named (variables sig x.prod ++ ls) (n + 1) es gs at.long one.1 at.scheme_entries at.entries at.rest strict

-- entries whose instances each add one variable
pub add_one : (sig : Signature) → Fits sig → (c : ℕ) → IsContext sig c → (inst : Instance) (scope : List ℕ) (n : ℕ) (es : List SchemeEntry) →
    AreEntries sig c scope (entries_instance inst n es) → AddOne sig es
add_one sig fits c context inst scope n [] are = tt
add_one sig fits c context inst scope n (x ∷ es) are = (
  entry_adds_one sig fits c context scope (record { prod = x.prod; args = map (instance_of inst n) x.args }) are.0,
  add_one sig fits c context inst (variables sig x.prod ++ scope) (n + 1) es are.1,
)

pub entries_behind : (sig : Signature) (c : ℕ) (scope : List ℕ) (rs gs : List GroundEntry) → AreEntries sig c scope (rs ++ gs) → AreEntries sig c (scope_after sig scope rs) gs
entries_behind sig c scope [] gs are = are
entries_behind sig c scope (r ∷ rs) gs are = entries_behind sig c (variables sig r.prod ++ scope) rs gs are.1

pub scope_append : (sig : Signature) (scope : List ℕ) (rs gs : List GroundEntry) → scope_after sig scope (rs ++ gs) ≡ scope_after sig (scope_after sig scope rs) gs
scope_append sig scope [] gs = refl
scope_append sig scope (r ∷ rs) gs = scope_append sig (variables sig r.prod ++ scope) rs gs
