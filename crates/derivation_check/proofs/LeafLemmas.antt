-- A leaf of an assumption rule is what the matching of the rule's entry finds.
use Rattle.std.proofs.Common.{◌≡◌, ◌↔◌, ◌<◌, ℕ, suc, ◌+◌, ◌-◌, List, [], ◌∷◌, ◌++◌, length, map, refl, ap, ◌∙◌, sym, subst, append_assoc, Some, None, slice_get, get_or, option_map, inl, inr, arith}
use Rattle.std.specs.Prelude.{Option, MatchOption, drop}
use Rattle.std.specs.List.{AllByRecursion, AllZip}
use Rattle.std.proofs.lemmas.Option.{slice_get-map, slice_get-get_or, slice_get_within}
use Rattle.binding_terms.specs.Tree.{Tree, var, put_in}
use Rattle.binding_terms.specs.Signature.{Signature, Place, slots}
use Rattle.binding_terms.specs.Numbered.{AnyByRecursion}
use Rattle.binding_terms.specs.declared.grammar.CatId.{CatId}
use Rattle.binding_terms.proofs.Lists.{match_some, match_at, match_from, match_same, numbered_weaker, zip_empty, cons_head, cons_tail}
use Rattle.scheme_terms.specs.SchemeTree.{SchemeTree, StrictIn}
use Rattle.scheme_terms.specs.Forms.{SchemeEntry, GroundEntry, Names, ContextValue, Instance}
use Rattle.scheme_terms.specs.Context.{AreArguments, IsValue, IsEntry, scope_of, raised_args}
use Rattle.scheme_terms.specs.Instance.{instance_of, root_variable, IsKnownPlace, IsEntryOf}
use Rattle.scheme_terms.specs.SchemeScope.{AreSchemes, AreSchemeEntries, AreExplicitEntries, IsRoot}
use Rattle.scheme_terms.specs.declared.scheme.MetaDecl.{MetaDecl}
use Rattle.scheme_terms.specs.declared.scheme.Entry.{Entry}
use Rattle.scheme_terms.specs.View.{ground_entry}
use Rattle.scheme_terms.specs.declared.scheme.Root.{Root}
use Rattle.scheme_terms.specs.declared.scheme.Root.TheVariants.{Closed, Empty, Whole}
use Rattle.scheme_terms.proofs.Values.{AddOne, value_adds_one}
use Rattle.rule_schemes.specs.Rules.{JudgmentValue, Rule, Theory, IsJudgment, IsSystemSoFar, RuleFits, IsAssumption, IsOneEntry, IsItsEntry, StrictInRule, StrictInEntries, IsAssumptionJudgment, rule_names}
use Rattle.scheme_match.specs.Matching.{Matching, terms, TermsFit, MakesEqual, IsMatch, IsOnlyMatch, StrictInPair, AreStrict}
use Rattle.derivation_check.specs.Pairs.{term_pairs, with_terms, entry_matching, IsEntryOfRule}
use Rattle.derivation_check.proofs.Entries.{placed, raised_arguments}
use Rattle.derivation_check.proofs.NodeLemmas.{judged_root, one_no_empty, form_of, form_root}

-- pairs of terms
pairs_long : (sig : Signature) (names : Names) (ls : List ℕ) (ss : List Place) (xs : List SchemeTree) (scope : List ℕ) (ts : List Tree) → AreSchemes sig names ls ss xs → AreArguments sig scope ss ts → length xs ≡ length ts
pairs_long sig names ls [] [] scope [] h k = refl
pairs_long sig names ls [] [] scope (t ∷ ts) h k = absurd k
pairs_long sig names ls [] (x ∷ xs) scope ts h k = absurd h
pairs_long sig names ls (s ∷ ss) [] scope ts h k = absurd h
pairs_long sig names ls (s ∷ ss) (x ∷ xs) scope [] h k = absurd k
pairs_long sig names ls (s ∷ ss) (x ∷ xs) scope (t ∷ ts) h k = ap suc (pairs_long sig names ls ss xs scope ts h.1 k.1)

terms_fit : (sig : Signature) (names : Names) (root : ContextValue) (ss : List Place) (xs : List SchemeTree) (ts : List Tree) → AreSchemes sig names [] ss xs → AreArguments sig (scope_of sig root) ss ts →
    AllZip (λ s t. TermsFit sig names.metas root 0 s t) xs ts
terms_fit sig names root [] [] [] h k = tt
terms_fit sig names root [] [] (t ∷ ts) h k = absurd k
terms_fit sig names root [] (x ∷ xs) ts h k = absurd h
terms_fit sig names root (s ∷ ss) [] ts h k = absurd h
terms_fit sig names root (s ∷ ss) (x ∷ xs) [] h k = absurd k
terms_fit sig names root (s ∷ ss) (x ∷ xs) (t ∷ ts) h k =
    (record { names = names; metas_are = refl; locals = []; number = refl; cat = s.cat; scheme_fits = h.0; value_fits = k.0 }, terms_fit sig names root ss xs ts h.1 k.1)

any_strict : (m : ℕ) (xs : List SchemeTree) (ts : List Tree) → length xs ≡ length ts → AnyByRecursion (StrictIn m) xs → AnyByRecursion (StrictInPair m) (term_pairs xs ts)
any_strict m [] ts e h = absurd h
any_strict m (x ∷ xs) [] e h = absurd (omega (arith, e))
any_strict m (x ∷ xs) (t ∷ ts) e (inl here) = inl here
any_strict m (x ∷ xs) (t ∷ ts) e (inr rest) = inr (any_strict m xs ts (omega (arith, e)) rest)

pairs_from : (inst : Instance) (xs : List SchemeTree) (ts : List Tree) → length xs ≡ length ts → AllByRecursion (MakesEqual inst) (term_pairs xs ts) → ts ≡ map (instance_of inst 0) xs
pairs_from inst [] [] e h = refl
pairs_from inst [] (t ∷ ts) e h = absurd (omega (arith, e))
pairs_from inst (x ∷ xs) [] e h = absurd (omega (arith, e))
pairs_from inst (x ∷ xs) (t ∷ ts) e h = (let rest = pairs_from inst xs ts (omega (arith, e)) h.1 in λ i. sym h.0 i ∷ rest i)

pairs_to : (inst : Instance) (xs : List SchemeTree) (ts : List Tree) → ts ≡ map (instance_of inst 0) xs → AllByRecursion (MakesEqual inst) (term_pairs xs ts)
pairs_to inst [] ts e = tt
pairs_to inst (x ∷ xs) [] e = tt
pairs_to inst (x ∷ xs) (t ∷ ts) e = (sym (cons_head e), pairs_to inst xs ts (cons_tail e))

-- the root of an assumption rule
whole_root : (root : Root) (es : List SchemeEntry) → IsOneEntry root es → (c : CatId) × (root ≡ Whole c)
whole_root Closed es h = absurd h
whole_root (Empty c) es h = absurd h
whole_root (Whole c) es h = (c, refl)

its_entry : (inst : Instance) (place : ℕ) (root : Root) (es : List SchemeEntry) (d : SchemeEntry) → IsOneEntry root es → es ≡ d ∷ [] →
    (IsItsEntry inst place root es → MatchOption (slice_get inst.root.entries place) ⊥ (IsEntryOf inst place d))
    × (MatchOption (slice_get inst.root.entries place) ⊥ (IsEntryOf inst place d) → IsItsEntry inst place root es)
its_entry inst place Closed es d one e = absurd one
its_entry inst place (Empty c) es d one e = absurd one
its_entry inst place (Whole c) es d one e = (λ h. subst (IsItsEntry inst place (Whole c)) e h, λ h. subst (IsItsEntry inst place (Whole c)) (sym e) h)

module _ (th : Theory) (so_far : IsSystemSoFar th) (r : Rule) (fits : RuleFits th r) (d : SchemeEntry) (of_rule : IsEntryOfRule r d) (v : JudgmentValue) (judged : IsJudgment th v)
    (same : v.judgment ≡ r.conclusion.judgment) (place : ℕ) (e : GroundEntry) (at : slice_get v.context.entries place ≡ Some e) (prod : e.prod ≡ d.prod) where
  whole : (c : CatId) × (r.conclusion.context.root ≡ Whole c)
  whole = whole_root r.conclusion.context.root r.conclusion.context.entries of_rule.0

  value : IsValue th.sig r.conclusion.context.root v.context
  value = judged_root th (rule_names r) r.conclusion v (one_no_empty r.conclusion.context.root r.conclusion.context.entries of_rule.0) fits.forms.conclusion judged (sym same)

  value_whole : IsValue th.sig (Whole whole.0) v.context
  value_whole = subst (λ (root : Root). IsValue th.sig root v.context) whole.1 value

  declared : AreSchemeEntries th.sig (rule_names r) [] whole.0.0 (d ∷ [])
  declared =
      let form = match_some (slice_get th.judgments r.conclusion.judgment) _ fits.forms.conclusion in
      subst (λ (root : Root). AreExplicitEntries th.sig (rule_names r) root (d ∷ [])) whole.1
      (subst (AreExplicitEntries th.sig (rule_names r) r.conclusion.context.root) of_rule.1 form.2.1)

  root : IsRoot th.sig r.conclusion.context.root
  root =
      let form = form_of th so_far (rule_names r) r.conclusion fits.forms.conclusion in
      form_root th so_far form.0 r.conclusion.context.root form.3 form.2

  -- the rule's entry and the entry at the place, raised, are place by place of the same categories
  record Both : Type 0 where
    places : List Place
    schemes : AreSchemes th.sig (rule_names r) [] places d.args
    terms : AreArguments th.sig (scope_of th.sig v.context) places (raised_args v.context place e)

  both : Both
  both =
      let adds : AddOne th.sig v.context.entries = value_adds_one th.sig r.conclusion.context.root v.context so_far.sig root value in
      let there = placed th.sig whole.0.0 [] v.context.entries place e adds value_whole.1 at in
      let entry = subst (λ p. IsEntry th.sig whole.0.0 there.before (record { prod = p; args = e.args })) prod there.entry in
      let shared = match_same (slice_get th.sig.prods d.prod) declared.0 entry in
      record {
        places = drop 1 (slots shared.0.items);
        schemes = shared.1.2;
        terms = subst (λ sc. AreArguments th.sig sc (drop 1 (slots shared.0.items)) (raised_args v.context place e)) (sym there.after)
            (raised_arguments th.sig there.own there.before (length v.context.entries - place) (drop 1 (slots shared.0.items)) e.args there.long shared.2.2);
      }

  pub as_many : length d.args ≡ length (raised_args v.context place e)
  as_many = pairs_long th.sig (rule_names r) [] both.places d.args (scope_of th.sig v.context) (raised_args v.context place e) both.schemes both.terms

  pub all_fit : AllZip (λ s t. TermsFit th.sig r.metas v.context 0 s t) d.args (raised_args v.context place e)
  all_fit = terms_fit th.sig (rule_names r) v.context both.places d.args (raised_args v.context place e) both.schemes both.terms

  strict_here : (m : ℕ) → StrictInRule r m → AnyByRecursion (StrictIn m) d.args
  strict_here m (inr h) = absurd (h.0 of_rule.0)
  strict_here m (inl h) = elim (subst (StrictInEntries m) of_rule.1 h.1) [ inl here ↦ here | inr none ↦ absurd none ]

  abbrev matching : Matching
  matching = entry_matching th r.metas v.context d.args (raised_args v.context place e)

  pub are_strict : AreStrict matching
  are_strict = numbered_weaker (λ m decl h. any_strict m d.args (raised_args v.context place e) as_many (strict_here m h)) 0 r.metas fits.strict

  to_match : (a : IsAssumptionJudgment th r v.context place v) → IsMatch matching a.inst
  to_match a =
      let its = (its_entry a.inst place r.conclusion.context.root r.conclusion.context.entries d of_rule.0 of_rule.1).0 a.entry in
      let here = match_at (slice_get a.inst.root.entries place) (IsEntryOf a.inst place d) e (ap (λ (w : ContextValue). slice_get w.entries place) a.root ∙ at) its in
      record {
        root = a.root;
        metas = a.scope.metas;
        knowns = zip_empty (IsKnownPlace a.inst) a.inst.knowns a.scope.knowns;
        pairs = pairs_to a.inst d.args (raised_args v.context place e) (ap (λ (w : ContextValue). raised_args w place e) (sym a.root) ∙ here.1);
      }

  abbrev HasValues : Instance → Type 0
  HasValues inst = v.args ≡ map (λ s. put_in 0 (root_variable inst 0 place) (instance_of inst 1 s)) r.conclusion.args

  from_match : (inst : Instance) → IsMatch matching inst → HasValues inst → IsAssumptionJudgment th r v.context place v
  from_match inst is values =
      record {
        inst = inst;
        root = is.root;
        scope =
            record {
              root = subst (IsValue th.sig r.conclusion.context.root) (sym is.root) value;
              metas = is.metas;
              knowns = subst (λ (ks : List (Option ℕ)). AllZip (IsKnownPlace inst) [] ks) (sym is.knowns) tt;
            };
        entry = (its_entry inst place r.conclusion.context.root r.conclusion.context.entries d of_rule.0 of_rule.1).1
            (match_from (slice_get inst.root.entries place) (IsEntryOf inst place d) e (ap (λ (w : ContextValue). slice_get w.entries place) is.root ∙ at)
            (prod, ap (λ (w : ContextValue). raised_args w place e) is.root ∙ pairs_from inst d.args (raised_args v.context place e) as_many is.pairs));
        judgment = same;
        context = refl;
        values = values;
      }

  pub none_matches : IsOnlyMatch matching None → IsAssumptionJudgment th r v.context place v → ⊥
  none_matches only a = only a.inst (to_match a)

  pub one_matches : (inst : Instance) → IsOnlyMatch matching (Some inst) → HasValues inst ↔ IsAssumptionJudgment th r v.context place v
  one_matches inst only = (
    from_match inst only.0,
    λ a. subst HasValues (only.1 a.inst (to_match a)) a.values,
  )

  -- the same of lists that are these
  module _ (ss : List SchemeTree) (ts : List Tree) (schemes_are : ss ≡ d.args) (terms_are : ts ≡ raised_args v.context place e) where
    matching_is : entry_matching th r.metas v.context ss ts ≡ matching
    matching_is i = entry_matching th r.metas v.context (schemes_are i) (terms_are i)

    pub as_many_of : length ss ≡ length ts
    as_many_of = ap length schemes_are ∙ as_many ∙ sym (ap length terms_are)

    pub all_fit_of : AllZip (λ s t. TermsFit th.sig r.metas v.context 0 s t) ss ts
    all_fit_of =
        subst (λ xs. AllZip (λ s t. TermsFit th.sig r.metas v.context 0 s t) xs ts) (sym schemes_are)
        (subst (λ xs. AllZip (λ s t. TermsFit th.sig r.metas v.context 0 s t) d.args xs) (sym terms_are) all_fit)

    pub are_strict_of : AreStrict (entry_matching th r.metas v.context ss ts)
    are_strict_of = subst AreStrict (sym matching_is) are_strict

    pub none_matches_of : IsOnlyMatch (entry_matching th r.metas v.context ss ts) None → IsAssumptionJudgment th r v.context place v → ⊥
    none_matches_of only = none_matches (subst (λ m. IsOnlyMatch m None) matching_is only)

    pub one_matches_of : (inst : Instance) (u : Tree) → u ≡ var (length v.context.entries - suc place + 0) → IsOnlyMatch (entry_matching th r.metas v.context ss ts) (Some inst) →
        (v.args ≡ map (λ s. put_in 0 u (instance_of inst 1 s)) r.conclusion.args) ↔ IsAssumptionJudgment th r v.context place v
    one_matches_of inst u is only =
        let here = subst (λ m. IsOnlyMatch m (Some inst)) matching_is only in
        let variable : u ≡ root_variable inst 0 place = is ∙ ap (λ (w : ContextValue). var (length w.entries - suc place + 0)) (sym here.0.root) in
        subst (λ x. (v.args ≡ map (λ s. put_in 0 x (instance_of inst 1 s)) r.conclusion.args) ↔ IsAssumptionJudgment th r v.context place v) (sym variable) (one_matches inst here)

-- where it is no leaf
pub other_judgment : (th : Theory) (r : Rule) (v : JudgmentValue) (place : ℕ) → (v.judgment ≡ r.conclusion.judgment → ⊥) → IsAssumptionJudgment th r v.context place v → ⊥
other_judgment th r v place differ a = differ a.judgment

its_place : (inst : Instance) (place : ℕ) (root : Root) (es : List SchemeEntry) → IsItsEntry inst place root es → (x : GroundEntry) × (slice_get inst.root.entries place ≡ Some x)
its_place inst place Closed es h = absurd h
its_place inst place (Empty c) es h = absurd h
its_place inst place (Whole c) [] h = absurd h
its_place inst place (Whole c) (e ∷ []) h = let at = match_some (slice_get inst.root.entries place) _ h in (at.0, at.1)
its_place inst place (Whole c) (e ∷ (f ∷ es)) h = absurd h

its_rule : (inst : Instance) (place : ℕ) (root : Root) (es : List SchemeEntry) → IsItsEntry inst place root es → IsOneEntry root es
its_rule inst place Closed es h = h
its_rule inst place (Empty c) es h = h
its_rule inst place (Whole c) [] h = h
its_rule inst place (Whole c) (e ∷ []) h = tt
its_rule inst place (Whole c) (e ∷ (f ∷ es)) h = h

pub no_assumption : (th : Theory) (r : Rule) (v : JudgmentValue) (place : ℕ) → (IsAssumption r → ⊥) → IsAssumptionJudgment th r v.context place v → ⊥
no_assumption th r v place ordinary a = ordinary (its_rule a.inst place r.conclusion.context.root r.conclusion.context.entries a.entry)

pub place_within : (th : Theory) (r : Rule) (v : JudgmentValue) (place : ℕ) → IsAssumptionJudgment th r v.context place v → place < length v.context.entries
place_within th r v place a =
    let at = its_place a.inst place r.conclusion.context.root r.conclusion.context.entries a.entry in
    slice_get_within v.context.entries place at.0 (ap (λ (w : ContextValue). slice_get w.entries place) (sym a.root) ∙ at.1)

pub entry_of_rule : (root : Root) (es : List SchemeEntry) → IsOneEntry root es → (d : SchemeEntry) × (es ≡ d ∷ [])
entry_of_rule Closed es h = absurd h
entry_of_rule (Empty c) es h = absurd h
entry_of_rule (Whole c) [] h = absurd h
entry_of_rule (Whole c) (e ∷ []) h = (e, refl)
entry_of_rule (Whole c) (e ∷ (f ∷ es)) h = absurd h

-- the entry that is looked up
pub entry_at : (all items : List Entry) (n : ℕ) (x : Entry) → items ≡ all → x ≡ get_or items n x → n < length all → slice_get (map ground_entry all) n ≡ Some (ground_entry x)
entry_at all items n x e h within =
    slice_get-map ground_entry all n ∙ ap (option_map ground_entry) (slice_get-get_or all n x within ∙ ap Some (sym (h ∙ ap (λ (xs : List Entry). get_or xs n x) e)))

-- what remains to be added after one more pair
pub added_terms : (old new : Matching) (all : Matching) (s : SchemeTree) (t : Tree) (ss rest : List SchemeTree) (ts more : List Tree) → new ≡ record old { pairs = old.pairs ++ terms 0 s t ∷ [] } →
    ss ≡ s ∷ rest → ts ≡ t ∷ more →
    (with_terms old ss ts ≡ all) × AllZip (λ x y. TermsFit old.sig old.metas old.root 0 x y) ss ts →
    (with_terms new rest more ≡ all) × AllZip (λ x y. TermsFit new.sig new.metas new.root 0 x y) rest more
added_terms old new all s t ss rest ts more e f g h =
    let both : (with_terms old (s ∷ rest) (t ∷ more) ≡ all) × AllZip (λ x y. TermsFit old.sig old.metas old.root 0 x y) (s ∷ rest) (t ∷ more) =
    subst (λ (xs : List SchemeTree). (with_terms old xs (t ∷ more) ≡ all) × AllZip (λ x y. TermsFit old.sig old.metas old.root 0 x y) xs (t ∷ more)) f
    (subst (λ (ys : List Tree). (with_terms old ss ys ≡ all) × AllZip (λ x y. TermsFit old.sig old.metas old.root 0 x y) ss ys) g h) in (
      ap (λ (m : Matching). with_terms m rest more) e
          ∙ (λ i. record old { pairs = append_assoc old.pairs (terms 0 s t ∷ []) (term_pairs rest more) i })
          ∙ both.0,
      subst (λ (m : Matching). AllZip (λ x y. TermsFit m.sig m.metas m.root 0 x y) rest more) (sym e) both.1.1,
    )

pub fit_in_matching : (th : Theory) (metas : List MetaDecl) (v : ContextValue) (ss : List SchemeTree) (ts : List Tree) (m : Matching) → m.sig ≡ th.sig → m.metas ≡ metas → m.root ≡ v →
    AllZip (λ s t. TermsFit th.sig metas v 0 s t) ss ts → AllZip (λ s t. TermsFit m.sig m.metas m.root 0 s t) ss ts
fit_in_matching th metas v ss ts m e f g h =
    subst (λ (x : Signature). AllZip (λ s t. TermsFit x m.metas m.root 0 s t) ss ts) (sym e)
    (subst (λ (x : List MetaDecl). AllZip (λ s t. TermsFit th.sig x m.root 0 s t) ss ts) (sym f)
    (subst (λ (x : ContextValue). AllZip (λ s t. TermsFit th.sig metas x 0 s t) ss ts) (sym g) h))
