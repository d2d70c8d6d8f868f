-- What rules that stand for written ones meet: their forms are in scope, and each metavariable is strict.
use Rattle.std.proofs.Common.{◌≡◌, ◌⊎◌, ◌+◌, ◌≤◌, ℕ, zero, suc, List, [], ◌∷◌, ◌++◌, length, map, inl, inr, refl, ap, sym, subst, arith, Some, slice_get, MatchOption}
use Rattle.std.specs.List.{AllByRecursion, AllZip}
use Rattle.binding_terms.specs.Numbered.{AnyByRecursion, AllNumbered}
use Rattle.binding_terms.specs.Signature.{Signature, Place, slots, binders}
use Rattle.binding_terms.specs.declared.grammar.CatId.{CatId}
use Rattle.binding_terms.specs.declared.grammar.Prod.{Prod}
use Rattle.scheme_terms.specs.Forms.{Names, SchemeContext, SchemeEntry}
use Rattle.scheme_terms.specs.SchemeTree.{SchemeTree, meta, known, local, con, Values, no_values, value, Parts, no_parts, part, OccursIn, OccursInParts, StrictIn, StrictInParts}
use Rattle.scheme_terms.specs.SchemeScope.{IsScheme, AreSchemeParts, AreSchemes, AreValues, StandsWith}
use Rattle.scheme_terms.specs.declared.scheme.MetaDecl.{MetaDecl}
use Rattle.scheme_terms.specs.declared.scheme.Root.{Root}
use Rattle.scheme_terms.specs.declared.scheme.Root.TheVariants.{Closed}
use Rattle.outline_reader.specs.Plain.{PlainPortion}
use Rattle.rule_schemes.specs.Plain.{IsPlainSignature, HasPlainNames, IsPlainTheory}
use Rattle.rule_schemes.specs.Reading.{Token}
use Rattle.rule_schemes.specs.Refused.{Refuses, IsFirstUnstrict, AssumeAlike, with_rule}
use Rattle.rule_schemes.specs.Rules.{JudgmentScheme, Rule, Theory, rule_root, rule_names, IsJudgmentScheme, IsRootOf, argument_slots, IsBareName, StrictInRule, StrictInJudgment, IsAssumption, IsOneEntry, assumed_by}
use Rattle.rule_schemes.specs.Statement.{OccursInJudgment}
use Rattle.rule_schemes.specs.declared.fault.RuleFault.{RuleFault}
use Rattle.rule_schemes.specs.declared.fault.RuleFault.TheVariants as faults
use Rattle.rule_schemes.specs.declared.rule.Judgment.{Judgment}
use Rattle.judgments.specs.Bare.{IsBareTheory}
use Rattle.judgments.specs.Built.{IsGoodRule, HasRulesOf}
use Rattle.judgments.specs.Laws.{AreBareNames}
use Rattle.judgments.specs.Texts.{RuleText, rules_in}
use Rattle.judgments.specs.Theory.{IsBlockRule, IsTheoryOf}
use Rattle.judgments.specs.Written.{ReadsOnlyAs}
use Rattle.judgments.proofs.BareForms.{HasUsed, form_in_scope}
use Rattle.judgments.proofs.KeptNames.{any_at}
use Rattle.judgments.proofs.OneRule.{Says, rule_says, plain_for, kept_of, all_front}
use Rattle.judgments.proofs.RuleLemmas.{closed_names, numbered, no_context_read, over_closed}
use Rattle.judgments.proofs.StatementLemmas.{place_front, among_at}
use Rattle.binding_terms.proofs.Lists.{all_append, any_back, any_front, any_map, any_split, found_some, zip_both, zip_right}
use Rattle.rule_schemes.proofs.PlainLemmas.{closed_not_misplaced}

-- where no name has parameters, each place of a name is strict
module _ (sig : Signature) (names : Names) (plain : AllByRecursion (λ (d : MetaDecl). d.params ≡ []) names.metas) where
  bare_values : (ls : List ℕ) (ids : List CatId) (vs : Values) → ids ≡ [] → AreValues sig names ls (map (λ (p : CatId). p.0) ids) vs → vs ≡ no_values
  bare_values ls [] no_values e h = refl
  bare_values ls [] (value s vs) e h = absurd h
  bare_values ls (p ∷ ids) vs e h = (let never : p ∷ ids ≡ [] = e in cc)

  found_values : (ls : List ℕ) (c : ℕ) (vs : Values) (metas : List MetaDecl) (n : ℕ) → AllByRecursion (λ (d : MetaDecl). d.params ≡ []) metas
      → MatchOption (slice_get metas n) ⊥ (λ decl. (decl.cat.0 ≡ c) × AreValues sig names ls (map (λ p. p.0) decl.params) vs) → vs ≡ no_values
  found_values ls c vs [] n all h = absurd h
  found_values ls c vs (d ∷ metas) zero all h = bare_values ls d.params vs all.0 h.1
  found_values ls c vs (d ∷ metas) (suc n) all h = found_values ls c vs metas n all.1 h

  bare_place : (m n : ℕ) (vs : Values) → vs ≡ no_values → OccursIn m (meta n vs) → StrictIn m (meta n vs)
  bare_place m n no_values e (inl o) = (o, tt)
  bare_place m n no_values e (inr o) = absurd o
  bare_place m n (value s vs) e o = (let never : value s vs ≡ no_values = e in cc)

  mutual
    pub strict_place : (ls : List ℕ) (c m : ℕ) (s : SchemeTree) → IsScheme sig names ls c s → OccursIn m s → StrictIn m s
    strict_place ls c m (meta n vs) h o = bare_place m n vs (found_values ls c vs names.metas n plain h) o
    strict_place ls c m (known k) h o = o
    strict_place ls c m (local i) h o = o
    strict_place ls c m (con p xs) h o =
        let f = found_some (λ (prod : Prod). (prod.cat.0 ≡ c) × AreSchemeParts sig names ls (binders prod.items) (slots prod.items) xs) sig.prods p h in
        strict_parts ls (binders (f.0).items) m (slots (f.0).items) xs (f.1).1 o

    strict_parts : (ls bs : List ℕ) (m : ℕ) (ss : List Place) (xs : Parts) → AreSchemeParts sig names ls bs ss xs → OccursInParts m xs → StrictInParts m xs
    strict_parts ls bs m [] no_parts h o = o
    strict_parts ls bs m [] (part n s xs) h o = absurd h
    strict_parts ls bs m (place ∷ ss) no_parts h o = absurd h
    strict_parts ls bs m (place ∷ ss) (part n s xs) h (inl o) = inl (strict_place (Rattle.binding_terms.specs.Scope.bound bs place.binds ++ ls) place.cat m s h.1 o)
    strict_parts ls bs m (place ∷ ss) (part n s xs) h (inr o) = inr (strict_parts ls bs m ss xs h.2 o)

  pub strict_any : (ss : List Place) (ts : List SchemeTree) (m : ℕ) → AreSchemes sig names [] ss ts → AnyByRecursion (OccursIn m) ts → AnyByRecursion (StrictIn m) ts
  strict_any [] [] m h o = o
  strict_any [] (t ∷ ts) m h o = absurd h
  strict_any (s ∷ ss) [] m h o = o
  strict_any (s ∷ ss) (t ∷ ts) m h (inl o) = inl (strict_place [] s.cat m t h.0 o)
  strict_any (s ∷ ss) (t ∷ ts) m h (inr o) = inr (strict_any ss ts m h.1 o)

-- a judgment over its names stands over no context, so that each of its names is strict
pub strict_judgment : (th : Theory) (names : Names) → AllByRecursion (λ (d : MetaDecl). d.params ≡ []) names.metas → (j : JudgmentScheme) → IsJudgmentScheme th names j
    → j.context ≡ record { root = Closed; entries = [] } → (m : ℕ) → OccursInJudgment m j → StrictInJudgment m j
strict_judgment th names plain j h none m o = which (subst (λ (c : SchemeContext). AnyByRecursion (λ (e : SchemeEntry). AnyByRecursion (OccursIn m) e.args) c.entries ⊎ AnyByRecursion (OccursIn m) j.args) none o)
  where
    args : AnyByRecursion (OccursIn m) j.args → AnyByRecursion (StrictIn m) j.args
    args a =
        let f = found_some (λ (form : Judgment). IsRootOf form.ctx j.context.root × Rattle.scheme_terms.specs.SchemeScope.IsSchemeContext th.sig names j.context
        × AreSchemes th.sig names (Rattle.scheme_terms.specs.SchemeScope.entry_variables th.sig [] j.context.entries) (argument_slots form.ctx (slots form.items)) j.args) th.judgments j.judgment h in
        let schemes = subst (λ (c : SchemeContext). AreSchemes th.sig names (Rattle.scheme_terms.specs.SchemeScope.entry_variables th.sig [] c.entries) (argument_slots (f.0).ctx (slots (f.0).items)) j.args) none (f.1).2 in
        strict_any th.sig names plain (argument_slots (f.0).ctx (slots (f.0).items)) j.args m schemes a

    which : ⊥ ⊎ AnyByRecursion (OccursIn m) j.args → StrictInJudgment m j
    which (inl never) = absurd never
    which (inr a) = inr (args a)

-- what stands in one of the judgments is kept, of each of them
pub kept_each_of : (Q : ℕ → MetaDecl → Type 0) (P : ℕ → MetaDecl → Type 0) (zs : List JudgmentScheme)
    → ((m : ℕ) (d : MetaDecl) → P m d → AnyByRecursion (OccursInJudgment m) zs → Q m d) → AllByRecursion (λ (j : JudgmentScheme). (m : ℕ) (d : MetaDecl) → OccursInJudgment m j → P m d → Q m d) zs
kept_each_of Q P [] f = tt
kept_each_of Q P (z ∷ zs) f = ((λ m d o p. f m d p (inl o)), kept_each_of Q P zs (λ m d p o. f m d p (inr o)))

module _ (th : Theory) (bare : IsBareTheory th) (text : RuleText) (r : Rule) (h : IsBlockRule th.sig th.judgments text r) where
  says : Says th.sig th.judgments bare.sig bare.apart bare.judgments text r
  says = rule_says th.sig th.judgments bare.sig bare.apart bare.judgments text r h

  abbrev all : List MetaDecl
  all = r.metas ++ says.unread

  bare_scope : AreBareNames (closed_names all)
  bare_scope = plain_for th.sig th.judgments bare.sig bare.apart bare.judgments text all says.gathered

  plain_names : AllByRecursion (λ (d : MetaDecl). d.params ≡ []) r.metas
  plain_names = all_front (λ (d : MetaDecl). d.params ≡ []) r.metas says.unread bare_scope.parameters

  -- what reads, and that the rule has the metavariables that stand in it
  abbrev ReadsOver : List Token → JudgmentScheme → Type 0
  ReadsOver form j = ReadsOnlyAs th.sig th.judgments (closed_names all) form j × HasUsed th.sig th.judgments bare.sig bare.judgments all (rule_names r) j

  kept : (m : ℕ) (d : MetaDecl) → slice_get all m ≡ Some d → AnyByRecursion (OccursInJudgment m) (r.premises ++ r.conclusion ∷ []) → slice_get r.metas m ≡ Some d
  kept m d g o = kept_of th.sig th.judgments bare.sig bare.apart bare.judgments text r says m d g o

  premises : AllZip ReadsOver text.premises r.premises
  premises =
      zip_both (ReadsOnlyAs th.sig th.judgments (closed_names all)) (HasUsed th.sig th.judgments bare.sig bare.judgments all (rule_names r)) text.premises r.premises says.premises
      (kept_each_of (λ m d. slice_get r.metas m ≡ Some d) (λ m d. slice_get all m ≡ Some d) r.premises
      (λ m d g o. kept m d g (any_front (OccursInJudgment m) r.premises (r.conclusion ∷ []) o)))

  conclusion : ReadsOver text.conclusion r.conclusion
  conclusion = (says.conclusion, λ m d o g. kept m d g (any_back (OccursInJudgment m) r.premises (r.conclusion ∷ []) (inl o)))

  over_none : (form : List Token) (j : JudgmentScheme) → ReadsOver form j → j.context ≡ record { root = Closed; entries = [] }
  over_none form j k = no_context_read th.sig th.judgments bare.sig bare.apart bare.judgments (closed_names all) form j k.0

  closed_conclusion : r.conclusion.context ≡ record { root = Closed; entries = [] }
  closed_conclusion = over_none text.conclusion r.conclusion conclusion

  in_scope : (form : List Token) (j : JudgmentScheme) → ReadsOver form j → IsJudgmentScheme th (rule_names r) j
  in_scope form j k = form_in_scope th.sig th.judgments bare.sig bare.judgments th refl refl (closed_names all) (rule_names r) bare_scope form j k.0 k.1

  strict_in : (form : List Token) (j : JudgmentScheme) → ReadsOver form j → (m : ℕ) → OccursInJudgment m j → StrictInJudgment m j
  strict_in form j k m o = strict_judgment th (rule_names r) plain_names j (in_scope form j k) (over_none form j k) m o

  ordinary : IsAssumption r → ⊥
  ordinary a = subst (λ (c : SchemeContext). IsOneEntry c.root c.entries) closed_conclusion a

  strict_name : (m : ℕ) → AnyByRecursion (OccursInJudgment m) r.premises ⊎ AnyByRecursion (OccursInJudgment m) (r.conclusion ∷ []) → StrictInRule r m
  strict_name m (inl a) = inr (
    ordinary,
    inl (any_map (OccursInJudgment m) (StrictInJudgment m) r.premises
        (zip_right ReadsOver (λ (j : JudgmentScheme). OccursInJudgment m j → StrictInJudgment m j) (λ form j k. strict_in form j k m) text.premises r.premises premises) a),
  )
  strict_name m (inr (inl a)) = inr (ordinary, inr (strict_in text.conclusion r.conclusion conclusion m a))
  strict_name m (inr (inr never)) = absurd never

  stands : (m : ℕ) (d : MetaDecl) → slice_get r.metas m ≡ Some d → AnyByRecursion (OccursInJudgment m) (r.premises ++ r.conclusion ∷ [])
  stands m d g =
      any_at all (r.premises ++ r.conclusion ∷ []) m d says.gathered.differ (place_front r.metas says.unread m d g) (says.split.read d.name (among_at r.metas m d d.name g refl))

  pub good_rule : IsGoodRule th r
  good_rule = record {
    forms = record {
      conclusion = in_scope text.conclusion r.conclusion conclusion;
      premises = zip_right ReadsOver (IsJudgmentScheme th (rule_names r)) in_scope text.premises r.premises premises;
      roots = zip_right ReadsOver (λ (p : JudgmentScheme). StandsWith (rule_root th r.conclusion.judgment) p.context.root)
          (λ form p k. subst (λ (c : SchemeContext). StandsWith (rule_root th r.conclusion.judgment) c.root) (sym (over_none form p k))
          (subst (λ (root : Root). StandsWith root Closed) (sym (over_closed th.sig th.judgments bare.sig bare.apart bare.judgments r.conclusion.judgment)) tt)) text.premises r.premises premises;
      entries = zip_right ReadsOver (λ (p : JudgmentScheme). length p.context.entries ≤ 8)
          (λ form p k. subst (λ (c : SchemeContext). length c.entries ≤ 8) (sym (over_none form p k)) (let small : 0 ≤ 8 = omega arith in small)) text.premises r.premises premises;
    };
    plain = plain_names;
    closed = ap (λ (c : SchemeContext). c.root) closed_conclusion;
    bare = inl (subst (λ (c : SchemeContext). IsBareName c.root c.entries) (sym closed_conclusion) tt);
    strict = numbered (StrictInRule r) r.metas 0 (λ m d g. (let same : 0 + m ≡ m = omega arith in
        subst (StrictInRule r) (sym same) (strict_name m (any_split (OccursInJudgment m) r.premises (r.conclusion ∷ []) (stands m d g)))));
  }

-- no name of a rule of a bare theory has parameters
pub plain_rules : (th : Theory) → IsBareTheory th → (texts : List RuleText) (rs : List Rule) → AllZip (IsBlockRule th.sig th.judgments) texts rs → AllByRecursion HasPlainNames rs
plain_rules th bare texts rs h = zip_right (IsBlockRule th.sig th.judgments) HasPlainNames (λ text r k. (good_rule th bare text r k).plain) texts rs h

pub plain_more : (th more : Theory) (texts : List RuleText) → IsBareTheory th → IsPlainTheory th → HasRulesOf th texts more → IsPlainTheory more
plain_more th more texts bare plain h =
    record {
      sig = subst IsPlainSignature (sym h.sig) plain.sig;
      rules = subst (AllByRecursion HasPlainNames) (sym h.rules)
          (all_append HasPlainNames th.rules h.added plain.rules (plain_rules th bare texts h.added h.written));
    }

-- the theory of a file, where it is bare
pub plain_theory : (portions : List PlainPortion) (th : Theory) → IsTheoryOf portions th → IsBareTheory th → IsPlainTheory th
plain_theory portions th is bare =
    record { sig = bare.sig.plain; rules = plain_rules th bare (rules_in 0 portions) th.rules is.rules }

first_unstrict : (r : Rule) (n m : ℕ) (decls : List MetaDecl) → AllNumbered (λ k decl. StrictInRule r k) n decls → IsFirstUnstrict r n decls m → ⊥
first_unstrict r n m [] h f = f
first_unstrict r n m (d ∷ decls) h (inl f) = f.1 h.0
first_unstrict r n m (d ∷ decls) h (inr f) = first_unstrict r (suc n) m decls h.1 f.1

none_alike : (r s : Rule) → r.conclusion.context.root ≡ Closed → AssumeAlike s r → ⊥
none_alike r s e a = go (assumed_by s.conclusion.context.root s.conclusion.context.entries) a
  where
    go : (ps : List ℕ) → AnyByRecursion (λ (p : ℕ). AnyByRecursion (λ (q : ℕ). p ≡ q) (assumed_by r.conclusion.context.root r.conclusion.context.entries)) ps → ⊥
    go [] a = a
    go (p ∷ ps) (inl a) = subst (λ root. AnyByRecursion (λ (q : ℕ). p ≡ q) (assumed_by root r.conclusion.context.entries)) e a
    go (p ∷ ps) (inr a) = go ps a

-- nothing in such a rule speaks against it
pub never_refused : (th : Theory) (r : Rule) (fault : RuleFault) → IsGoodRule th r → Refuses th r fault → ⊥
never_refused th r faults.BadConclusion h f = f h.bare
never_refused th r (faults.NotStrict m) h f = first_unstrict r 0 m.0 r.metas h.strict f.first
never_refused th r (faults.NeedsContext j) h f = closed_not_misplaced (with_rule th r) r r.premises j.0 h.closed f.first
never_refused th r (faults.TwoAssumptions q) h f = (let k = found_some (λ (s : Rule). AssumeAlike s r) th.rules q.0 f.alike in none_alike r k.0 h.closed k.1)
never_refused th r faults.NoMemory h f = f

-- where it is not added, there was no memory
pub want_of_memory : (th : Theory) (r : Rule) (fault : RuleFault) → IsGoodRule th r → ((fault ≡ faults.NoMemory → ⊥) → Refuses th r fault) → fault ≡ faults.NoMemory
want_of_memory th r faults.BadConclusion h f = absurd (never_refused th r faults.BadConclusion h (f (λ e. cc)))
want_of_memory th r (faults.NotStrict m) h f = absurd (never_refused th r (faults.NotStrict m) h (f (λ e. cc)))
want_of_memory th r (faults.NeedsContext j) h f = absurd (never_refused th r (faults.NeedsContext j) h (f (λ e. cc)))
want_of_memory th r (faults.TwoAssumptions q) h f = absurd (never_refused th r (faults.TwoAssumptions q) h (f (λ e. cc)))
want_of_memory th r faults.NoMemory h f = refl
