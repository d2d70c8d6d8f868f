-- The instance of a form of a rule is a judgment.
use Rattle.std.proofs.Common.{◌≡◌, ℕ, ◌+◌, List, [], ◌∷◌, ◌++◌, length, map, Some, None, slice_get, refl, ap, ◌∙◌, sym, subst, append_assoc, length-append, arith}
use Rattle.std.specs.Prelude.{Option, MatchOption, unwrap_or, option_map, count_by, ◌==◌}
use Rattle.std.specs.List.{AllByRecursion}
use Rattle.binding_terms.specs.Tree.{Tree, var, con, Args, no_args, arg}
use Rattle.binding_terms.specs.Signature.{Signature, Place, slots, binders, Fits, IsContext}
use Rattle.binding_terms.specs.Scope.{bound, IsTerm, AreParts}
use Rattle.binding_terms.specs.declared.grammar.CatId.{CatId}
use Rattle.binding_terms.proofs.Lists.{all_at, match_map, match_some, match_from, append_within}
use Rattle.scheme_terms.specs.SchemeTree.{SchemeTree}
use Rattle.scheme_terms.specs.Forms.{SchemeEntry, SchemeContext, GroundEntry, Names, ContextValue, Instance}
use Rattle.scheme_terms.specs.Context.{AreArguments, IsEntry, AreEntries, IsValue, scope_of, scope_after, variables}
use Rattle.scheme_terms.specs.Instance.{instance_of, entries_instance, context_instance, root_entries, FitsScope}
use Rattle.scheme_terms.specs.SchemeScope.{AreSchemes, AreSchemeEntries, IsSchemeContext, entry_variables, StandsWith}
use Rattle.scheme_terms.specs.declared.scheme.Root.{Root}
use Rattle.scheme_terms.specs.declared.scheme.Root.TheVariants.{Closed, Empty, Whole}
use Rattle.scheme_terms.proofs.InstanceScopes.{instance_keeps_scope_of_metas}
use Rattle.scheme_terms.proofs.SchemeFacts.{length_bound}
use Rattle.scheme_terms.proofs.Values.{entry_adds_one}
use Rattle.rule_schemes.specs.declared.rule.Judgment.{Judgment}
use Rattle.rule_schemes.specs.Rules.{JudgmentScheme, JudgmentValue, Rule, Theory, IsSystemSoFar, JudgmentFits, IsJudgment, IsJudgmentScheme, IsInstance, IsBareName, IsBelow, AreBelow, AreClosed, IsRootOf, argument_slots, root_of, rule_root, rule_names}
use Rattle.rule_schemes.specs.Derivation.{judgment, Subtrees, no_more, subtree, AreInstances}
use Rattle.scheme_match.proofs.Entries.{AddOne, entries_long, entries_scope, scope_append}
use Rattle.derivation_check.specs.Parts.{listed}

-- a term whose free variables are below the length of the inner scope does without the outer one
module _ (sig : Signature) (outer : List ℕ) where
  mutual
    inner_term : (inner : List ℕ) (c n : ℕ) (t : Tree) → length inner ≡ n → IsTerm sig (inner ++ outer) c t → IsBelow n t → IsTerm sig inner c t
    inner_term inner c n (var i) e h below = sym (append_within inner outer i (omega (arith, below, e))) ∙ h
    inner_term inner c n (con p xs) e h below =
        let prod = match_some (slice_get sig.prods p) _ h in
        match_from (slice_get sig.prods p) (λ q. (q.cat.0 ≡ c) × AreParts sig inner (binders q.items) (slots q.items) xs) prod.0 prod.1
        (prod.2.0, inner_parts inner (binders prod.0.items) (slots prod.0.items) n xs e prod.2.1 below)

    inner_parts : (inner bs : List ℕ) (ss : List Place) (n : ℕ) (xs : Args) → length inner ≡ n → AreParts sig (inner ++ outer) bs ss xs → AreBelow n xs → AreParts sig inner bs ss xs
    inner_parts inner bs [] n no_args e h below = tt
    inner_parts inner bs [] n (arg m t xs) e h below = h
    inner_parts inner bs (s ∷ ss) n no_args e h below = h
    inner_parts inner bs (s ∷ ss) n (arg m t xs) e h below = (
      h.0,
      inner_term (bound bs s.binds ++ inner) s.cat (n + m) t (omega (arith, length-append (bound bs s.binds) inner, length_bound bs s.binds, h.0, e))
          (subst (λ sc. IsTerm sig sc s.cat t) (sym (append_assoc (bound bs s.binds) inner outer)) h.1) below.0,
      inner_parts inner bs ss n xs e h.2 below.1,
    )

closed_terms : (sig : Signature) (scope : List ℕ) (ss : List Place) (ts : List Tree) → AreArguments sig scope ss ts → AllByRecursion (IsBelow 0) ts → AreArguments sig [] ss ts
closed_terms sig scope [] [] h below = tt
closed_terms sig scope [] (t ∷ ts) h below = h
closed_terms sig scope (s ∷ ss) [] h below = h
closed_terms sig scope (s ∷ ss) (t ∷ ts) h below = (inner_term sig scope [] s.cat 0 t refl h.0 below.0, closed_terms sig scope ss ts h.1 below.1)

module _ (sig : Signature) (names : Names) (inst : Instance) (none : names.knowns ≡ []) (fits : FitsScope sig names inst) where
  pub instance_arguments : (ls : List ℕ) (n : ℕ) (ss : List Place) (ts : List SchemeTree) → length ls ≡ n → AreSchemes sig names ls ss ts →
      AreArguments sig (ls ++ scope_of sig inst.root) ss (map (instance_of inst n) ts)
  instance_arguments ls n [] [] e h = tt
  instance_arguments ls n [] (t ∷ ts) e h = h
  instance_arguments ls n (s ∷ ss) [] e h = h
  instance_arguments ls n (s ∷ ss) (t ∷ ts) e h = (
    subst (λ k. IsTerm sig (ls ++ scope_of sig inst.root) s.cat (instance_of inst k t)) e (instance_keeps_scope_of_metas sig names inst ls s.cat t none fits h.0),
    instance_arguments ls n ss ts e h.1,
  )

  module _ (sig_fits : Fits sig) (c : ℕ) (context : IsContext sig c) where
    instance_entry : (ls : List ℕ) (n : ℕ) (e : SchemeEntry) → length ls ≡ n →
        MatchOption (slice_get sig.prods e.prod) ⊥ (λ prod. (prod.cat.0 ≡ c) × (binders prod.items ≡ [] → ⊥) × AreSchemes sig names ls (Rattle.std.specs.Prelude.drop 1 (slots prod.items)) e.args) →
        IsEntry sig c (ls ++ scope_of sig inst.root) (record { prod = e.prod; args = map (instance_of inst n) e.args })
    instance_entry ls n e long h = match_map (slice_get sig.prods e.prod) _ _ (λ prod k. (k.0, k.1, instance_arguments ls n _ e.args long k.2)) h

    pub instance_entries : (ls : List ℕ) (n : ℕ) (es : List SchemeEntry) → length ls ≡ n → AreSchemeEntries sig names ls c es →
        AreEntries sig c (ls ++ scope_of sig inst.root) (entries_instance inst n es) × AddOne sig es
    instance_entries ls n [] long h = (tt, tt)
    instance_entries ls n (e ∷ es) long h =
        let here = instance_entry ls n e long h.0 in
        let one : length (variables sig e.prod) ≡ 1 = entry_adds_one sig sig_fits c context (ls ++ scope_of sig inst.root) (record { prod = e.prod; args = map (instance_of inst n) e.args }) here in
        let rest = instance_entries (variables sig e.prod ++ ls) (n + 1) es (omega (arith, length-append (variables sig e.prod) ls, one, long)) h.1 in (
          (here, subst (λ sc. AreEntries sig c sc (entries_instance inst (n + 1) es)) (append_assoc (variables sig e.prod) ls (scope_of sig inst.root)) rest.0),
          (one, rest.1),
        )

entries_joined : (sig : Signature) (c : ℕ) (scope : List ℕ) (xs ys : List GroundEntry) → AreEntries sig c scope xs → AreEntries sig c (scope_after sig scope xs) ys → AreEntries sig c scope (xs ++ ys)
entries_joined sig c scope [] ys h k = k
entries_joined sig c scope (x ∷ xs) ys h k = (h.0, entries_joined sig c (variables sig x.prod ++ scope) xs ys h.1 k)

-- a category of which a form has the root is one of contexts
context_of : (sig : Signature) (form : Judgment) (c : CatId) → form.ctx ≡ Some c → JudgmentFits sig form → IsContext sig c.0
context_of sig form c e fits =
    (subst (λ (o : Option CatId). MatchOption o (Unit {0}) (λ d. IsContext sig d.0 × (count_by (λ s. s.cat == d.0) (slots form.items) ≡ 1))) e fits.assumed).0

-- the context of a form over a root's value
module _ (sig : Signature) (names : Names) (inst : Instance) (none : names.knowns ≡ []) (fits : FitsScope sig names inst) (sig_fits : Fits sig) where
  record Over (c : ℕ) (ctx : SchemeContext) : Type 0 where
    entries : AreEntries sig c [] (context_instance inst ctx).entries
    scope : scope_of sig (context_instance inst ctx) ≡ entry_variables sig [] ctx.entries ++ scope_of sig inst.root
    long : length (entry_variables sig [] ctx.entries) ≡ length ctx.entries

  over : (c : ℕ) → IsContext sig c → (ctx : SchemeContext) → AreSchemeEntries sig names [] c ctx.entries →
      AreEntries sig c [] (root_entries inst ctx.root) → scope_after sig [] (root_entries inst ctx.root) ≡ scope_of sig inst.root → Over c ctx
  over c context ctx schemes before same =
      let all = instance_entries sig names inst none fits sig_fits c context [] 0 ctx.entries refl schemes in
      record {
        entries = entries_joined sig c [] (root_entries inst ctx.root) (entries_instance inst 0 ctx.entries) before
            (subst (λ sc. AreEntries sig c sc (entries_instance inst 0 ctx.entries)) (sym same) all.0);
        scope = scope_append sig [] (root_entries inst ctx.root) (entries_instance inst 0 ctx.entries)
            ∙ ap (λ sc. scope_after sig sc (entries_instance inst 0 ctx.entries)) same
            ∙ entries_scope sig names c (scope_of sig inst.root) inst [] 0 ctx.entries;
        long = entries_long sig names c (scope_of sig inst.root) inst [] 0 ctx.entries refl all.1 ∙ (let e : 0 + length ctx.entries ≡ length ctx.entries = omega arith in e);
      }

  -- the arguments of a form over such a context
  over_arguments : (c : ℕ) (ctx : SchemeContext) → Over c ctx → (ss : List Place) (ts : List SchemeTree) → AreSchemes sig names (entry_variables sig [] ctx.entries) ss ts →
      AreArguments sig (scope_of sig (context_instance inst ctx)) ss (map (instance_of inst (length ctx.entries)) ts)
  over_arguments c ctx o ss ts h =
      subst (λ sc. AreArguments sig sc ss (map (instance_of inst (length ctx.entries)) ts)) (sym o.scope)
      (instance_arguments sig names inst none fits (entry_variables sig [] ctx.entries) (length ctx.entries) ss ts o.long h)

-- what is known of the root of an ordinary rule: it is that of its judgment, and no empty form
bare_of : (ctx : Option CatId) (root : Root) (es : List SchemeEntry) → IsBareName root es → IsRootOf ctx root → (d : CatId) → StandsWith (root_of ctx) (Whole d) → (e : CatId) × (root ≡ Whole e) × (e.0 ≡ d.0)
bare_of None Closed [] bare is d stands = absurd stands
bare_of (Some c) (Whole e) [] bare is d stands = (e, refl, is ∙ stands)
bare_of (Some c) Closed [] bare is d stands = absurd is
bare_of None (Whole e) [] bare is d stands = absurd is
bare_of ctx (Empty e) es bare is d stands = absurd bare
bare_of ctx Closed (e ∷ es) bare is d stands = absurd bare
bare_of ctx (Whole f) (e ∷ es) bare is d stands = absurd bare

closed_of : (ctx : Option CatId) (root : Root) (es : List SchemeEntry) → IsBareName root es → IsRootOf ctx root → (d : CatId) → StandsWith (root_of ctx) (Empty d) → root ≡ Closed
closed_of None Closed [] bare is d stands = refl
closed_of (Some c) root es bare is d stands = absurd stands
closed_of None (Whole e) [] bare is d stands = absurd is
closed_of None (Empty e) es bare is d stands = absurd bare
closed_of None Closed (e ∷ es) bare is d stands = absurd bare
closed_of None (Whole f) (e ∷ es) bare is d stands = absurd bare

-- the root over which the rules of the conclusion's judgment stand
pub rule_root_is : (th : Theory) (n : ℕ) (form : Judgment) → slice_get th.judgments n ≡ Some form → rule_root th n ≡ root_of form.ctx
rule_root_is th n form e = ap (λ o. unwrap_or (option_map (λ (f : Judgment). root_of f.ctx) o) Closed) e

closed_scope : (sig : Signature) (v : ContextValue) → IsValue sig Closed v → scope_of sig v ≡ []
closed_scope sig v h = ap (scope_after sig []) h.1

root_whole : (sig : Signature) (ctx : Option CatId) (d : CatId) (v : ContextValue) → IsRootOf ctx (Whole d) → v.cat ≡ Some d.0 → AreEntries sig d.0 [] v.entries → IsValue sig (root_of ctx) v
root_whole sig None d v is cat entries = absurd is
root_whole sig (Some c) d v is cat entries = (cat ∙ ap (λ n. Some n) is, subst (λ n. AreEntries sig n [] v.entries) is entries)

root_empty : (sig : Signature) (ctx : Option CatId) (d : CatId) (v : ContextValue) → IsRootOf ctx (Empty d) → v.cat ≡ Some d.0 → AreEntries sig d.0 [] v.entries → IsValue sig (root_of ctx) v
root_empty sig None d v is cat entries = absurd is
root_empty sig (Some c) d v is cat entries = (cat ∙ ap (λ n. Some n) is, subst (λ n. AreEntries sig n [] v.entries) is entries)

root_closed : (sig : Signature) (ctx : Option CatId) (v : ContextValue) → IsRootOf ctx Closed → v.cat ≡ None → v.entries ≡ [] → IsValue sig (root_of ctx) v
root_closed sig None v is cat entries = (cat, entries)
root_closed sig (Some c) v is cat entries = absurd is

pub of_empty : (sig : Signature) (ctx : Option CatId) (d : CatId) (form : Judgment) → form.ctx ≡ ctx → IsRootOf ctx (Empty d) → JudgmentFits sig form → IsContext sig d.0
of_empty sig None d form e is fits = absurd is
of_empty sig (Some c) d form e is fits = subst (IsContext sig) (sym is) (context_of sig form c e fits)

pub of_whole : (sig : Signature) (ctx : Option CatId) (d : CatId) (form : Judgment) → form.ctx ≡ ctx → IsRootOf ctx (Whole d) → JudgmentFits sig form → IsContext sig d.0
of_whole sig None d form e is fits = absurd is
of_whole sig (Some c) d form e is fits = subst (IsContext sig) (sym is) (context_of sig form c e fits)

module _ (th : Theory) (so_far : IsSystemSoFar th) (r : Rule) (inst : Instance) (scope : FitsScope th.sig (rule_names r) inst)
    (bare : IsBareName r.conclusion.context.root r.conclusion.context.entries) (own : Judgment) (own_is : slice_get th.judgments r.conclusion.judgment ≡ Some own)
    (own_root : IsRootOf own.ctx r.conclusion.context.root) where
  -- the parts of what is a judgment, for the instance of a premise
  abbrev Judged : Judgment → JudgmentScheme → List Tree → Type 0
  Judged form p args =
      IsValue th.sig (root_of form.ctx) (context_instance inst p.context)
      × AreArguments th.sig (scope_of th.sig (context_instance inst p.context)) (argument_slots form.ctx (slots form.items)) args

  premise_judged : (form : Judgment) (root : Root) (es : List SchemeEntry) (args : List SchemeTree) → JudgmentFits th.sig form → IsRootOf form.ctx root →
      IsSchemeContext th.sig (rule_names r) (record { root = root; entries = es }) →
      AreSchemes th.sig (rule_names r) (entry_variables th.sig [] es) (argument_slots form.ctx (slots form.items)) args →
      StandsWith (root_of own.ctx) root → AreClosed root (map (instance_of inst (length es)) args) →
      Judged form (record { judgment = 0; context = record { root = root; entries = es }; args = args }) (map (instance_of inst (length es)) args)
  premise_judged form Closed es args fits is entries schemes stands closed =
      let instances : entries_instance inst 0 es ≡ [] = ap (entries_instance inst 0) entries in
      let flat = subst (λ (xs : List SchemeEntry). AreSchemes th.sig (rule_names r) (entry_variables th.sig [] xs) (argument_slots form.ctx (slots form.items)) args) entries schemes in
      let none : length es ≡ 0 = ap length entries in
      let typed = instance_arguments th.sig (rule_names r) inst refl scope [] (length es) (argument_slots form.ctx (slots form.items)) args (sym none) flat in (
        root_closed th.sig form.ctx (context_instance inst (record { root = Closed; entries = es })) is refl instances,
        subst (λ (xs : List GroundEntry). AreArguments th.sig (scope_after th.sig [] xs) (argument_slots form.ctx (slots form.items)) (map (instance_of inst (length es)) args)) (sym instances)
            (closed_terms th.sig (scope_of th.sig inst.root) (argument_slots form.ctx (slots form.items)) (map (instance_of inst (length es)) args) typed closed),
      )
  premise_judged form (Empty d) es args fits is entries schemes stands closed =
      let closed_root = closed_of own.ctx r.conclusion.context.root r.conclusion.context.entries bare own_root d stands in
      let value = subst (λ (root : Root). IsValue th.sig root inst.root) closed_root scope.root in
      let o = over th.sig (rule_names r) inst refl scope so_far.sig d.0 (of_empty th.sig form.ctx d form refl is fits) (record { root = Empty d; entries = es }) entries tt (sym (closed_scope th.sig inst.root value)) in (
        root_empty th.sig form.ctx d (context_instance inst (record { root = Empty d; entries = es })) is refl o.entries,
        over_arguments th.sig (rule_names r) inst refl scope so_far.sig d.0 (record { root = Empty d; entries = es }) o (argument_slots form.ctx (slots form.items)) args schemes,
      )
  premise_judged form (Whole d) es args fits is entries schemes stands closed =
      let whole = bare_of own.ctx r.conclusion.context.root r.conclusion.context.entries bare own_root d stands in
      let value = subst (λ (root : Root). IsValue th.sig root inst.root) whole.1 scope.root in
      let before = subst (λ n. AreEntries th.sig n [] inst.root.entries) whole.2 value.1 in
      let o = over th.sig (rule_names r) inst refl scope so_far.sig d.0 (of_whole th.sig form.ctx d form refl is fits) (record { root = Whole d; entries = es }) entries before refl in (
        root_whole th.sig form.ctx d (context_instance inst (record { root = Whole d; entries = es })) is refl o.entries,
        over_arguments th.sig (rule_names r) inst refl scope so_far.sig d.0 (record { root = Whole d; entries = es }) o (argument_slots form.ctx (slots form.items)) args schemes,
      )

  pub premise_judgment : (p : JudgmentScheme) (v : JudgmentValue) → IsJudgmentScheme th (rule_names r) p → StandsWith (root_of own.ctx) p.context.root → IsInstance inst p v → IsJudgment th v
  premise_judgment p v form stands is =
      let closed = subst (λ (w : JudgmentValue). AreClosed p.context.root w.args) (sym is.same) is.closed in
      let at = match_some (slice_get th.judgments p.judgment) _ form in
      let fits = all_at (JudgmentFits th.sig) th.judgments p.judgment at.0 so_far.judgments at.1 in
      let parts = premise_judged at.0 p.context.root p.context.entries p.args fits at.2.0 at.2.1 at.2.2 stands closed in
      subst (IsJudgment th) is.same
      (match_from (slice_get th.judgments p.judgment)
      (λ f. IsValue th.sig (root_of f.ctx) (context_instance inst p.context)
      × AreArguments th.sig (scope_of th.sig (context_instance inst p.context)) (argument_slots f.ctx (slots f.items)) (map (instance_of inst (length p.context.entries)) p.args))
      at.0 at.1 parts)

  pub premise_judgments : (ps : List JudgmentScheme) (ds : Subtrees) → AllByRecursion (IsJudgmentScheme th (rule_names r)) ps → AllByRecursion (λ p. StandsWith (root_of own.ctx) p.context.root) ps →
      AreInstances inst ps ds → AllByRecursion (λ d. IsJudgment th (judgment d)) (listed ds)
  premise_judgments [] no_more forms stand h = tt
  premise_judgments [] (subtree d ds) forms stand h = absurd h
  premise_judgments (p ∷ ps) no_more forms stand h = absurd h
  premise_judgments (p ∷ ps) (subtree d ds) forms stand h =
      (premise_judgment p (judgment d) forms.0 stand.0 h.0, premise_judgments ps ds forms.1 stand.1 h.1)
