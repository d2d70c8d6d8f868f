use Rattle.std.proofs.Common.{◌≡◌, ℕ, zero, suc, ◌<◌, List, [], ◌∷◌, ◌++◌, length, map, MatchOption, None, slice_get, inl, inr, refl, ap, ◌∙◌, sym, subst, arith}
use Rattle.std.specs.List.{AllByRecursion}
use Rattle.binding_terms.specs.Numbered.{AnyByRecursion, AllNumbered}
use Rattle.binding_terms.specs.Signature.{Signature, slots, binders}
use Rattle.binding_terms.specs.Scope.{IsTerm, AreParts}
use Rattle.binding_terms.specs.Tree.{Tree, con as node, no_args}
use Rattle.binding_terms.specs.declared.grammar.Prod.{Prod}
use Rattle.scheme_terms.specs.Context.{AreArguments, IsValue, scope_of}
use Rattle.scheme_terms.specs.Forms.{Names, SchemeContext, ContextValue}
use Rattle.scheme_terms.specs.SchemeScope.{AreSchemes, AreValues, IsScheme, IsRoot, IsSchemeContext, entry_variables}
use Rattle.scheme_terms.specs.SchemeTree.{SchemeTree, meta, no_values, StrictIn}
use Rattle.scheme_terms.specs.declared.scheme.MetaDecl.{MetaDecl}
use Rattle.scheme_terms.specs.declared.scheme.Root.TheVariants.{Closed}
use Rattle.rule_schemes.specs.Rules.{JudgmentScheme, JudgmentValue}
use Rattle.binding_terms.specs.View.{tree}
use Rattle.scheme_terms.specs.View.{scheme}
use Rattle.rule_schemes.specs.View.{judgment_scheme, judgment_value}
use Rattle.scheme_match.specs.Matching.{Matching, Matched, judgments, terms, JudgmentsFit, TermsFit, StrictInPair, AreStrict}
use Rattle.base_tests.proofs.matching.matched.Goals as goal

abbrev over : List MetaDecl → Names
over ms = record { root = Closed; metas = ms; knowns = [] }

is_name_in : (sig : Signature) (ns : Names) (ms : List MetaDecl) → length ms ≡ 1 → AllByRecursion (λ m. (m.cat.0 ≡ 0) × (m.params ≡ [])) ms →
    MatchOption (slice_get ms 0) ⊥ (λ decl. (decl.cat.0 ≡ 0) × AreValues sig ns [] (map (λ p. p.0) decl.params) no_values)
is_name_in sig ns [] e h = absurd (omega arith)
is_name_in sig ns (m ∷ ms) e h = (h.0.0, subst (λ ps. AreValues sig ns [] (map (λ p. p.0) ps) no_values) (sym h.0.1) tt)

is_constant_in : (sig : Signature) (scope : List ℕ) (ps : List Prod) (p : ℕ) → p < length ps →
    AllByRecursion (λ p. (p.cat.0 ≡ 0) × (slots p.items ≡ [])) ps →
    MatchOption (slice_get ps p) ⊥ (λ prod. (prod.cat.0 ≡ 0) × AreParts sig scope (binders prod.items) (slots prod.items) no_args)
is_constant_in sig scope [] p l h = absurd (omega arith)
is_constant_in sig scope (x ∷ ps) zero l h = (h.0.0, subst (λ ss. AreParts sig scope (binders x.items) ss no_args) (sym h.0.1) tt)
is_constant_in sig scope (x ∷ ps) (suc p) l h = is_constant_in sig scope ps p (omega arith) h.1

module _ (sig : Signature) (ms : List MetaDecl) (two : length sig.prods ≡ 2)
    (constants : AllByRecursion (λ p. (p.cat.0 ≡ 0) × (slots p.items ≡ [])) sig.prods) (one : length ms ≡ 1)
    (plain : AllByRecursion (λ m. (m.cat.0 ≡ 0) × (m.params ≡ [])) ms) where
  is_name : IsScheme sig (over ms) [] 0 (meta 0 no_values)
  is_name = is_name_in sig (over ms) ms one plain

  is_constant : (scope : List ℕ) (p : ℕ) → p < 2 → IsTerm sig scope 0 (node p no_args)
  is_constant scope p l = is_constant_in sig scope sig.prods p (omega arith) constants

  judgments_fit : (j : JudgmentScheme) (v : JudgmentValue) (p : ℕ) → p < 2 → j.context ≡ record { root = Closed; entries = [] } → j.args ≡ meta 0 no_values ∷ [] →
      v.context ≡ record { cat = None; entries = [] } → v.args ≡ node p no_args ∷ [] → JudgmentsFit sig ms j v
  judgments_fit j v p l ctx e vctx f = record {
    names = over ms;
    metas_are = refl;
    root = subst (λ (x : SchemeContext). IsRoot sig x.root) (sym ctx) tt;
    entries = subst (IsSchemeContext sig (over ms)) (sym ctx) refl;
    form = Closed;
    context = subst (IsValue sig Closed) (sym vctx) (refl, refl);
    places = record { cat = 0; binds = [] } ∷ [];
    schemes = subst (λ (x : SchemeContext). AreSchemes sig (over ms) (entry_variables sig [] x.entries) (record { cat = 0; binds = [] } ∷ []) j.args) (sym ctx)
        (subst (AreSchemes sig (over ms) [] (record { cat = 0; binds = [] } ∷ [])) (sym e) (is_name, tt));
    values = subst (AreArguments sig (scope_of sig v.context) (record { cat = 0; binds = [] } ∷ [])) (sym f) (is_constant (scope_of sig v.context) p l, tt);
  }

  terms_fit : (root : ContextValue) (s : SchemeTree) (t : Tree) (p : ℕ) → p < 2 → s ≡ meta 0 no_values → t ≡ node p no_args → TermsFit sig ms root 0 s t
  terms_fit root s t p l e f = record {
    names = over ms;
    metas_are = refl;
    locals = [];
    number = refl;
    cat = 0;
    scheme_fits = subst (IsScheme sig (over ms) [] 0) (sym e) is_name;
    value_fits = subst (IsTerm sig (scope_of sig root) 0) (sym f) (is_constant (scope_of sig root) p l);
  }

strict_in : (ms : List MetaDecl) (j : JudgmentScheme) (v : JudgmentValue) (ps : List Matched) → length ms ≡ 1 → j.args ≡ meta 0 no_values ∷ [] →
    AllNumbered (λ n decl. AnyByRecursion (StrictInPair n) (judgments j v ∷ ps)) 0 ms
strict_in [] j v ps e f = tt
strict_in (m ∷ []) j v ps e f = (inl (inr (subst (AnyByRecursion (StrictIn 0)) (sym f) (inl (refl, tt)))), tt)
strict_in (m ∷ n ∷ ms) j v ps e f = absurd (omega arith)

module _ (m : Matching) (sig : Signature) (ms : List MetaDecl) (sig_is : m.sig ≡ sig) (metas_are : m.metas ≡ ms) where
  judgments_in : (j : JudgmentScheme) (v : JudgmentValue) → JudgmentsFit sig ms j v → JudgmentsFit m.sig m.metas j v
  judgments_in j v h =
      subst (λ s. JudgmentsFit s m.metas j v) (sym sig_is) (subst (λ ns. JudgmentsFit sig ns j v) (sym metas_are) h)

  terms_in : (root : ContextValue) (s : SchemeTree) (t : Tree) → TermsFit sig ms root 0 s t → TermsFit m.sig m.metas root 0 s t
  terms_in root s t h =
      subst (λ g. TermsFit g m.metas root 0 s t) (sym sig_is) (subst (λ ns. TermsFit sig ns root 0 s t) (sym metas_are) h)

strict_of : (m : Matching) (ms : List MetaDecl) (ps : List Matched) → m.metas ≡ ms → m.pairs ≡ ps →
    AllNumbered (λ n decl. AnyByRecursion (StrictInPair n) ps) 0 ms → AreStrict m
strict_of m ms ps e f h =
    subst (λ qs. AllNumbered (λ n decl. AnyByRecursion (StrictInPair n) qs) 0 m.metas) (sym f)
    (subst (λ ns. AllNumbered (λ n decl. AnyByRecursion (StrictInPair n) ps) 0 ns) (sym e) h)

pub add-requires : goal.add-requires
add-requires c same =
    judgments_in c.in_ok-matcher.matcher c.args.sig.now c.in_ok-metas.metas (ap (λ m. m.sig) c.in_ok-matcher.ensures)
    (ap (λ m. m.metas) c.in_ok-matcher.ensures ∙ c.as_slice.ensures) _ _
    (judgments_fit c.args.sig.now c.in_ok-metas.metas c.requires.sig.0 c.requires.sig.1 c.in_ok-metas.ensures.0 c.in_ok-metas.ensures.1 _ _
    c.args.first c.requires.first c.in_ok-pattern.ensures.0 c.in_ok-pattern.ensures.1 c.in_ok-target.ensures.0 c.in_ok-target.ensures.1)

pub add_term-requires : goal.add_term-requires
add_term-requires c =
    terms_in c.add.new.self c.args.sig.now c.in_ok-metas.metas (ap (λ m. m.sig) c.in_ok-add.ensures.ok ∙ ap (λ m. m.sig) c.in_ok-matcher.ensures)
    (ap (λ m. m.metas) c.in_ok-add.ensures.ok ∙ ap (λ m. m.metas) c.in_ok-matcher.ensures ∙ c.as_slice.ensures) _ _ _
    (terms_fit c.args.sig.now c.in_ok-metas.metas c.requires.sig.0 c.requires.sig.1 c.in_ok-metas.ensures.0 c.in_ok-metas.ensures.1 _ _ _
    c.args.second c.requires.second c.name-name.ensures c.in_ok-term.ensures)

pub finish-requires : goal.finish-requires
finish-requires c =
    let first = ap (λ m. m.pairs) c.in_ok-matcher.ensures in
    let second = ap (λ m. m.pairs) c.in_ok-add.ensures.ok in
    let third = ap (λ m. m.pairs) c.in_ok-add_term.ensures.ok in
    strict_of c.add_term.new.self c.in_ok-metas.metas _
    (ap (λ m. m.metas) c.in_ok-add_term.ensures.ok ∙ ap (λ m. m.metas) c.in_ok-add.ensures.ok ∙ ap (λ m. m.metas) c.in_ok-matcher.ensures ∙ c.as_slice.ensures)
    (third ∙ ap (λ ps. ps ++ terms 0 (scheme c.name-name.result) (tree c.in_ok-term.term) ∷ []) (second
    ∙ ap (λ ps. ps ++ judgments (judgment_scheme c.in_ok-pattern.pattern) (judgment_value c.in_ok-target.target) ∷ []) first))
    (strict_in c.in_ok-metas.metas (judgment_scheme c.in_ok-pattern.pattern) (judgment_value c.in_ok-target.target)
    (terms 0 (scheme c.name-name.result) (tree c.in_ok-term.term) ∷ []) c.in_ok-metas.ensures.0 c.in_ok-pattern.ensures.1)
