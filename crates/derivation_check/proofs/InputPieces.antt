-- The pieces of inputs are typed, and hold the strict occurrences of what the inputs settle.
use Rattle.std.proofs.Common.{◌≡◌, ℕ, ◌+◌, List, [], ◌∷◌, ◌++◌, length, map, take, Some, None, slice_get, inl, inr, refl, ap, ◌∙◌, sym, subst, arith}
use Rattle.std.specs.Prelude.{Option, MatchOption}
use Rattle.std.specs.List.{AllByRecursion, AllZip}
use Rattle.std.proofs.lemmas.List.{take-append-drop}
use Rattle.std.proofs.lemmas.Option.{same_Some}
use Rattle.binding_terms.specs.Numbered.{AnyByRecursion}
use Rattle.binding_terms.specs.Tree.{Tree}
use Rattle.binding_terms.specs.Signature.{Signature, Fits, slots}
use Rattle.binding_terms.specs.Scope.{IsTerm}
use Rattle.binding_terms.specs.declared.grammar.CatId.{CatId}
use Rattle.binding_terms.proofs.Lists.{all_append, any_front, any_back, match_same, match_some, match_from}
use Rattle.scheme_terms.specs.SchemeTree.{meta, no_values, StrictIn}
use Rattle.scheme_terms.specs.Forms.{SchemeEntry, GroundEntry, Names, ContextValue}
use Rattle.scheme_terms.specs.Context.{AreEntries, IsValue, AreArguments, scope_of, scope_after}
use Rattle.scheme_terms.specs.Instance.{root_cat}
use Rattle.scheme_terms.specs.SchemeScope.{IsRoot, IsSchemeContext, AreSchemes, AreValues, entry_variables}
use Rattle.scheme_terms.specs.declared.scheme.Root.{Root}
use Rattle.scheme_terms.specs.declared.scheme.Root.TheVariants.{Closed, Empty, Whole}
use Rattle.scheme_match.proofs.Entries.{entries_behind, scope_append}
use Rattle.rule_schemes.specs.Rules.{JudgmentScheme, JudgmentValue, Theory, IsSystemSoFar, IsJudgment, IsJudgmentScheme, IsRootOf, StrictInJudgment, argument_slots, root_of}
use Rattle.rule_schemes.specs.declared.rule.Judgment.{Judgment}
use Rattle.rule_schemes.specs.Statement.{StatementInput, given, syntax_input, Theorem, IsStatementInput}
use Rattle.derivation_check.specs.Fitting.{GivenForm, judged, written, arg_pieces, entry_pieces, entries_below, explicit_of, judgment_pieces, EntriesAlike, AreAlike, InputAlike, all_pieces, IsSettled}
use Rattle.derivation_check.proofs.NodeLemmas.{form_of, form_root}
use Rattle.derivation_check.proofs.PieceFacts.{IsTyped, entered, args_typed, args_strict, entries_strict}

entries_of : (sig : Signature) (own : Root) (v : ContextValue) (c : ℕ) → IsValue sig own v → Some c ≡ v.cat → AreEntries sig c [] v.entries
entries_of sig Closed v c is e = absurd (let no : Some c ≡ None = e ∙ is.0 in cc)
entries_of sig (Empty d) v c is e = subst (AreEntries sig c []) (sym is.1) tt
entries_of sig (Whole d) v c is e = subst (λ k. AreEntries sig k [] v.entries) (let same : d.0 ≡ c = same_Some d.0 c (sym is.0 ∙ sym e) in same) is.1

none_alike : (gs : List GroundEntry) → EntriesAlike [] gs → gs ≡ []
none_alike [] h = refl
none_alike (g ∷ gs) h = absurd h

-- a context that is alike: the pieces of its explicit entries, and its scope
record Around (sig : Signature) (names : Names) (beyond : List ℕ) (es : List SchemeEntry) (gs : List GroundEntry) (w : ContextValue) : Type 0 where
  outer : List ℕ
  wide : (i c : ℕ) → slice_get outer i ≡ Some c → slice_get beyond i ≡ Some c
  typed : AllByRecursion (IsTyped sig names beyond) (entry_pieces 0 es gs)
  scope : scope_of sig w ≡ entry_variables sig [] es ++ outer
  long : length (entry_variables sig [] es) ≡ length es

around : (sig : Signature) → Fits sig → (names : Names) (v : ContextValue) (root own : Root) (es : List SchemeEntry) (w : ContextValue) → IsRoot sig root → IsSchemeContext sig names (record { root = root; entries = es }) →
    IsValue sig own w → root_cat root ≡ w.cat → take (length (entries_below v root)) w.entries ≡ entries_below v root → EntriesAlike es (explicit_of v root w) → Around sig names (scope_of sig v) es (explicit_of v root w) w
around sig fits names v Closed own es w is none value cat before alike =
    let nothing : w.entries ≡ [] = none_alike w.entries (subst (λ (xs : List SchemeEntry). EntriesAlike xs w.entries) none alike) in
    record {
      outer = [];
      wide = λ i c e. absurd (let no : ⊥ = cc in no);
      typed = subst (λ (xs : List SchemeEntry). AllByRecursion (IsTyped sig names (scope_of sig v)) (entry_pieces 0 xs w.entries)) (sym none) tt;
      scope = ap (scope_after sig []) nothing ∙ ap (λ (xs : List SchemeEntry). entry_variables sig [] xs ++ []) (sym none);
      long = ap (λ (xs : List SchemeEntry). length (entry_variables sig [] xs)) none ∙ ap length (sym none);
    }
around sig fits names v (Empty c) own es w is schemes value cat before alike =
    let all = entered sig names [] (scope_of sig v) (λ i k e. absurd (let no : ⊥ = cc in no)) fits c.0 is [] 0 es w.entries refl schemes (entries_of sig own w c.0 value cat) alike in
    record { outer = []; wide = λ i k e. absurd (let no : ⊥ = cc in no); typed = all.typed; scope = all.scope; long = all.long ∙ (let e : 0 + length es ≡ length es = omega arith in e) }
around sig fits names v (Whole c) own es w is schemes value cat before alike =
    let whole : v.entries ++ explicit_of v (Whole c) w ≡ w.entries = ap (λ xs. xs ++ explicit_of v (Whole c) w) (sym before) ∙ take-append-drop (length v.entries) w.entries in
    let behind = entries_behind sig c.0 [] v.entries (explicit_of v (Whole c) w) (subst (AreEntries sig c.0 []) (sym whole) (entries_of sig own w c.0 value cat)) in
    let all = entered sig names (scope_of sig v) (scope_of sig v) (λ i k e. e) fits c.0 is [] 0 es (explicit_of v (Whole c) w) refl schemes behind alike in
    record {
      outer = scope_of sig v;
      wide = λ i k e. e;
      typed = all.typed;
      scope = ap (scope_after sig []) (sym whole) ∙ scope_append sig [] v.entries (explicit_of v (Whole c) w) ∙ all.scope;
      long = all.long ∙ (let e : 0 + length es ≡ length es = omega arith in e);
    }

joined : {A : Type 0} (P Q : A → Type 0) (o : Option A) → MatchOption o ⊥ P → MatchOption o ⊥ Q → MatchOption o ⊥ (λ x. P x × Q x)
joined P Q None h k = h
joined P Q (Some x) h k = (h, k)

-- an input over these names
abbrev pub IsInputOf : Theory → Names → StatementInput → Type 0
IsInputOf th names (given j) = IsJudgmentScheme th names j
IsInputOf th names (syntax_input m) = MatchOption (slice_get names.metas m) ⊥ (λ decl. decl.params ≡ [])

pub inputs_of : (th : Theory) (st : Theorem) (is : List StatementInput) → AllByRecursion (IsStatementInput th st) is → AllByRecursion (IsInputOf th st.scope) is
inputs_of th st [] h = tt
inputs_of th st (given j ∷ is) h = (h.0.0, inputs_of th st is h.1)
inputs_of th st (syntax_input m ∷ is) h = (h.0, inputs_of th st is h.1)

module _ (th : Theory) (so_far : IsSystemSoFar th) (names : Names) (v : ContextValue) where
  judgment_typed : (j : JudgmentScheme) (w : JudgmentValue) → IsJudgmentScheme th names j → IsJudgment th w → AreAlike v j w → AllByRecursion (IsTyped th.sig names (scope_of th.sig v)) (judgment_pieces v j w)
  judgment_typed j w form judgment alike =
      let there = subst (λ n. MatchOption (slice_get th.judgments n) ⊥ (λ (f : Judgment). IsRootOf f.ctx j.context.root × IsSchemeContext th.sig names j.context
      × AreSchemes th.sig names (entry_variables th.sig [] j.context.entries) (argument_slots f.ctx (slots f.items)) j.args)) alike.judgment form in
      let both = match_same (slice_get th.judgments w.judgment) there judgment in
      let own = form_of th so_far names j form in
      let all = around th.sig so_far.sig names v j.context.root (root_of both.0.ctx) j.context.entries w.context (form_root th so_far own.0 j.context.root own.3 own.2) both.1.1 both.2.0 alike.category alike.before alike.explicit in
      all_append (IsTyped th.sig names (scope_of th.sig v)) (entry_pieces 0 j.context.entries (explicit_of v j.context.root w.context)) (arg_pieces (length j.context.entries) j.args w.args) all.typed
      (args_typed th.sig names all.outer (scope_of th.sig v) all.wide (entry_variables th.sig [] j.context.entries) (length j.context.entries) (argument_slots both.0.ctx (slots both.0.items)) j.args w.args all.long both.1.2
      (subst (λ sc. AreArguments th.sig sc (argument_slots both.0.ctx (slots both.0.items)) w.args) all.scope both.2.1))

  judgment_strict : (m : ℕ) (j : JudgmentScheme) (w : JudgmentValue) → AreAlike v j w → StrictInJudgment m j → AnyByRecursion (λ p. StrictIn m p.pattern) (judgment_pieces v j w)
  judgment_strict m j w alike (inl entry) =
      any_front (λ p. StrictIn m p.pattern) (entry_pieces 0 j.context.entries (explicit_of v j.context.root w.context)) (arg_pieces (length j.context.entries) j.args w.args)
      (entries_strict m 0 j.context.entries (explicit_of v j.context.root w.context) alike.explicit entry)
  judgment_strict m j w alike (inr arg) =
      any_back (λ p. StrictIn m p.pattern) (entry_pieces 0 j.context.entries (explicit_of v j.context.root w.context)) (arg_pieces (length j.context.entries) j.args w.args)
      (args_strict m (length j.context.entries) j.args w.args alike.as_many arg)

  pub inputs_strict : (m : ℕ) (is : List StatementInput) (xs : List GivenForm) → AllZip (InputAlike th names.metas v) is xs → IsSettled is m → AnyByRecursion (λ p. StrictIn m p.pattern) (all_pieces v is xs)
  inputs_strict m [] xs alike h = absurd h
  inputs_strict m (i ∷ is) [] alike h = absurd alike
  inputs_strict m (given j ∷ is) (judged w ∷ xs) alike (inl here) = any_front (λ p. StrictIn m p.pattern) (judgment_pieces v j w) (all_pieces v is xs) (judgment_strict m j w alike.0.1 here)
  inputs_strict m (given j ∷ is) (written t ∷ xs) alike h = absurd alike.0
  inputs_strict m (syntax_input n ∷ is) (judged w ∷ xs) alike h = absurd alike.0
  inputs_strict m (syntax_input n ∷ is) (written t ∷ xs) alike (inl here) = inl (here, tt)
  inputs_strict m (syntax_input n ∷ is) (written t ∷ xs) alike (inr rest) = inr (inputs_strict m is xs alike.1 rest)
  inputs_strict m (given j ∷ is) (judged w ∷ xs) alike (inr rest) = any_back (λ p. StrictIn m p.pattern) (judgment_pieces v j w) (all_pieces v is xs) (inputs_strict m is xs alike.1 rest)

  -- the pieces of all inputs are typed
  syntax_typed : (m : ℕ) (t : Tree) → MatchOption (slice_get names.metas m) ⊥ (λ decl. decl.params ≡ []) → MatchOption (slice_get names.metas m) ⊥ (λ decl. IsTerm th.sig (scope_of th.sig v) decl.cat.0 t) →
      IsTyped th.sig names (scope_of th.sig v) (record { locals = 0; pattern = meta m no_values; target = t })
  syntax_typed m t plain term =
      let found = match_some (slice_get names.metas m) (λ decl. (decl.params ≡ []) × IsTerm th.sig (scope_of th.sig v) decl.cat.0 t) (joined _ _ (slice_get names.metas m) plain term) in
      record {
        ls = [];
        long = refl;
        outer = scope_of th.sig v;
        wide = λ i c e. e;
        cat = found.0.cat.0;
        pattern = match_from (slice_get names.metas m) (λ decl. (decl.cat.0 ≡ found.0.cat.0) × AreValues th.sig names [] (map (λ p. p.0) decl.params) no_values) found.0 found.1
            (refl, subst (λ (ps : List CatId). AreValues th.sig names [] (map (λ p. p.0) ps) no_values) (sym found.2.0) tt);
        target = found.2.1;
      }

  pub inputs_typed : (is : List StatementInput) (xs : List GivenForm) → AllByRecursion (IsInputOf th names) is → AllZip (InputAlike th names.metas v) is xs → AllByRecursion (IsTyped th.sig names (scope_of th.sig v)) (all_pieces v is xs)
  inputs_typed [] xs forms alike = tt
  inputs_typed (i ∷ is) [] forms alike = absurd alike
  inputs_typed (given j ∷ is) (judged w ∷ xs) forms alike =
      all_append (IsTyped th.sig names (scope_of th.sig v)) (judgment_pieces v j w) (all_pieces v is xs) (judgment_typed j w forms.0 alike.0.0 alike.0.1) (inputs_typed is xs forms.1 alike.1)
  inputs_typed (given j ∷ is) (written t ∷ xs) forms alike = absurd alike.0
  inputs_typed (syntax_input n ∷ is) (judged w ∷ xs) forms alike = absurd alike.0
  inputs_typed (syntax_input n ∷ is) (written t ∷ xs) forms alike = (syntax_typed n t forms.0 alike.0, inputs_typed is xs forms.1 alike.1)
