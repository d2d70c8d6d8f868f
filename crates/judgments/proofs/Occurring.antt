-- What stands in a reading stands in its tokens, where nothing binds.
use Rattle.std.proofs.Common.{◌≡◌, ℕ, List, [], ◌∷◌, ◌++◌, inl, inr, refl, ap, ◌∙◌, sym, subst, Option, Some, None, slice_get}
use Rattle.std.specs.List.{AllByRecursion, AllZip}
use Rattle.binding_terms.specs.Numbered.{AnyByRecursion}
use Rattle.binding_terms.specs.Signature.{Signature, Place, slots}
use Rattle.binding_terms.specs.declared.grammar.CatId.{CatId}
use Rattle.binding_terms.specs.declared.grammar.Prod.{Prod}
use Rattle.binding_terms.specs.declared.grammar.Item.{Item}
use Rattle.scheme_terms.specs.Forms.{Names, KnownVariable}
use Rattle.scheme_terms.specs.SchemeTree.{SchemeTree, meta, Values, no_values, Parts, OccursIn, OccursInValues, OccursInParts}
use Rattle.scheme_terms.specs.declared.scheme.MetaDecl.{MetaDecl}
use Rattle.rule_schemes.specs.Reading.{Token, word, punctuation, Variable, Means, ReadingScope, known_words, slot_variables, ReadsTerm, group, metavariable, variable, production, ReadsItems, all_read, terminal, binder, slot, ReadsForm, form_end, form_terminal, form_context, form_slot, ReadsJudgment, without_context, with_context}
use Rattle.rule_schemes.specs.Rules.{JudgmentScheme}
use Rattle.rule_schemes.specs.Statement.{OccursInJudgment}
use Rattle.rule_schemes.specs.declared.rule.Judgment.{Judgment}
use Rattle.user_grammar.specs.Bare.{IsBareSignature}
use Rattle.judgments.specs.Bare.{IsBareJudgment}
use Rattle.judgments.specs.Collected.{StandsIn}
use Rattle.judgments.specs.Laws.{AreBareNames}
use Rattle.judgments.specs.Named.{IsWordOf}
use Rattle.judgments.specs.Written.{ReadsOnlyAs}
use Rattle.judgments.proofs.BareForms.{reads_as}
use Rattle.judgments.proofs.ReadingLemmas.{not_variable, bare_brackets, no_parameters}
use Rattle.binding_terms.proofs.Lists.{all_at, any_back, any_front}

-- the metavariable with this number stands in the tokens
abbrev pub NumberStands : List MetaDecl → List Token → ℕ → Type 0
NumberStands metas ts m = (decl : MetaDecl) × (slice_get metas m ≡ Some decl) × StandsIn decl.name ts

module _ (sig : Signature) (metas : List MetaDecl) (bare : IsBareSignature sig) (plain : AllByRecursion (λ (m : MetaDecl). m.params ≡ []) metas) where
  in_front : (ts us : List Token) (m : ℕ) → NumberStands metas ts m → NumberStands metas (ts ++ us) m
  in_front ts us m h = (h.0, h.1, any_front (λ t. t ≡ word (h.0).name) ts us h.2)

  in_back : (ts us : List Token) (m : ℕ) → NumberStands metas us m → NumberStands metas (ts ++ us) m
  in_back ts us m h = (h.0, h.1, any_back (λ t. t ≡ word (h.0).name) ts us h.2)

  bare_place : (vs : Values) (m n : ℕ) → vs ≡ no_values → OccursIn m (meta n vs) → n ≡ m
  bare_place vs m n e (inl o) = o
  bare_place vs m n e (inr o) = absurd (subst (OccursInValues m) e o)

  mutual
    pub term_numbers : {vars : List Variable} {c : ℕ} {tokens : List Token} {s : SchemeTree} → ReadsTerm sig metas vars c tokens s → vars ≡ [] → (m : ℕ) → OccursIn m s → NumberStands metas tokens m
    term_numbers (group {inner = inner} e r) v m o =
        subst (λ ts. NumberStands metas ts m) (sym e) (in_back (punctuation 40 ∷ []) (inner ++ punctuation 41 ∷ []) m (in_front inner (punctuation 41 ∷ []) m (term_numbers r v m o)))
    term_numbers (metavariable {rest = rest} {m = n} {decl = decl} {vs = vs} e g c b) v m o =
        let same : n ≡ m = bare_place vs m n (bare_brackets sig metas bare plain b (no_parameters sig metas bare plain n decl g)).1 o in
        (decl, subst (λ k. slice_get metas k ≡ Some decl) same g, subst (StandsIn decl.name) (sym e) (inl refl))
    term_numbers (variable {c = c} {w = w} {s = s} e h) v m o = absurd (subst (λ vs. Means 0 vs w c s) v h)
    term_numbers (production {p = p} {prod = prod} g c r) v m o =
        item_numbers r v (all_at (λ (prod : Prod). AllByRecursion (λ (s : Place). s.binds ≡ []) (slots prod.items)) sig.prods p prod bare.plain.no_binding g) m o

    item_numbers : {vars own : List Variable} {words : List (List ℕ)} {items : List Item} {tokens : List Token} {xs : Parts} → ReadsItems sig metas vars own words items tokens xs → vars ≡ []
        → AllByRecursion (λ (s : Place). s.binds ≡ []) (slots items) → (m : ℕ) → OccursInParts m xs → NumberStands metas tokens m
    item_numbers all_read v n m o = absurd o
    item_numbers (terminal {t = t} {tokens = tokens} this r) v n m o = in_back (t ∷ []) tokens m (item_numbers r v n m o)
    item_numbers (binder {w = w} {c = c} h r) v n m o = absurd (not_variable sig.cats c.0 w bare.variables h)
    item_numbers (slot {vars = vars} {own = own} {binds = binds} {first = first} {rest = rest} e some t r) v n m (inl o) =
        let under : slot_variables own binds ++ vars ≡ [] = ap (λ ns. slot_variables own ns ++ vars) n.0 ∙ v in
        subst (λ ts. NumberStands metas ts m) (sym e) (in_front first rest m (term_numbers t under m o))
    item_numbers (slot {first = first} {rest = rest} e some t r) v n m (inr o) = subst (λ ts. NumberStands metas ts m) (sym e) (in_back first rest m (item_numbers r v n.1 m o))

  pub form_numbers : {vars : List Variable} {ctx : Option CatId} {front : List Token} {items : List Item} {tokens : List Token} {ss : List SchemeTree} → ReadsForm sig metas vars ctx front items tokens ss
      → vars ≡ [] → ctx ≡ None → (m : ℕ) → AnyByRecursion (OccursIn m) ss → NumberStands metas tokens m
  form_numbers form_end v c m o = absurd o
  form_numbers (form_terminal {t = t} {tokens = tokens} this r) v c m o = in_back (t ∷ []) tokens m (form_numbers r v c m o)
  form_numbers (form_context {id = id} e split r) v c m o = absurd (let never : Some id ≡ None = sym e ∙ c in cc)
  form_numbers (form_slot {first = first} {rest = rest} other e some t r) v c m (inl o) = subst (λ ts. NumberStands metas ts m) (sym e) (in_front first rest m (term_numbers t v m o))
  form_numbers (form_slot {first = first} {rest = rest} other e some t r) v c m (inr o) = subst (λ ts. NumberStands metas ts m) (sym e) (in_back first rest m (form_numbers r v c m o))

module _ (sig : Signature) (js : List Judgment) (bare : IsBareSignature sig) (closed : AllByRecursion IsBareJudgment js) (names : Names) (plain : AreBareNames names) where
  judgment_numbers : {scope : ReadingScope} {ts : List Token} {j : JudgmentScheme} {ks : List KnownVariable} → ReadsJudgment sig js scope names.metas ts j ks → scope.names.knowns ≡ []
      → (m : ℕ) → OccursInJudgment m j → NumberStands names.metas ts m
  judgment_numbers (without_context g c r) kn m (inl o) = absurd o
  judgment_numbers (without_context g c r) kn m (inr o) = form_numbers sig names.metas bare plain.parameters r (ap (known_words sig 0) kn) refl m o
  judgment_numbers (with_context {k = k} {j = j} {id = id} g c once ctx r) kn m o =
      absurd (let never : None ≡ Some id = sym (all_at IsBareJudgment js k j closed g).no_context ∙ c in cc)

  -- what stands in the judgment stands in its form
  pub judgment_stands : (form : List Token) (j : JudgmentScheme) → ReadsOnlyAs sig js names form j → (m : ℕ) → OccursInJudgment m j → NumberStands names.metas form m
  judgment_stands form j h m o = judgment_numbers (reads_as sig js bare closed names form j h) plain.knowns m o

  -- what stands in one of the judgments stands in one of the forms
  pub numbers_stand : (forms : List (List Token)) (zs : List JudgmentScheme) → AllZip (ReadsOnlyAs sig js names) forms zs → (m : ℕ) → AnyByRecursion (OccursInJudgment m) zs
      → (decl : MetaDecl) × (slice_get names.metas m ≡ Some decl) × IsWordOf forms decl.name
  numbers_stand [] [] h m o = absurd o
  numbers_stand [] (z ∷ zs) h m o = absurd h
  numbers_stand (form ∷ forms) [] h m o = absurd h
  numbers_stand (form ∷ forms) (z ∷ zs) h m (inl o) =
      let k = judgment_stands form z h.0 m o in (k.0, k.1, inl k.2)
  numbers_stand (form ∷ forms) (z ∷ zs) h m (inr o) =
      let k = numbers_stand forms zs h.1 m o in (k.0, k.1, inr k.2)
