-- What reads where nothing binds: no bracket opens in it, and it is a scheme of its scope.
use Rattle.std.proofs.Common.{◌≡◌, ◌≢◌, ℕ, zero, suc, List, [], ◌∷◌, ◌++◌, map, inl, inr, refl, ap, ◌∙◌, sym, subst, arith, Option, Some, None, slice_get, MatchOption}
use Rattle.std.specs.List.{AllByRecursion}
use Rattle.binding_terms.specs.Numbered.{AnyByRecursion}
use Rattle.binding_terms.specs.Signature.{Signature, Place, slots, binders}
use Rattle.binding_terms.specs.declared.grammar.Cat.{Cat}
use Rattle.binding_terms.specs.declared.grammar.CatId.{CatId}
use Rattle.binding_terms.specs.declared.grammar.Prod.{Prod}
use Rattle.binding_terms.specs.declared.grammar.Item.{Item}
use Rattle.scheme_terms.specs.Forms.{Names}
use Rattle.scheme_terms.specs.SchemeTree.{SchemeTree, Values, no_values, Parts, OccursIn, OccursInParts}
use Rattle.scheme_terms.specs.SchemeScope.{IsScheme, AreSchemeParts, AreSchemes, AreValues}
use Rattle.scheme_terms.specs.declared.scheme.MetaDecl.{MetaDecl}
use Rattle.rule_schemes.specs.Reading.{Token, word, punctuation, Variable, Means, IsSpelling, IsTerminal, MayBeTerminal, slot_variables, ReadsTerm, group, metavariable, variable, production, ReadsBrackets, no_brackets, brackets, ReadsArguments, one_more, last_one, ReadsItems, all_read, terminal, binder, slot, ReadsForm, form_end, form_terminal, form_context, form_slot}
use Rattle.user_grammar.specs.Bare.{IsBareSignature}
use Rattle.binding_terms.proofs.Lists.{all_append, all_at}

-- no word is a variable's
pub not_variable : (cats : List Cat) (c : ℕ) (w : List ℕ) → AllByRecursion (λ (k : Cat). k.var ≡ None) cats
    → MatchOption (slice_get cats c) ⊥ (λ cat. MatchOption cat.var ⊥ (λ name. IsSpelling name w)) → ⊥
not_variable [] c w none h = h
not_variable (k ∷ cats) zero w none h = subst (λ v. MatchOption v ⊥ (λ name. IsSpelling name w)) none.0 h
not_variable (k ∷ cats) (suc c) w none h = not_variable cats c w none.1 h

-- no bracket is a parenthesis or a terminal without quotes, or a word
not_open : punctuation 40 ≢ punctuation 91
not_open same = (let text : ◌≡◌ {A = List ℕ} (40 ∷ []) (91 ∷ []) = ap (λ (u : Token). u.1) same in let number : ◌≡◌ {A = ℕ} 40 91 = cc in omega arith)

not_close : punctuation 41 ≢ punctuation 91
not_close same = (let text : ◌≡◌ {A = List ℕ} (41 ∷ []) (91 ∷ []) = ap (λ (u : Token). u.1) same in let number : ◌≡◌ {A = ℕ} 41 91 = cc in omega arith)

not_word : (w : List ℕ) → word w ≢ punctuation 91
not_word w same = (let kind : ◌≡◌ {A = ℕ} 0 2 = ap (λ (u : Token). u.0) same in omega arith)

no_bracket_terminal : (text : List ℕ) → IsTerminal text (punctuation 91) → ⊥
no_bracket_terminal text h = which h.1
  where
    which : MayBeTerminal 2 (91 ∷ []) → ⊥
    which (inl e) = (let never : ◌≡◌ {A = ℕ} 2 0 = e in omega arith)
    which (inr (inl e)) = (let never : ◌≡◌ {A = ℕ} 2 1 = e.0 in omega arith)
    which (inr (inr (inl e))) = e.3 refl
    which (inr (inr (inr e))) = (let never : ◌≡◌ {A = ℕ} 2 4 = e in omega arith)

not_terminal : (text : List ℕ) (t : Token) → IsTerminal text t → t ≢ punctuation 91
not_terminal text t this e = no_bracket_terminal text (subst (IsTerminal text) e this)

module _ (sig : Signature) (metas : List MetaDecl) (bare : IsBareSignature sig) (plain : AllByRecursion (λ (m : MetaDecl). m.params ≡ []) metas) where
  no_arguments : {vars : List Variable} {params : List ℕ} {tokens : List Token} {vs : Values} → ReadsArguments sig metas vars params tokens vs → params ≡ [] → ⊥
  no_arguments (one_more {p = p} {params = params} e t r) n = (let never : p ∷ params ≡ [] = n in cc)
  no_arguments (last_one {p = p} {params = params} e t r) n = (let never : p ∷ params ≡ [] = n in cc)

  pub bare_brackets : {vars : List Variable} {params : List ℕ} {tokens : List Token} {vs : Values} → ReadsBrackets sig metas vars params tokens vs → params ≡ [] → (tokens ≡ []) × (vs ≡ no_values)
  bare_brackets no_brackets n = (refl, refl)
  bare_brackets (brackets e r) n = absurd (no_arguments r n)

  pub no_parameters : (m : ℕ) (decl : MetaDecl) → slice_get metas m ≡ Some decl → map (λ (p : CatId). p.0) decl.params ≡ []
  no_parameters m decl g = ap (map (λ (p : CatId). p.0)) (all_at (λ (m : MetaDecl). m.params ≡ []) metas m decl plain g)

  abbrev HaveNoBracket : List Token → Type 0
  HaveNoBracket tokens = AllByRecursion (λ t. t ≢ punctuation 91) tokens

  abbrev BindNothing : List Item → Type 0
  BindNothing items = AllByRecursion (λ (s : Place). s.binds ≡ []) (slots items)

  both : (tokens first rest : List Token) → tokens ≡ first ++ rest → HaveNoBracket first → HaveNoBracket rest → HaveNoBracket tokens
  both tokens first rest e h k = subst HaveNoBracket (sym e) (all_append (λ (t : Token). t ≢ punctuation 91) first rest h k)

  -- what reads has no bracket that opens, but as a terminal in quotes
  mutual
    pub term_tokens : {vars : List Variable} {c : ℕ} {tokens : List Token} {s : SchemeTree} → ReadsTerm sig metas vars c tokens s → vars ≡ [] → HaveNoBracket tokens
    term_tokens (group {inner = inner} e r) v =
        subst HaveNoBracket (sym e) (not_open, all_append (λ (t : Token). t ≢ punctuation 91) inner (punctuation 41 ∷ []) (term_tokens r v) (not_close, tt))
    term_tokens (metavariable {m = m} {decl = decl} e g c b) v =
        subst HaveNoBracket (sym (e ∙ ap (λ ts. word decl.name ∷ ts) (bare_brackets b (no_parameters m decl g)).0)) (not_word decl.name, tt)
    term_tokens (variable {c = c} {w = w} {s = s} e h) v = absurd (subst (λ vs. Means 0 vs w c s) v h)
    term_tokens (production {p = p} {prod = prod} g c r) v =
        item_tokens r v (all_at (λ (prod : Prod). BindNothing prod.items) sig.prods p prod bare.plain.no_binding g)

    item_tokens : {vars own : List Variable} {words : List (List ℕ)} {items : List Item} {tokens : List Token} {xs : Parts} → ReadsItems sig metas vars own words items tokens xs → vars ≡ []
        → BindNothing items → HaveNoBracket tokens
    item_tokens all_read v n = tt
    item_tokens (terminal {text = text} {t = t} this r) v n = (not_terminal text t this, item_tokens r v n)
    item_tokens (binder {w = w} {c = c} h r) v n = absurd (not_variable sig.cats c.0 w bare.variables h)
    item_tokens (slot {vars = vars} {own = own} {binds = binds} {tokens = tokens} {first = first} {rest = rest} e some t r) v n =
        let under : slot_variables own binds ++ vars ≡ [] = ap (λ ns. slot_variables own ns ++ vars) n.0 ∙ v in
        both tokens first rest e (term_tokens t under) (item_tokens r v n.1)

  pub form_tokens : {vars : List Variable} {ctx : Option CatId} {front : List Token} {items : List Item} {tokens : List Token} {ss : List SchemeTree} → ReadsForm sig metas vars ctx front items tokens ss
      → vars ≡ [] → ctx ≡ None → HaveNoBracket tokens
  form_tokens form_end v c = tt
  form_tokens (form_terminal {text = text} {t = t} this r) v c = (not_terminal text t this, form_tokens r v c)
  form_tokens (form_context {id = id} e split r) v c = (let never : Some id ≡ None = sym e ∙ c in cc)
  form_tokens (form_slot {tokens = tokens} {first = first} {rest = rest} other e some t r) v c = both tokens first rest e (term_tokens t v) (form_tokens r v c)

  -- it is a scheme of each scope that has the metavariables that stand in it
  module _ (names : Names) where
    abbrev HasUsed : (ℕ → Type 0) → Type 0
    HasUsed Occurs = (m : ℕ) (decl : MetaDecl) → Occurs m → slice_get metas m ≡ Some decl → slice_get names.metas m ≡ Some decl

    mutual
      pub term_scheme : {vars : List Variable} {c : ℕ} {tokens : List Token} {s : SchemeTree} → ReadsTerm sig metas vars c tokens s → vars ≡ [] → HasUsed (λ m. OccursIn m s) → IsScheme sig names [] c s
      term_scheme (group e r) v has = term_scheme r v has
      term_scheme (metavariable {c = c} {m = m} {decl = decl} {vs = vs} e g k b) v has =
          let found : slice_get names.metas m ≡ Some decl = has m decl (inl refl) g in
          let none = no_parameters m decl g in
          subst (λ found. MatchOption found ⊥ (λ decl. (decl.cat.0 ≡ c) × AreValues sig names [] (map (λ p. p.0) decl.params) vs)) (sym found)
          (k, subst (λ ps. AreValues sig names [] ps vs) (sym none) (subst (AreValues sig names [] []) (sym (bare_brackets b none).1) tt))
      term_scheme (variable {c = c} {w = w} {s = s} e h) v has = absurd (subst (λ vs. Means 0 vs w c s) v h)
      term_scheme (production {c = c} {p = p} {prod = prod} {xs = xs} g k r) v has =
          subst (λ found. MatchOption found ⊥ (λ prod. (prod.cat.0 ≡ c) × AreSchemeParts sig names [] (binders prod.items) (slots prod.items) xs)) (sym g)
          (k, item_schemes (binders prod.items) r v (all_at (λ (prod : Prod). BindNothing prod.items) sig.prods p prod bare.plain.no_binding g) has)

      item_schemes : (bs : List ℕ) {vars own : List Variable} {words : List (List ℕ)} {items : List Item} {tokens : List Token} {xs : Parts} → ReadsItems sig metas vars own words items tokens xs
          → vars ≡ [] → BindNothing items → HasUsed (λ m. OccursInParts m xs) → AreSchemeParts sig names [] bs (slots items) xs
      item_schemes bs all_read v n has = tt
      item_schemes bs (terminal this r) v n has = item_schemes bs r v n has
      item_schemes bs (binder {w = w} {c = c} h r) v n has = absurd (not_variable sig.cats c.0 w bare.variables h)
      item_schemes bs (slot {vars = vars} {own = own} {c = c} {binds = binds} {s = s} e some t r) v n has =
          let under : slot_variables own binds ++ vars ≡ [] = ap (λ ns. slot_variables own ns ++ vars) n.0 ∙ v in
          let here = term_scheme t under (λ m d o. has m d (inl o)) in
          (refl, subst (λ ns. IsScheme sig names (Rattle.binding_terms.specs.Scope.bound bs ns ++ []) c.0 s) (sym n.0) here, item_schemes bs r v n.1 (λ m d o. has m d (inr o)))

    pub form_schemes : {vars : List Variable} {ctx : Option CatId} {front : List Token} {items : List Item} {tokens : List Token} {ss : List SchemeTree} → ReadsForm sig metas vars ctx front items tokens ss
        → vars ≡ [] → ctx ≡ None → HasUsed (λ m. AnyByRecursion (OccursIn m) ss) → AreSchemes sig names [] (slots items) ss
    form_schemes form_end v c has = tt
    form_schemes (form_terminal this r) v c has = form_schemes r v c has
    form_schemes (form_context {id = id} e split r) v c has = (let never : Some id ≡ None = sym e ∙ c in cc)
    form_schemes (form_slot other e some t r) v c has = (term_scheme t v (λ m d o. has m d (inl o)), form_schemes r v c (λ m d o. has m d (inr o)))
