-- The names that the categories are made with are those that the file declares.
use Rattle.std.proofs.Common.{◌≡◌, ◌≢◌, ℕ, List, [], ◌∷◌, ◌++◌, map, Option, None, Some, refl, ap, ◌∙◌, sym, subst, inl, inr, ◌⊎◌}
use Rattle.std.specs.List.{AllByRecursion, AllZip}
use Rattle.sy_base.specs.Tokens.{PlainToken}
use Rattle.binding_terms.specs.declared.grammar.Cat.{Cat}
use Rattle.outline_reader.specs.Plain.{PlainPortion, terminals, category}
use Rattle.rule_schemes.specs.Reading.{IsSpelling}
use Rattle.user_grammar.specs.File.{WrittenCategory, listed, categories}
use Rattle.user_grammar.specs.Names.{names_if, names, IsNoSpelling, AreApart, AllApart, AllDiffer, HaveNoCommonSpelling}
use Rattle.user_grammar.specs.Production.{IsVariable}
use Rattle.user_grammar.specs.Fault.{Sort, a_terminal, a_category, a_variable, Declared, declared_as, category_texts, DeclaresVariable, AreVariables, no_variables, a_word, a_production, DeclareAll, HasNoFault}
use Rattle.user_grammar.specs.MadeItems.{IsFirstVariable, IsMadeCategory}
use Rattle.user_grammar.proofs.MadeNames.{told_names, told_all, names_apart, Differ, DiffersFrom, AllDeclaredDiffer, all_declared, declared_differ}
use Rattle.binding_terms.proofs.Lists.{all_also, all_append, all_front, all_right}

-- what holds of the texts of names and of those of terminals
abbrev pub Holds : (N L : List ℕ → Type 0) → Sort → List ℕ → Type 0
Holds N L a_terminal text = L text
Holds N L a_category text = N text
Holds N L a_variable text = N text

abbrev pub HoldsOf : (N L : List ℕ → Type 0) → Declared → Type 0
HoldsOf N L d = Holds N L d.sort d.token.text

of_terminals : (N L : List ℕ → Type 0) (tokens : List PlainToken) → AllByRecursion (HoldsOf N L) (map (declared_as a_terminal) tokens)
    → AllByRecursion L (map (λ token. token.text) tokens)
of_terminals N L [] all = tt
of_terminals N L (token ∷ tokens) all = (all.0, of_terminals N L tokens all.1)

differ_left : (ds es : List Declared) → AllDeclaredDiffer (ds ++ es) → AllDeclaredDiffer es
differ_left [] es differ = differ
differ_left (d ∷ ds) es differ = differ_left ds es differ.1

-- the first token is that of the first variable
pub first_token : (portions : List PlainPortion) (before : List (List PlainToken)) (token : PlainToken) (after forms : List (List PlainToken)) (tokens : List PlainToken)
    → AreVariables portions forms tokens → forms ≡ before ++ (token ∷ []) ∷ after
    → AllByRecursion (λ form. IsVariable (category_texts portions) (listed portions) form → ⊥) before → DeclaresVariable portions (token ∷ [])
    → (more : List PlainToken) × (tokens ≡ token ∷ more) × AreVariables portions after more
first_token portions [] token after forms tokens no_variables split not is = absurd cc
first_token portions [] token after forms tokens (a_word {token = other} {forms = rest} {tokens = more} also vars) split not is =
    let same : other ≡ token = cc in let left : rest ≡ after = cc in
    (more, ap (λ t. t ∷ more) same, subst (λ fs. AreVariables portions fs more) left vars)
first_token portions [] token after forms tokens (a_production {form = form} not_this vars) split not is =
    let same : form ≡ token ∷ [] = cc in absurd (not_this (subst (DeclaresVariable portions) (sym same) is))
first_token portions (form ∷ before) token after forms tokens no_variables split not is = absurd cc
first_token portions (form ∷ before) token after forms tokens (a_word {token = other} also vars) split not is =
    let same : (other ∷ []) ≡ form = cc in absurd (not.0 (subst (DeclaresVariable portions) same also))
first_token portions (form ∷ before) token after forms tokens (a_production {forms = rest} not_this vars) split not is =
    let left : rest ≡ before ++ (token ∷ []) ∷ after = cc in first_token portions before token after rest tokens vars left not.1 is

module _ (portions : List PlainPortion) (assumed : List (List ℕ)) where
  abbrev pub AreMadeCategories : List WrittenCategory → List Cat → Type 0
  AreMadeCategories written cats = AllZip (IsMadeCategory (category_texts portions) (listed portions) assumed) written cats

  -- the variable of a category is none or that of the first token
  pub variable_token : (forms : List (List PlainToken)) (tokens : List PlainToken) (var : Option (List ℕ)) → AreVariables portions forms tokens
      → IsFirstVariable (category_texts portions) (listed portions) forms var
      → (var ≡ None) ⊎ ((token : PlainToken) × (more : List PlainToken) × (tokens ≡ token ∷ more) × (var ≡ Some token.text))
  variable_token forms tokens None vars first = inl refl
  variable_token forms tokens (Some name) vars first =
      let found = first_token portions first.0 first.1 first.2 forms tokens vars first.3 first.4 first.5 in
      inr (first.1, found.0, found.1, ap Some first.6)

  of_variable : (N L : List ℕ → Type 0) (forms : List (List PlainToken)) (tokens : List PlainToken) (var : Option (List ℕ)) → AreVariables portions forms tokens
      → IsFirstVariable (category_texts portions) (listed portions) forms var → AllByRecursion (HoldsOf N L) (map (declared_as a_variable) tokens)
      → AllByRecursion N (names_if var)
  of_variable N L forms tokens var vars first all = by_case (variable_token forms tokens var vars first)
    where
      by_case : (var ≡ None) ⊎ ((token : PlainToken) × (more : List PlainToken) × (tokens ≡ token ∷ more) × (var ≡ Some token.text)) → AllByRecursion N (names_if var)
      by_case (inl none) = subst (λ v. AllByRecursion N (names_if v)) (sym none) tt
      by_case (inr is) =
          let head : AllByRecursion (HoldsOf N L) (map (declared_as a_variable) (is.0 ∷ is.1)) =
          subst (λ (ts : List PlainToken). AllByRecursion (HoldsOf N L) (map (declared_as a_variable) ts)) is.2 all in
          subst (λ v. AllByRecursion N (names_if v)) (sym is.3) (head.0, tt)

  -- what holds of all that is declared holds of the names and the listed terminals
  pub told : (N L : List ℕ → Type 0) (some : List PlainPortion) (ds : List Declared) (cats : List Cat) → DeclareAll portions some ds → AreMadeCategories (categories some) cats
      → AllByRecursion (HoldsOf N L) ds → AllByRecursion N (told_names cats) × AllByRecursion L (listed some)
  told N L [] ds [] declare zip all = (tt, tt)
  told N L [] ds (cat ∷ cats) declare zip all = absurd zip
  told N L (terminals first tokens ∷ rest) ds cats declare zip all =
      let here = subst (AllByRecursion (HoldsOf N L)) (declare.2 ∙ ap (λ (hs : List Declared). hs ++ declare.1) declare.3) all in
      let more = told N L rest declare.1 cats declare.4 zip (all_right (HoldsOf N L) (map (declared_as a_terminal) tokens) declare.1 here) in (
        more.0,
        all_append L (map (λ token. token.text) tokens) (listed rest)
            (of_terminals N L tokens (all_front (HoldsOf N L) (map (declared_as a_terminal) tokens) declare.1 here)) more.1,
      )
  told N L (category name mark forms ∷ rest) ds [] declare zip all = absurd zip
  told N L (category name mark forms ∷ rest) ds (cat ∷ cats) declare zip all =
      let vars = declare.3.0 in
      let here = subst (AllByRecursion (HoldsOf N L)) (declare.2 ∙ ap (λ (hs : List Declared). hs ++ declare.1) declare.3.2) all in
      let more = told N L rest declare.1 cats declare.4 zip.1 (all_right (HoldsOf N L) (map (declared_as a_variable) vars) declare.1 here.1) in (
        (
          subst N (sym zip.0.category.name) here.0,
          all_append N (names_if cat.var) (told_names cats)
              (of_variable N L forms vars cat.var declare.3.1 zip.0.variable (all_front (HoldsOf N L) (map (declared_as a_variable) vars) declare.1 here.1)) more.0,
        ),
        more.1,
      )
  told N L (_ ∷ rest) ds cats declare zip all =
      told N L rest declare.1 cats declare.4 zip (subst (AllByRecursion (HoldsOf N L)) (declare.2 ∙ ap (λ (hs : List Declared). hs ++ declare.1) declare.3) all)

  -- ---- the names have no common spelling

  pub record AreClear (some : List PlainPortion) (cats : List Cat) : Type 0 where
    pub apart : AllApart (told_names cats)
    pub no_spellings : AllByRecursion (IsNoSpelling (told_names cats)) (listed some)
    pub different : AllDiffer (listed some)

  -- from a name: other names are apart from it, and terminals are no spellings of it
  from_category : (text : List ℕ) (other : Sort) (also : List ℕ) → Differ a_category text other also
      → Holds (AreApart text) (λ (t : List ℕ). IsSpelling text t → ⊥) other also
  from_category text a_terminal also d = λ spells. d.nothing_common also spells refl
  from_category text a_category also d = record { nothing_common = d.nothing_common }
  from_category text a_variable also d = record { nothing_common = d.nothing_common }

  from_variable : (text : List ℕ) (other : Sort) (also : List ℕ) → Differ a_variable text other also
      → Holds (AreApart text) (λ (t : List ℕ). IsSpelling text t → ⊥) other also
  from_variable text a_terminal also d = λ spells. d.nothing_common also spells refl
  from_variable text a_category also d = record { nothing_common = d.nothing_common }
  from_variable text a_variable also d = record { nothing_common = d.nothing_common }

  -- from a terminal: it is no spelling of a name, and other terminals are others
  from_terminal : (text : List ℕ) (other : Sort) (also : List ℕ) → Differ a_terminal text other also
      → Holds (λ (name : List ℕ). IsSpelling name text → ⊥) (λ t. text ≢ t) other also
  from_terminal text a_terminal also d = λ same. d.nothing_common text refl same
  from_terminal text a_category also d = λ spells. d.nothing_common text refl spells
  from_terminal text a_variable also d = λ spells. d.nothing_common text refl spells

  -- the terminals of a portion before what the others declare
  terminals_clear : (rest : List PlainPortion) (others : List Declared) (cats : List Cat) (tokens : List PlainToken) → DeclareAll portions rest others
      → AreMadeCategories (categories rest) cats → AreClear rest cats → AllDeclaredDiffer (map (declared_as a_terminal) tokens ++ others)
      → AllByRecursion (IsNoSpelling (told_names cats)) (map (λ token. token.text) tokens ++ listed rest) × AllDiffer (map (λ token. token.text) tokens ++ listed rest)
  terminals_clear rest others cats [] declare zip clear differ = (clear.no_spellings, clear.different)
  terminals_clear rest others cats (token ∷ tokens) declare zip clear differ =
      let more = terminals_clear rest others cats tokens declare zip clear differ.1 in
      let N = λ (name : List ℕ). IsSpelling name token.text → ⊥ in
      let L = λ (t : List ℕ). token.text ≢ t in
      let holds : AllByRecursion (HoldsOf (λ (name : List ℕ). IsSpelling name token.text → ⊥) (λ (t : List ℕ). token.text ≢ t)) (map (declared_as a_terminal) tokens ++ others) =
      all_also (DiffersFrom (declared_as a_terminal token)) (HoldsOf (λ (name : List ℕ). IsSpelling name token.text → ⊥) (λ (t : List ℕ). token.text ≢ t))
      (map (declared_as a_terminal) tokens ++ others) (λ e d. from_terminal token.text e.sort e.token.text d) differ.0 in
      let found = told N L rest others cats declare zip (all_right (HoldsOf N L) (map (declared_as a_terminal) tokens) others holds) in
      let own = of_terminals N L tokens (all_front (HoldsOf N L) (map (declared_as a_terminal) tokens) others holds) in
      ((found.0, more.0), (all_append L (map (λ token. token.text) tokens) (listed rest) own found.1, more.1))

  -- no spelling of more names
  clear_more : (name : List ℕ) (names texts : List (List ℕ)) → AllByRecursion (λ (t : List ℕ). IsSpelling name t → ⊥) texts
      → AllByRecursion (IsNoSpelling names) texts → AllByRecursion (IsNoSpelling (name ∷ names)) texts
  clear_more name names [] not none = tt
  clear_more name names (t ∷ texts) not none = ((not.0, none.0), clear_more name names texts not.1 none.1)

  -- the variable of a category before what the others declare
  variable_clear : (rest : List PlainPortion) (others : List Declared) (cats : List Cat) (forms : List (List PlainToken)) (tokens : List PlainToken) (var : Option (List ℕ))
      → DeclareAll portions rest others → AreMadeCategories (categories rest) cats → AreVariables portions forms tokens
      → IsFirstVariable (category_texts portions) (listed portions) forms var → AreClear rest cats → AllDeclaredDiffer (map (declared_as a_variable) tokens ++ others)
      → AllApart (names_if var ++ told_names cats) × AllByRecursion (IsNoSpelling (names_if var ++ told_names cats)) (listed rest)
  variable_clear rest others cats forms tokens var declare zip vars first clear differ = by_case (variable_token forms tokens var vars first)
    where
      one : (token : PlainToken) (more : List PlainToken) → AllDeclaredDiffer (map (declared_as a_variable) (token ∷ more) ++ others)
          → AllApart (token.text ∷ told_names cats) × AllByRecursion (IsNoSpelling (token.text ∷ told_names cats)) (listed rest)
      one token more differs =
          let holds = all_also (DiffersFrom (declared_as a_variable token)) (HoldsOf (AreApart token.text) (λ (t : List ℕ). IsSpelling token.text t → ⊥))
          (map (declared_as a_variable) more ++ others) (λ e d. from_variable token.text e.sort e.token.text d) differs.0 in
          let found = told (AreApart token.text) (λ (t : List ℕ). IsSpelling token.text t → ⊥) rest others cats declare zip
          (all_right (HoldsOf (AreApart token.text) (λ (t : List ℕ). IsSpelling token.text t → ⊥)) (map (declared_as a_variable) more) others holds) in
          ((found.0, clear.apart), clear_more token.text (told_names cats) (listed rest) found.1 clear.no_spellings)

      by_case : (var ≡ None) ⊎ ((token : PlainToken) × (more : List PlainToken) × (tokens ≡ token ∷ more) × (var ≡ Some token.text))
          → AllApart (names_if var ++ told_names cats) × AllByRecursion (IsNoSpelling (names_if var ++ told_names cats)) (listed rest)
      by_case (inl none) =
          subst (λ (v : Option (List ℕ)). AllApart (names_if v ++ told_names cats) × AllByRecursion (IsNoSpelling (names_if v ++ told_names cats)) (listed rest)) (sym none)
          (clear.apart, clear.no_spellings)
      by_case (inr is) =
          subst (λ (v : Option (List ℕ)). AllApart (names_if v ++ told_names cats) × AllByRecursion (IsNoSpelling (names_if v ++ told_names cats)) (listed rest)) (sym is.3)
          (one is.0 is.1 (subst (λ (ts : List PlainToken). AllDeclaredDiffer (map (declared_as a_variable) ts ++ others)) is.2 differ))

  are_clear : (some : List PlainPortion) (ds : List Declared) (cats : List Cat) → DeclareAll portions some ds → AreMadeCategories (categories some) cats
      → AllDeclaredDiffer ds → AreClear some cats
  are_clear [] ds [] declare zip differ = record { apart = tt; no_spellings = tt; different = tt }
  are_clear [] ds (cat ∷ cats) declare zip differ = absurd zip
  are_clear (terminals first tokens ∷ rest) ds cats declare zip differ =
      let here = subst AllDeclaredDiffer (declare.2 ∙ ap (λ (hs : List Declared). hs ++ declare.1) declare.3) differ in
      let clear = are_clear rest declare.1 cats declare.4 zip (differ_left (map (declared_as a_terminal) tokens) declare.1 here) in
      let found = terminals_clear rest declare.1 cats tokens declare.4 zip clear here in
      record { apart = clear.apart; no_spellings = found.0; different = found.1 }
  are_clear (category name mark forms ∷ rest) ds [] declare zip differ = absurd zip
  are_clear (category name mark forms ∷ rest) ds (cat ∷ cats) declare zip differ =
      let vars = declare.3.0 in
      let here = subst AllDeclaredDiffer (declare.2 ∙ ap (λ (hs : List Declared). hs ++ declare.1) declare.3.2) differ in
      let clear = are_clear rest declare.1 cats declare.4 zip.1 (differ_left (map (declared_as a_variable) vars) declare.1 here.1) in
      let own = variable_clear rest declare.1 cats forms vars cat.var declare.4 zip.1 declare.3.1 zip.0.variable clear here.1 in
      let holds = all_also (DiffersFrom (declared_as a_category name)) (HoldsOf (AreApart name.text) (λ (t : List ℕ). IsSpelling name.text t → ⊥))
      (map (declared_as a_variable) vars ++ declare.1) (λ e d. from_category name.text e.sort e.token.text d) here.0 in
      let found = told (AreApart name.text) (λ (t : List ℕ). IsSpelling name.text t → ⊥) rest declare.1 cats declare.4 zip.1
      (all_right (HoldsOf (AreApart name.text) (λ (t : List ℕ). IsSpelling name.text t → ⊥)) (map (declared_as a_variable) vars) declare.1 holds) in
      let from_var = of_variable (AreApart name.text) (λ (t : List ℕ). IsSpelling name.text t → ⊥) forms vars cat.var declare.3.1 zip.0.variable
      (all_front (HoldsOf (AreApart name.text) (λ (t : List ℕ). IsSpelling name.text t → ⊥)) (map (declared_as a_variable) vars) declare.1 holds) in
      let same = sym zip.0.category.name in
      record {
        apart = (
          subst (λ (n : List ℕ). AllByRecursion (AreApart n) (names_if cat.var ++ told_names cats)) same
              (all_append (AreApart name.text) (names_if cat.var) (told_names cats) from_var found.0),
          own.0,
        );
        no_spellings = subst (λ (n : List ℕ). AllByRecursion (IsNoSpelling (n ∷ (names_if cat.var ++ told_names cats))) (listed rest)) same
            (clear_more name.text (names_if cat.var ++ told_names cats) (listed rest) found.1 own.1);
        different = clear.different;
      }
  are_clear (_ ∷ rest) ds cats declare zip differ =
      let clear = are_clear rest declare.1 cats declare.4 zip (subst AllDeclaredDiffer (declare.2 ∙ ap (λ (hs : List Declared). hs ++ declare.1) declare.3) differ) in
      record { apart = clear.apart; no_spellings = clear.no_spellings; different = clear.different }

  -- the names of a grammar without a fault have no common spelling
  pub made_names : (cats : List Cat) → HasNoFault portions → AreMadeCategories (categories portions) cats → HaveNoCommonSpelling (names cats) (listed portions)
  made_names cats no_fault zip =
      let all = all_declared portions portions in
      let clear = are_clear portions all.0 cats all.1 zip (declared_differ portions all.0 all.1 no_fault) in
      record {
        apart = names_apart cats clear.apart;
        no_spellings = all_also (IsNoSpelling (told_names cats)) (IsNoSpelling (names cats)) (listed portions)
            (λ t none. told_all (λ (name : List ℕ). IsSpelling name t → ⊥) cats none) clear.no_spellings;
        different = clear.different;
      }
