-- The words of categories and variables, and the forms of each category, of a grammar without a fault.
use Rattle.std.proofs.Common.{◌≡◌, ℕ, zero, suc, List, [], ◌∷◌, ◌++◌, map, Option, None, Some, refl, ap, ◌∙◌, sym, subst, inl, inr}
use Rattle.std.specs.Option.{MatchOption}
use Rattle.std.specs.List.{AllByRecursion, AllZip, Contains}
use Rattle.sy_base.specs.Tokens.{PlainToken}
use Rattle.sy_base.specs.declared.fault.Code.TheVariants as code
use Rattle.binding_terms.specs.Numbered.{AnyByRecursion}
use Rattle.binding_terms.specs.declared.grammar.Cat.{Cat}
use Rattle.binding_terms.specs.declared.grammar.Prod.{Prod}
use Rattle.outline_reader.specs.Plain.{PlainPortion}
use Rattle.rule_schemes.specs.Reading.{IsSpelling, IsCategoryWord}
use Rattle.user_grammar.specs.File.{WrittenCategory, listed, categories}
use Rattle.user_grammar.specs.Names.{names_if, names, category_names, AllApart}
use Rattle.user_grammar.specs.Production.{IsVariable}
use Rattle.user_grammar.specs.Grammar.{IsCategory, AreForms, no_forms, variable, production, AreProductions}
use Rattle.user_grammar.specs.Fault.{category_texts, AreVariables, no_variables, a_word, a_production, SpellsVariable, second_variable, duplicate, unknown_word, bad_binder, binder_twice, HasNoFault}
use Rattle.user_grammar.specs.MadeItems.{IsBinderSpelling, IsFirstVariable, IsMadeCategory}
use Rattle.user_grammar.proofs.MadeCategories.{names_written}
use Rattle.user_grammar.proofs.MadeDecided.{Decided, numbers_decided, spelling_decided, any_decided, both_decided, variable_decided}
use Rattle.user_grammar.proofs.MadeNames.{variables_there}
use Rattle.user_grammar.proofs.MadeParts.{AreNamesOf, IsSound}
use Rattle.user_grammar.proofs.MadeStands.{form_stands}
use Rattle.user_grammar.proofs.MadeTold.{first_token}
use Rattle.binding_terms.proofs.Lists.{all_in_itself}

-- ---- words

any_category : (cats : List Cat) (word : List ℕ) → AnyByRecursion (λ name. IsSpelling name word) (category_names cats) → (c : ℕ) × IsCategoryWord cats c word
any_category [] word any = absurd any
any_category (cat ∷ cats) word (inl spells) = (0, spells)
any_category (cat ∷ cats) word (inr any) = let found = any_category cats word any in (suc found.0, found.1)

category_any : (cats : List Cat) (c : ℕ) (word : List ℕ) → IsCategoryWord cats c word → AnyByRecursion (λ name. IsSpelling name word) (category_names cats)
category_any [] c word is = absurd is
category_any (cat ∷ cats) zero word is = inl is
category_any (cat ∷ cats) (suc c) word is = inr (category_any cats c word is)

spells_var : (word : List ℕ) (tokens : List PlainToken) (var : Option (List ℕ)) → map (λ (t : PlainToken). t.text) tokens ≡ names_if var
    → AnyByRecursion (λ t. IsSpelling t.text word) tokens → MatchOption var ⊥ (λ name. IsSpelling name word)
spells_var word [] var same any = absurd any
spells_var word (token ∷ tokens) None same any = absurd cc
spells_var word (token ∷ []) (Some name) same (inl spells) = let is : token.text ≡ name = cc in subst (λ n. IsSpelling n word) is spells
spells_var word (token ∷ []) (Some name) same (inr any) = absurd any
spells_var word (token ∷ other ∷ tokens) (Some name) same any = absurd cc

var_spells : (word : List ℕ) (tokens : List PlainToken) (var : Option (List ℕ)) → map (λ (t : PlainToken). t.text) tokens ≡ names_if var
    → MatchOption var ⊥ (λ name. IsSpelling name word) → AnyByRecursion (λ t. IsSpelling t.text word) tokens
var_spells word tokens None same is = absurd is
var_spells word [] (Some name) same is = absurd cc
var_spells word (token ∷ tokens) (Some name) same is = let at : name ≡ token.text = cc in inl (subst (λ n. IsSpelling n word) at is)

module _ (portions : List PlainPortion) where
  spelled_tokens : {forms : List (List PlainToken)} {tokens : List PlainToken} (word : List ℕ) → AreVariables portions forms tokens
      → AnyByRecursion (SpellsVariable portions word) forms → AnyByRecursion (λ t. IsSpelling t.text word) tokens
  spelled_tokens word no_variables any = any
  spelled_tokens word (a_word is more) (inl spells) = inl spells.1
  spelled_tokens word (a_word is more) (inr any) = inr (spelled_tokens word more any)
  spelled_tokens word (a_production {form = []} not more) (inl spells) = absurd spells
  spelled_tokens word (a_production {form = token ∷ rest} not more) (inl spells) = absurd (not spells.0)
  spelled_tokens word (a_production not more) (inr any) = spelled_tokens word more any

  tokens_spelled : {forms : List (List PlainToken)} {tokens : List PlainToken} (word : List ℕ) → AreVariables portions forms tokens
      → AnyByRecursion (λ t. IsSpelling t.text word) tokens → AnyByRecursion (SpellsVariable portions word) forms
  tokens_spelled word no_variables any = any
  tokens_spelled word (a_word is more) (inl spells) = inl (is, spells)
  tokens_spelled word (a_word is more) (inr any) = inr (tokens_spelled word more any)
  tokens_spelled word (a_production not more) any = inr (tokens_spelled word more any)

  none_declared : {forms : List (List PlainToken)} {tokens : List PlainToken} → AreVariables portions forms tokens
      → AllByRecursion (λ form. IsVariable (category_texts portions) (listed portions) form → ⊥) forms → tokens ≡ []
  none_declared no_variables none = refl
  none_declared (a_word is more) none = absurd (none.0 is)
  none_declared (a_production not more) none = none_declared more none.1

  module _ (no_fault : HasNoFault portions) where
    -- a category has one variable at most
    pub one_variable : (w : WrittenCategory) (tokens : List PlainToken) (var : Option (List ℕ)) → Contains (categories portions) w → AreVariables portions w.forms tokens
        → IsFirstVariable (category_texts portions) (listed portions) w.forms var → map (λ (t : PlainToken). t.text) tokens ≡ names_if var
    one_variable w tokens None there vars first = ap (map (λ (t : PlainToken). t.text)) (none_declared vars first)
    one_variable w tokens (Some name) there vars first =
        let found = first_token portions first.0 first.1 first.2 w.forms tokens vars first.3 first.4 first.5 in
        alone found.0 found.1
      where
        alone : (more : List PlainToken) → tokens ≡ first.1 ∷ more → map (λ (t : PlainToken). t.text) tokens ≡ name ∷ []
        alone [] same = ap (map (λ (t : PlainToken). t.text)) same ∙ ap (λ (n : List ℕ). n ∷ []) (sym first.6)
        alone (t ∷ more) same =
            absurd (no_fault code.Duplicate t t.text (duplicate refl refl (second_variable w first.1 [] more there (subst (AreVariables portions w.forms) same vars))))

    pub sound_form : (w : WrittenCategory) (form : List PlainToken) → Contains (categories portions) w → Contains w.forms form → IsSound portions form
    sound_form w form there here = record {
      no_unknown = λ token is. no_fault code.UnknownWord token token.text (unknown_word w form refl refl there here is);
      no_wrong = λ token is. no_fault code.BadBinder token token.text (bad_binder w form refl refl there here is);
      no_second = λ token is. no_fault code.BinderTwice token token.text (binder_twice w form refl refl there here is);
    }

    module _ (assumed : List (List ℕ)) where
      abbrev Made : List WrittenCategory → List Cat → Type 0
      Made some cats = AllZip (IsMadeCategory (category_texts portions) (listed portions) assumed) some cats

      any_binder : (some : List WrittenCategory) (cats : List Cat) (word : List ℕ) → Made some cats → AllByRecursion (Contains (categories portions)) some
          → AnyByRecursion (λ w. AnyByRecursion (SpellsVariable portions word) w.forms) some → (c : ℕ) × IsBinderSpelling cats c word
      any_binder [] cats word made there any = absurd any
      any_binder (w ∷ some) [] word made there any = absurd made
      any_binder (w ∷ some) (cat ∷ cats) word made there (inl any) =
          let vars = variables_there portions w.forms in
          (0, spells_var word vars.0 cat.var (one_variable w vars.0 cat.var there.0 vars.1 made.0.variable) (spelled_tokens word vars.1 any))
      any_binder (w ∷ some) (cat ∷ cats) word made there (inr any) = let found = any_binder some cats word made.1 there.1 any in (suc found.0, found.1)

      binder_any : (some : List WrittenCategory) (cats : List Cat) (c : ℕ) (word : List ℕ) → Made some cats → AllByRecursion (Contains (categories portions)) some
          → IsBinderSpelling cats c word → AnyByRecursion (λ w. AnyByRecursion (SpellsVariable portions word) w.forms) some
      binder_any [] [] c word made there is = absurd is
      binder_any [] (cat ∷ cats) c word made there is = absurd made
      binder_any (w ∷ some) [] c word made there is = absurd made
      binder_any (w ∷ some) (cat ∷ cats) zero word made there is =
          let vars = variables_there portions w.forms in
          inl (tokens_spelled word vars.1 (var_spells word vars.0 cat.var (one_variable w vars.0 cat.var there.0 vars.1 made.0.variable) is))
      binder_any (w ∷ some) (cat ∷ cats) (suc c) word made there is = inr (binder_any some cats c word made.1 there.1 is)

      pub are_categories : (some : List WrittenCategory) (cats : List Cat) → Made some cats → AllZip (IsCategory assumed) some cats
      are_categories [] [] made = tt
      are_categories [] (cat ∷ cats) made = absurd made
      are_categories (w ∷ some) [] made = absurd made
      are_categories (w ∷ some) (cat ∷ cats) made = (made.0.category, are_categories some cats made.1)

      spells_variable_decided : (word : List ℕ) (form : List PlainToken) → Decided (SpellsVariable portions word form)
      spells_variable_decided word [] = inr (λ is. is)
      spells_variable_decided word (token ∷ rest) =
          both_decided (variable_decided (category_texts portions) (listed portions) (token ∷ rest)) (spelling_decided token.text word)

      module _ (cats : List Cat) (made : Made (categories portions) cats) where
        same_names : category_texts portions ≡ category_names cats
        same_names = names_written assumed (categories portions) cats (are_categories (categories portions) cats made)

        pub known_names : AreNamesOf portions cats
        known_names = record {
          slot_tells = λ token. both_decided (numbers_decided token.kind 0)
              (any_decided (λ name. IsSpelling name token.text) (λ name. spelling_decided name token.text) (category_texts portions));
          binder_tells = λ token. both_decided (numbers_decided token.kind 0)
              (any_decided (λ (w : WrittenCategory). AnyByRecursion (SpellsVariable portions token.text) w.forms)
              (λ w. any_decided (SpellsVariable portions token.text) (λ form. spells_variable_decided token.text form) w.forms) (categories portions));
          slot_word = λ token is.
              (let found = any_category cats token.text (subst (AnyByRecursion (λ name. IsSpelling name token.text)) same_names is.1) in (record { 0 = found.0 }, found.1));
          word_slot = λ token c kind is. (kind, subst (AnyByRecursion (λ name. IsSpelling name token.text)) (sym same_names) (category_any cats c token.text is));
          binder_word = λ token is.
              (let found = any_binder (categories portions) cats token.text made (all_in_itself (categories portions)) is.1 in (record { 0 = found.0 }, found.1));
          word_binder = λ token c kind is. (kind, binder_any (categories portions) cats c token.text made (all_in_itself (categories portions)) is);
        }

        module _ (apart : AllApart (names cats)) where
          forms_there : (w : WrittenCategory) (c : ℕ) → Contains (categories portions) w → {forms : List (List PlainToken)} {tokens : List PlainToken} (var : Option (List ℕ))
              → AreVariables portions forms tokens → map (λ (t : PlainToken). t.text) tokens ≡ names_if var → AllByRecursion (Contains w.forms) forms
              → (prods : List Prod) × AreForms cats (listed portions) c var forms prods
          forms_there w c there None no_variables same all = ([], no_forms)
          forms_there w c there (Some name) no_variables same all = absurd cc
          forms_there w c there None (a_word is more) same all = absurd cc
          forms_there w c there (Some name) (a_word {token = token} {forms = forms} {tokens = tokens} is more) same all =
              let left : map (λ (t : PlainToken). t.text) tokens ≡ [] = cc in
              let named : token.text ≡ name = cc in
              let rest = forms_there w c there None more left all.1 in (
                rest.0,
                subst (λ n. AreForms cats (listed portions) c (Some n) ((token ∷ []) ∷ forms) rest.0) named
                    (variable (subst (λ ns. IsVariable ns (listed portions) (token ∷ [])) same_names is) rest.1),
              )
          forms_there w c there var (a_production {form = form} not more) same all =
              let rest = forms_there w c there var more same all.1 in
              let stands = form_stands portions cats known_names apart form (sound_form w form there all.0) c in
              (stands.prod ∷ rest.0, production (λ is. not (subst (λ ns. IsVariable ns (listed portions) form) (sym same_names) is)) stands.is_production rest.1)

          productions_there : (some : List WrittenCategory) (others : List Cat) (c : ℕ) → Made some others → AllByRecursion (Contains (categories portions)) some
              → (prods : List Prod) × AreProductions cats (listed portions) c some (map (λ (cat : Cat). cat.var) others) prods
          productions_there [] [] c made_some there = ([], refl)
          productions_there [] (other ∷ others) c made_some there = absurd made_some
          productions_there (w ∷ some) [] c made_some there = absurd made_some
          productions_there (w ∷ some) (other ∷ others) c made_some there =
              let vars = variables_there portions w.forms in
              let first = forms_there w c there.0 other.var vars.1 (one_variable w vars.0 other.var there.0 vars.1 made_some.0.variable) (all_in_itself w.forms) in
              let rest = productions_there some others (suc c) made_some.1 there.1 in
              (first.0 ++ rest.0, (first.0, rest.0, refl, first.1, rest.1))

          pub all_productions : (prods : List Prod) × AreProductions cats (listed portions) 0 (categories portions) (map (λ (cat : Cat). cat.var) cats) prods
          all_productions = productions_there (categories portions) cats 0 made (all_in_itself (categories portions))
