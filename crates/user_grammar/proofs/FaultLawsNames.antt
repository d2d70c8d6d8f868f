-- Where a file has a signature, no name is declared twice.
use Rattle.std.proofs.Common.{◌≡◌, ◌≢◌, ℕ, zero, suc, Bool, true, false, cond, List, [], ◌∷◌, ◌++◌, map, Option, None, Some, refl, ap, ◌∙◌, sym, subst, inl, inr, arith}
use Rattle.std.proofs.lemmas.List.{append_assoc, append-nil, map-append}
use Rattle.std.proofs.lemmas.List.Elements.{Contains-append_left, Contains-append_right}
use Rattle.std.specs.List.{AllByRecursion, Contains}
use Rattle.sy_base.specs.Tokens.{PlainToken}
use Rattle.binding_terms.specs.Signature.{Signature, ProdFits}
use Rattle.binding_terms.specs.declared.grammar.Cat.{Cat}
use Rattle.binding_terms.specs.declared.grammar.Prod.{Prod}
use Rattle.rule_schemes.specs.Reading.{IsSpelling}
use Rattle.outline_reader.specs.Plain.{PlainPortion, terminals, syntax_word, category, judgment_of, rule_of, theorem_of, step_of, inversion, case_rule, case_term, end_line}
use Rattle.user_grammar.specs.File.{WrittenCategory, listed, listed_in, categories, category_in}
use Rattle.user_grammar.specs.Names.{IsAmong, IsNoSpelling, names_if, names, category_names, variable_names, AreApart, AllApart, AllDiffer}
use Rattle.user_grammar.specs.Production.{IsVariable}
use Rattle.user_grammar.specs.Grammar.{AreForms, no_forms, variable, production, AreProductions, IsWritten}
use Rattle.user_grammar.specs.Fault.{Sort, a_terminal, a_category, a_variable, Declared, declared_as, IsSpelledBy, AreVariables, no_variables, a_word, a_production, DeclaresHere, DeclareAll, IsDuplicate, common_spelling, second_variable}
use Rattle.user_grammar.proofs.Spellings.{apart_left, apart_right, apart_across}
use Rattle.user_grammar.proofs.FaultLawsWords.{declared, same_names}
use Rattle.user_grammar.proofs.FaultLawsFiles.{found}
use Rattle.binding_terms.proofs.Lists.{all_front, all_right}

-- ---- the names of each sort

abbrev is_terminal : Sort → Bool
is_terminal a_terminal = true
is_terminal a_category = false
is_terminal a_variable = false

abbrev is_category : Sort → Bool
is_category a_terminal = false
is_category a_category = true
is_category a_variable = false

abbrev is_variable : Sort → Bool
is_variable a_terminal = false
is_variable a_category = false
is_variable a_variable = true

-- the texts of what is of the sorts that pass
abbrev texts : (Sort → Bool) → List Declared → List (List ℕ)
texts passes [] = []
texts passes (d ∷ ds) = cond (passes d.sort) (d.token.text ∷ []) [] ++ texts passes ds

texts_both : (passes : Sort → Bool) (ds es : List Declared) → texts passes (ds ++ es) ≡ texts passes ds ++ texts passes es
texts_both passes [] es = refl
texts_both passes (d ∷ ds) es =
    let own = cond (passes d.sort) (d.token.text ∷ []) [] in
    ap (λ ts. own ++ ts) (texts_both passes ds es) ∙ sym (append_assoc own (texts passes ds) (texts passes es))

one_of_them : (passes : Sort → Bool) (ds : List Declared) (d : Declared) → Contains ds d → passes d.sort ≡ true → IsAmong (texts passes ds) d.token.text
one_of_them passes [] d at is = absurd (let lt = at.1 in omega (arith, lt))
one_of_them passes (e ∷ ds) d (zero, lt, same) is =
    let now : passes e.sort ≡ true = ap (λ (x : Declared). passes x.sort) same ∙ is in
    subst (λ b. IsAmong (cond b (e.token.text ∷ []) [] ++ texts passes ds) d.token.text) (sym now) (inl (ap (λ (x : Declared). x.token.text) same))
one_of_them passes (e ∷ ds) d (suc k, lt, same) is =
    behind (passes e.sort) (one_of_them passes ds d (k, omega (arith, lt), same) is)
  where
    behind : (b : Bool) → IsAmong (texts passes ds) d.token.text → IsAmong (cond b (e.token.text ∷ []) [] ++ texts passes ds) d.token.text
    behind true among = inr among
    behind false among = among

-- ---- no two texts of a list

differ_before : (xs ys : List (List ℕ)) (x y : List ℕ) → AllDiffer (xs ++ y ∷ ys) → IsAmong xs x → x ≢ y
differ_before [] ys x y differ among same = among
differ_before (z ∷ xs) ys x y differ (inl is) same = at_seam xs differ.0 (is ∙ same)
  where
    at_seam : (xs : List (List ℕ)) → AllByRecursion (λ other. z ≢ other) (xs ++ y ∷ ys) → z ≡ y → ⊥
    at_seam [] all = all.0
    at_seam (w ∷ xs) all = at_seam xs all.1
differ_before (z ∷ xs) ys x y differ (inr among) same = differ_before xs ys x y differ.1 among same

apart_before : (xs ys : List (List ℕ)) (x y : List ℕ) → AllApart (xs ++ y ∷ ys) → IsAmong xs x → AreApart x y
apart_before [] ys x y apart among = absurd among
apart_before (z ∷ xs) ys x y apart (inl is) = subst (λ w. AreApart w y) is (at_seam xs apart.0)
  where
    at_seam : (xs : List (List ℕ)) → AllByRecursion (AreApart z) (xs ++ y ∷ ys) → AreApart z y
    at_seam [] all = all.0
    at_seam (w ∷ xs) all = at_seam xs all.1
apart_before (z ∷ xs) ys x y apart (inr among) = apart_before xs ys x y apart.1 among

at_text : (P : List ℕ → Type 0) (xs : List (List ℕ)) (x : List ℕ) → AllByRecursion P xs → IsAmong xs x → P x
at_text P [] x all among = absurd among
at_text P (y ∷ xs) x all (inl is) = subst P is all.0
at_text P (y ∷ xs) x all (inr among) = at_text P xs x all.1 among

-- ---- what the portions declare

terminals_alone : (tokens : List PlainToken) → texts is_terminal (map (declared_as a_terminal) tokens) ≡ map (λ token. token.text) tokens
terminals_alone [] = refl
terminals_alone (t ∷ tokens) = ap (λ ts. t.text ∷ ts) (terminals_alone tokens)

no_categories : (tokens : List PlainToken) → texts is_category (map (declared_as a_terminal) tokens) ≡ []
no_categories [] = refl
no_categories (t ∷ tokens) = no_categories tokens

no_variables_listed : (tokens : List PlainToken) → texts is_variable (map (declared_as a_terminal) tokens) ≡ []
no_variables_listed [] = refl
no_variables_listed (t ∷ tokens) = no_variables_listed tokens

no_terminals : (tokens : List PlainToken) → texts is_terminal (map (declared_as a_variable) tokens) ≡ []
no_terminals [] = refl
no_terminals (t ∷ tokens) = no_terminals tokens

no_names : (tokens : List PlainToken) → texts is_category (map (declared_as a_variable) tokens) ≡ []
no_names [] = refl
no_names (t ∷ tokens) = no_names tokens

variables_alone : (tokens : List PlainToken) → texts is_variable (map (declared_as a_variable) tokens) ≡ map (λ token. token.text) tokens
variables_alone [] = refl
variables_alone (t ∷ tokens) = ap (λ ts. t.text ∷ ts) (variables_alone tokens)

module _ (portions : List PlainPortion) where
  -- the texts of the variables of these categories
  abbrev VariableTexts : List WrittenCategory → List (List ℕ) → Type 0
  VariableTexts [] ts = ts ≡ []
  VariableTexts (w ∷ ws) ts =
      (tokens : List PlainToken) × (others : List (List ℕ)) × AreVariables portions w.forms tokens × (ts ≡ map (λ token. token.text) tokens ++ others) × VariableTexts ws others

  more_variables : (ws vs : List WrittenCategory) (ts us : List (List ℕ)) → VariableTexts ws ts → VariableTexts vs us → VariableTexts (ws ++ vs) (ts ++ us)
  more_variables [] vs ts us one other = subst (λ xs. VariableTexts vs (xs ++ us)) (sym one) other
  more_variables (w ∷ ws) vs ts us one other =
      (one.0, one.1 ++ us, one.2, ap (λ xs. xs ++ us) one.3 ∙ append_assoc (map (λ token. token.text) one.0) one.1 us, more_variables ws vs one.1 us one.4 other)

  record Says (portion : PlainPortion) (ds : List Declared) : Type 0 where
    terms : texts is_terminal ds ≡ listed_in portion
    cats : texts is_category ds ≡ map (λ (w : WrittenCategory). w.name.text) (category_in portion)
    vars : VariableTexts (category_in portion) (texts is_variable ds)

  says : (portion : PlainPortion) (ds : List Declared) → DeclaresHere portions portion ds → Says portion ds
  says (terminals first tokens) ds here = subst (Says (terminals first tokens)) (sym here) (record {
    terms = terminals_alone tokens;
    cats = no_categories tokens;
    vars = no_variables_listed tokens;
  })
  says (category name mark forms) ds here = subst (Says (category name mark forms)) (sym here.2) (record {
    terms = no_terminals here.0;
    cats = ap (λ ts. name.text ∷ ts) (no_names here.0);
    vars = (here.0, [], here.1, variables_alone here.0 ∙ sym (append-nil (map (λ token. token.text) here.0)), refl);
  })
  says (syntax_word first) ds here = subst (Says (syntax_word first)) (sym here) (record { terms = refl; cats = refl; vars = refl })
  says (judgment_of first name form assumes) ds here = subst (Says (judgment_of first name form assumes)) (sym here) (record { terms = refl; cats = refl; vars = refl })
  says (rule_of premises name conclusion) ds here = subst (Says (rule_of premises name conclusion)) (sym here) (record { terms = refl; cats = refl; vars = refl })
  says (theorem_of first joined kind name assumes inputs outputs targets) ds here =
      subst (Says (theorem_of first joined kind name assumes inputs outputs targets)) (sym here) (record { terms = refl; cats = refl; vars = refl })
  says (step_of first names forms why) ds here = subst (Says (step_of first names forms why)) (sym here) (record { terms = refl; cats = refl; vars = refl })
  says (inversion first subject premises name conclusion) ds here =
      subst (Says (inversion first subject premises name conclusion)) (sym here) (record { terms = refl; cats = refl; vars = refl })
  says (case_rule first premises name conclusion) ds here = subst (Says (case_rule first premises name conclusion)) (sym here) (record { terms = refl; cats = refl; vars = refl })
  says (case_term first form assumes) ds here = subst (Says (case_term first form assumes)) (sym here) (record { terms = refl; cats = refl; vars = refl })
  says (end_line first part) ds here = subst (Says (end_line first part)) (sym here) (record { terms = refl; cats = refl; vars = refl })

  record SayAll (left : List PlainPortion) (ds : List Declared) : Type 0 where
    terms : texts is_terminal ds ≡ listed left
    cats : texts is_category ds ≡ map (λ (w : WrittenCategory). w.name.text) (categories left)
    vars : VariableTexts (categories left) (texts is_variable ds)

  say_all : (left : List PlainPortion) (ds : List Declared) → DeclareAll portions left ds → SayAll left ds
  say_all [] ds all = subst (SayAll []) (sym all) (record { terms = refl; cats = refl; vars = refl })
  say_all (portion ∷ left) ds all =
      let here = says portion all.0 all.3 in
      let more = say_all left all.1 all.4 in
      subst (SayAll (portion ∷ left)) (sym all.2) (record {
        terms = texts_both is_terminal all.0 all.1 ∙ ap (λ ts. ts ++ texts is_terminal all.1) here.terms ∙ ap (λ ts. listed_in portion ++ ts) more.terms;
        cats = texts_both is_category all.0 all.1 ∙ ap (λ ts. ts ++ texts is_category all.1) here.cats
            ∙ ap (λ ts. map (λ (w : WrittenCategory). w.name.text) (category_in portion) ++ ts) more.cats
            ∙ sym (map-append (λ (w : WrittenCategory). w.name.text) (category_in portion) (categories left));
        vars = subst (VariableTexts (category_in portion ++ categories left)) (sym (texts_both is_variable all.0 all.1))
            (more_variables (category_in portion) (categories left) (texts is_variable all.0) (texts is_variable all.1) here.vars more.vars);
      })

-- ---- the signature's variables

module _ (portions : List PlainPortion) (sig : Signature) (file : IsWritten portions sig) where
  pub own_names : {c : ℕ} {var : Option (List ℕ)} {forms : List (List PlainToken)} {prods : List Prod} {tokens : List PlainToken}
      → AreForms sig.cats (listed portions) c var forms prods → AreVariables portions forms tokens → map (λ token. token.text) tokens ≡ names_if var
  own_names no_forms no_variables = refl
  own_names (variable {token = token} is more) (a_word also rest) = ap (λ ts. token.text ∷ ts) (own_names more rest)
  own_names (variable {token = token} is more) (a_production nor rest) =
      absurd (nor (subst (λ ns. IsVariable ns (listed portions) (token ∷ [])) (same_names portions sig file) is))
  own_names (production not made more) (a_word {token = token} also rest) = absurd (not (declared portions sig.cats (same_names portions sig file) (token ∷ []) also))
  own_names (production not made more) (a_production nor rest) = own_names more rest

  all_names : (n : ℕ) (ws : List WrittenCategory) (own : List Cat) (prods : List Prod) (ts : List (List ℕ))
      → AreProductions sig.cats (listed portions) n ws (map (λ cat. cat.var) own) prods → VariableTexts portions ws ts → ts ≡ variable_names own
  all_names n [] [] prods ts made are = are
  all_names n [] (cat ∷ own) prods ts made are = absurd made
  all_names n (w ∷ ws) [] prods ts made are = absurd made
  all_names n (w ∷ ws) (cat ∷ own) prods ts made are =
      are.3 ∙ ap (λ xs. xs ++ are.1) (own_names made.3 are.2) ∙ ap (λ xs. names_if cat.var ++ xs) (all_names (suc n) ws own made.1 are.1 made.4 are.4)

  -- ---- no common spelling

  record IsSplit (before after : List Declared) (d : Declared) : Type 0 where
    terms : texts is_terminal (before ++ d ∷ after) ≡ listed portions
    cats : texts is_category (before ++ d ∷ after) ≡ category_names sig.cats
    vars : texts is_variable (before ++ d ∷ after) ≡ variable_names sig.cats

  no_category_word : (text word : List ℕ) → IsNoSpelling (names sig.cats) word → IsAmong (category_names sig.cats) text → IsSpelling text word → ⊥
  no_category_word text word none among spells =
      at_text (λ name. IsSpelling name word → ⊥) (category_names sig.cats) text (all_front (λ name. IsSpelling name word → ⊥) (category_names sig.cats) (variable_names sig.cats) none) among spells

  no_variable_word : (text word : List ℕ) → IsNoSpelling (names sig.cats) word → IsAmong (variable_names sig.cats) text → IsSpelling text word → ⊥
  no_variable_word text word none among spells =
      at_text (λ name. IsSpelling name word → ⊥) (variable_names sig.cats) text (all_right (λ name. IsSpelling name word → ⊥) (category_names sig.cats) (variable_names sig.cats) none) among spells

  terminal_text : (text word : List ℕ) → IsAmong (listed portions) text → word ≡ text → IsNoSpelling (names sig.cats) word
  terminal_text text word among is = subst (IsNoSpelling (names sig.cats)) (sym is) (at_text (IsNoSpelling (names sig.cats)) (listed portions) text file.names.no_spellings among)

  across : (one other word : List ℕ) → IsAmong (category_names sig.cats) one → IsAmong (variable_names sig.cats) other → IsSpelling one word → IsSpelling other word → ⊥
  across one other word first second spells also =
      let all = at_text (λ name. AllByRecursion (AreApart name) (variable_names sig.cats)) (category_names sig.cats) one
      (apart_across (category_names sig.cats) (variable_names sig.cats) file.names.apart) first in
      (at_text (AreApart one) (variable_names sig.cats) other all second).nothing_common word spells also

  in_listed : (before after : List Declared) (d e : Declared) → IsSplit before after d → Contains before e → is_terminal e.sort ≡ true → IsAmong (listed portions) e.token.text
  in_listed before after d e split at is =
      subst (λ ts. IsAmong ts e.token.text) split.terms (one_of_them is_terminal (before ++ d ∷ after) e (Contains-append_left before (d ∷ after) e at) is)

  in_categories : (before after : List Declared) (d e : Declared) → IsSplit before after d → Contains before e → is_category e.sort ≡ true → IsAmong (category_names sig.cats) e.token.text
  in_categories before after d e split at is =
      subst (λ ts. IsAmong ts e.token.text) split.cats (one_of_them is_category (before ++ d ∷ after) e (Contains-append_left before (d ∷ after) e at) is)

  in_variables : (before after : List Declared) (d e : Declared) → IsSplit before after d → Contains before e → is_variable e.sort ≡ true → IsAmong (variable_names sig.cats) e.token.text
  in_variables before after d e split at is =
      subst (λ ts. IsAmong ts e.token.text) split.vars (one_of_them is_variable (before ++ d ∷ after) e (Contains-append_left before (d ∷ after) e at) is)

  -- where each text of the two stands, by their sorts
  clash : (before after : List Declared) (earlier_sort sort : Sort) (first token : PlainToken) (word : List ℕ) → IsSplit before after (declared_as sort token)
      → Contains before (declared_as earlier_sort first) → Contains (before ++ declared_as sort token ∷ after) (declared_as sort token)
      → IsSpelledBy earlier_sort first.text word → IsSpelledBy sort token.text word → ⊥
  clash before after a_terminal a_terminal first token word split earlier later one other =
      differ_before (texts is_terminal before) (texts is_terminal after) first.text token.text
      (subst AllDiffer (sym split.terms ∙ texts_both is_terminal before (declared_as a_terminal token ∷ after)) file.names.different)
      (one_of_them is_terminal before (declared_as a_terminal first) earlier refl) (sym one ∙ other)
  clash before after a_category a_category first token word split earlier later one other =
      (apart_before (texts is_category before) (texts is_category after) first.text token.text
      (subst AllApart (sym split.cats ∙ texts_both is_category before (declared_as a_category token ∷ after)) (apart_left (category_names sig.cats) (variable_names sig.cats) file.names.apart))
      (one_of_them is_category before (declared_as a_category first) earlier refl)).nothing_common word one other
  clash before after a_variable a_variable first token word split earlier later one other =
      (apart_before (texts is_variable before) (texts is_variable after) first.text token.text
      (subst AllApart (sym split.vars ∙ texts_both is_variable before (declared_as a_variable token ∷ after)) (apart_right (category_names sig.cats) (variable_names sig.cats) file.names.apart))
      (one_of_them is_variable before (declared_as a_variable first) earlier refl)).nothing_common word one other
  clash before after a_terminal a_category first token word split earlier later one other =
      no_category_word token.text word (terminal_text first.text word (in_listed before after (declared_as a_category token) (declared_as a_terminal first) split earlier refl) one)
      (subst (λ ts. IsAmong ts token.text) split.cats (one_of_them is_category (before ++ declared_as a_category token ∷ after) (declared_as a_category token) later refl)) other
  clash before after a_terminal a_variable first token word split earlier later one other =
      no_variable_word token.text word (terminal_text first.text word (in_listed before after (declared_as a_variable token) (declared_as a_terminal first) split earlier refl) one)
      (subst (λ ts. IsAmong ts token.text) split.vars (one_of_them is_variable (before ++ declared_as a_variable token ∷ after) (declared_as a_variable token) later refl)) other
  clash before after a_category a_terminal first token word split earlier later one other =
      no_category_word first.text word (terminal_text token.text word
      (subst (λ ts. IsAmong ts token.text) split.terms (one_of_them is_terminal (before ++ declared_as a_terminal token ∷ after) (declared_as a_terminal token) later refl)) other)
      (in_categories before after (declared_as a_terminal token) (declared_as a_category first) split earlier refl) one
  clash before after a_variable a_terminal first token word split earlier later one other =
      no_variable_word first.text word (terminal_text token.text word
      (subst (λ ts. IsAmong ts token.text) split.terms (one_of_them is_terminal (before ++ declared_as a_terminal token ∷ after) (declared_as a_terminal token) later refl)) other)
      (in_variables before after (declared_as a_terminal token) (declared_as a_variable first) split earlier refl) one
  clash before after a_category a_variable first token word split earlier later one other =
      across first.text token.text word (in_categories before after (declared_as a_variable token) (declared_as a_category first) split earlier refl)
      (subst (λ ts. IsAmong ts token.text) split.vars (one_of_them is_variable (before ++ declared_as a_variable token ∷ after) (declared_as a_variable token) later refl)) one other
  clash before after a_variable a_category first token word split earlier later one other =
      across token.text first.text word
      (subst (λ ts. IsAmong ts token.text) split.cats (one_of_them is_category (before ++ declared_as a_category token ∷ after) (declared_as a_category token) later refl))
      (in_variables before after (declared_as a_category token) (declared_as a_variable first) split earlier refl) other one

  two_names : (var : Option (List ℕ)) (first token : PlainToken) (before after : List PlainToken) → map (λ token. token.text) (first ∷ (before ++ token ∷ after)) ≡ names_if var → ⊥
  two_names None first token before after same = cc
  two_names (Some name) first token [] after same = cc
  two_names (Some name) first token (t ∷ before) after same = cc

  pub nothing_declared_twice : AllByRecursion (ProdFits sig) sig.prods → (token : PlainToken) → IsDuplicate portions token → ⊥
  nothing_declared_twice fit token (common_spelling all before after sort earlier word declares split at one other) =
      let said = say_all portions portions all declares in
      let parts : IsSplit before after (declared_as sort token) = record {
        terms = ap (texts is_terminal) (sym split) ∙ said.terms;
        cats = ap (texts is_category) (sym split) ∙ said.cats ∙ sym (same_names portions sig file);
        vars = ap (texts is_variable) (sym split) ∙ all_names 0 (categories portions) sig.cats sig.prods (texts is_variable all) file.prods said.vars;
      } in
      clash before after earlier.sort sort earlier.token token word parts at
      (Contains-append_right before (declared_as sort token ∷ after) (declared_as sort token) (0, omega arith, refl)) one other
  nothing_declared_twice fit token (second_variable written first before after at are) =
      let own = found portions sig file written fit at in
      two_names own.cat.var first token before after (own_names own.forms are)
