-- The signature of a grammar without a fault fits, where its categories of contexts are as they should be.
use Rattle.std.proofs.Common.{◌≡◌, ◌<◌, ◌+◌, ◌&&◌, ℕ, suc, Bool, true, false, List, [], ◌∷◌, ◌++◌, map, length, length-append, Option, None, Some, refl, ap, ◌∙◌, sym, subst, inl, inr, ◌==◌, slice_get, arith, count_by}
use Rattle.std.proofs.lemmas.Bool.{ne_eqb, eq-eqb}
use Rattle.std.proofs.lemmas.List.{append_assoc}
use Rattle.std.proofs.lemmas.List.Sums.{sum_by-append}
use Rattle.std.proofs.Math.Bool.{cond}
use Rattle.std.specs.Option.{MatchOption}
use Rattle.std.specs.Bool.{MatchBool}
use Rattle.std.specs.List.{AllByRecursion, AllZip, Contains}
use Rattle.sy_base.specs.Tokens.{PlainToken}
use Rattle.sy_base.specs.declared.fault.Code.TheVariants as code
use Rattle.binding_terms.specs.Numbered.{AllNumbered}
use Rattle.binding_terms.specs.Signature.{Signature, is_empty_form, ProdFits, CatFits, Fits}
use Rattle.binding_terms.specs.declared.grammar.Cat.{Cat}
use Rattle.binding_terms.specs.declared.grammar.Prod.{Prod}
use Rattle.outline_reader.specs.Plain.{PlainPortion}
use Rattle.rule_schemes.specs.Reading.{IsSpelling, IsCategoryWord}
use Rattle.user_grammar.specs.File.{WrittenCategory, listed, categories, assumed as assumed_texts}
use Rattle.user_grammar.specs.Names.{IsAmong, AllApart, names, category_names}
use Rattle.user_grammar.specs.Production.{IsVariable, IsProduction}
use Rattle.user_grammar.specs.Grammar.{AreForms, no_forms, variable, production, AreProductions}
use Rattle.user_grammar.specs.Fault.{category_texts, IsEmptyForm, IsContextCategory, bad_context, HasNoFault}
use Rattle.user_grammar.specs.MadeItems.{IsFirstVariable, IsMadeCategory}
use Rattle.user_grammar.proofs.OneReading.{one_production}
use Rattle.user_grammar.proofs.MadeParts.{AreNamesOf}
use Rattle.user_grammar.proofs.MadeStands.{FormStands, form_stands}
use Rattle.user_grammar.proofs.MadeContexts.{empty_items, empty_tokens}
use Rattle.user_grammar.proofs.MadeEntries.{AreContexts}
use Rattle.user_grammar.proofs.MadeDecided.{Decided, among_decided}
use Rattle.user_grammar.proofs.MadeForms.{prod_fits}
use Rattle.user_grammar.proofs.MadeKnown.{sound_form}
use Rattle.user_grammar.proofs.MadeWords.{words_of}
use Rattle.binding_terms.proofs.Lists.{all_append, all_contained, all_in_itself, all_right}

got_at : (before : List Cat) (cat : Cat) (after : List Cat) → slice_get (before ++ cat ∷ after) (length before) ≡ Some cat
got_at [] cat after = refl
got_at (k ∷ before) cat after = got_at before cat after

-- ---- counts

-- an empty production of the category with this number
abbrev pub is_empty_of : ℕ → Prod → Bool
is_empty_of c p = (p.cat.0 == c) && is_empty_form p

counted_joined : (c : ℕ) (ps qs : List Prod) → count_by (is_empty_of c) (ps ++ qs) ≡ count_by (is_empty_of c) ps + count_by (is_empty_of c) qs
counted_joined c ps qs = sum_by-append (λ (p : Prod). cond (is_empty_of c p) 1 0) ps qs

counted_yes : (c : ℕ) (p : Prod) (ps : List Prod) → is_empty_of c p ≡ true → count_by (is_empty_of c) (p ∷ ps) ≡ suc (count_by (is_empty_of c) ps)
counted_yes c p ps is =
    let one : ◌≡◌ {A = ℕ} (cond {A = ℕ} (is_empty_of c p) 1 0) 1 = ap (λ (b : Bool). cond {A = ℕ} b 1 0) is in
    let both = counted_joined c (p ∷ []) ps in omega (arith, one, both)

counted_no : (c : ℕ) (p : Prod) (ps : List Prod) → is_empty_of c p ≡ false → count_by (is_empty_of c) (p ∷ ps) ≡ count_by (is_empty_of c) ps
counted_no c p ps is =
    let none : ◌≡◌ {A = ℕ} (cond {A = ℕ} (is_empty_of c p) 1 0) 0 = ap (λ (b : Bool). cond {A = ℕ} b 1 0) is in
    let both = counted_joined c (p ∷ []) ps in omega (arith, none, both)

other_number : (c : ℕ) (p : Prod) → (p.cat.0 ≡ c → ⊥) → is_empty_of c p ≡ false
other_number c p differ = ap (λ (b : Bool). b && is_empty_form p) (ne_eqb p.cat.0 c differ)

own_number : (c : ℕ) (p : Prod) (b : Bool) → p.cat.0 ≡ c → is_empty_form p ≡ b → is_empty_of c p ≡ b
own_number c p b same is = ap (λ (x : Bool). x && is_empty_form p) (eq-eqb p.cat.0 c same) ∙ is

-- productions of another category are not counted
none_of_forms : {cats : List Cat} {texts : List (List ℕ)} {n : ℕ} {var : Option (List ℕ)} {forms : List (List PlainToken)} {ps : List Prod} (c : ℕ) → (n ≡ c → ⊥)
    → AreForms cats texts n var forms ps → count_by (is_empty_of c) ps ≡ 0
none_of_forms c differ no_forms = refl
none_of_forms c differ (variable is more) = none_of_forms c differ more
none_of_forms c differ (production {prod = p} {prods = ps} not made more) =
    counted_no c p ps (other_number c p (λ same. differ (sym made.cat ∙ same))) ∙ none_of_forms c differ more

none_behind : (cats : List Cat) (texts : List (List ℕ)) (c n : ℕ) (some : List WrittenCategory) (vars : List (Option (List ℕ))) (ps : List Prod) → c < n
    → AreProductions cats texts n some vars ps → count_by (is_empty_of c) ps ≡ 0
none_behind cats texts c n [] [] ps lt are = ap (count_by (is_empty_of c)) are
none_behind cats texts c n [] (v ∷ vars) ps lt are = absurd are
none_behind cats texts c n (w ∷ some) [] ps lt are = absurd are
none_behind cats texts c n (w ∷ some) (v ∷ vars) ps lt are =
    let first : count_by (is_empty_of c) are.0 ≡ 0 = none_of_forms c (λ same. (let never : ⊥ = omega (arith, same, lt) in never)) are.3 in
    let rest : count_by (is_empty_of c) are.1 ≡ 0 = none_behind cats texts c (suc n) some vars are.1 (omega (arith, lt)) are.4 in
    let both : count_by (is_empty_of c) (are.0 ++ are.1) ≡ count_by (is_empty_of c) are.0 + count_by (is_empty_of c) are.1 = counted_joined c are.0 are.1 in
    let all : count_by (is_empty_of c) ps ≡ count_by (is_empty_of c) (are.0 ++ are.1) = ap (count_by (is_empty_of c)) are.2 in
    omega (arith, all, both, first, rest)

module _ (portions : List PlainPortion) (no_fault : HasNoFault portions) (assumed : List (List ℕ)) (contexts : AreContexts portions assumed)
    (cats : List Cat) (made : AllZip (IsMadeCategory (category_texts portions) (listed portions) assumed) (categories portions) cats)
    (known : AreNamesOf portions cats) (apart : AllApart (names cats)) (prods : List Prod) where
  abbrev sig : Signature
  sig = record { cats = cats; prods = prods }

  word_of : (w : WrittenCategory) (c : ℕ) (cat : Cat) → slice_get cats c ≡ Some cat → cat.name ≡ w.name.text → (word : List ℕ) → IsSpelling w.name.text word → IsCategoryWord cats c word
  word_of w c cat at name word spells =
      subst (λ (o : Option Cat). MatchOption o ⊥ (λ (k : Cat). IsSpelling k.name word)) (sym at) (subst (λ (n : List ℕ). IsSpelling n word) (sym name) spells)

  module _ (w : WrittenCategory) (there : Contains (categories portions) w) (c : ℕ) (cat : Cat) (at_number : slice_get cats c ≡ Some cat)
      (made_here : IsMadeCategory (category_texts portions) (listed portions) assumed w cat) where
    stands_of : (form : List PlainToken) (here : Contains w.forms form) → FormStands portions cats known form (sound_form portions no_fault w form there here) c
    stands_of form here = form_stands portions cats known apart form (sound_form portions no_fault w form there here) c

    same_prod : (form : List PlainToken) (here : Contains w.forms form) (prod : Prod) → IsProduction cats (listed portions) c form prod → (stands_of form here).prod ≡ prod
    same_prod form here prod is =
        one_production cats (listed portions) apart c form (stands_of form here).prod prod (stands_of form here).is_production is

    forms_fit : {var : Option (List ℕ)} {forms : List (List PlainToken)} {ps : List Prod} → AreForms cats (listed portions) c var forms ps → AllByRecursion (Contains w.forms) forms
        → AllByRecursion (ProdFits sig) ps
    forms_fit no_forms all = tt
    forms_fit (variable is more) all = forms_fit more all.1
    forms_fit (production {form = form} {prod = prod} not is more) all =
        let stands = stands_of form all.0 in (
          subst (ProdFits sig) (same_prod form all.0 prod is)
              (prod_fits portions no_fault assumed contexts cats made known apart prods w there c cat at_number made_here (word_of w c cat at_number made_here.category.name)
              form all.0 (sound_form portions no_fault w form there all.0) stands),
          forms_fit more all.1,
        )

    -- the production is empty where the form is
    empty_prod : (form : List PlainToken) (here : Contains w.forms form) (prod : Prod) → IsProduction cats (listed portions) c form prod → IsEmptyForm portions form → is_empty_form prod ≡ true
    empty_prod form here prod is empty =
        let stands = stands_of form here in
        subst (λ (p : Prod). is_empty_form p ≡ true) (same_prod form here prod is)
        (empty_items portions cats known apart form (sound_form portions no_fault w form there here) (words_of stands.parts) stands.prod.items stands.are_parts stands.made empty)

    prod_empty : (form : List PlainToken) (here : Contains w.forms form) (prod : Prod) → IsProduction cats (listed portions) c form prod → is_empty_form prod ≡ true → IsEmptyForm portions form
    prod_empty form here prod is empty =
        let stands = stands_of form here in
        empty_tokens portions cats known apart form (sound_form portions no_fault w form there here) (words_of stands.parts) stands.prod.items stands.are_parts stands.made
        (subst (λ (p : Prod). is_empty_form p ≡ true) (sym (same_prod form here prod is)) empty)

    filled_prod : (form : List PlainToken) (here : Contains w.forms form) (prod : Prod) → IsProduction cats (listed portions) c form prod → (IsEmptyForm portions form → ⊥) → is_empty_form prod ≡ false
    filled_prod form here prod is not = by_case (is_empty_form prod) (λ empty. not (prod_empty form here prod is empty))
      where
        by_case : (b : Bool) → (b ≡ true → ⊥) → b ≡ false
        by_case true never = absurd (never refl)
        by_case false never = refl

    none_filled : {var : Option (List ℕ)} {forms : List (List PlainToken)} {ps : List Prod} → AreForms cats (listed portions) c var forms ps → AllByRecursion (Contains w.forms) forms
        → AllByRecursion (λ form. IsEmptyForm portions form → ⊥) forms → count_by (is_empty_of c) ps ≡ 0
    none_filled no_forms all none = refl
    none_filled (variable is more) all none = none_filled more all.1 none.1
    none_filled (production {form = form} {prod = prod} {prods = ps} not is more) all none =
        counted_no c prod ps (own_number c prod false is.cat (filled_prod form all.0 prod is none.0)) ∙ none_filled more all.1 none.1

    one_filled : {var : Option (List ℕ)} {forms : List (List PlainToken)} {ps : List Prod} → AreForms cats (listed portions) c var forms ps → AllByRecursion (Contains w.forms) forms
        → AllByRecursion (λ form. IsVariable (category_names cats) (listed portions) form → ⊥) forms
        → (before : List (List PlainToken)) (x : List PlainToken) (after : List (List PlainToken)) → forms ≡ before ++ x ∷ after
        → AllByRecursion (λ form. IsEmptyForm portions form → ⊥) before → IsEmptyForm portions x → AllByRecursion (λ form. IsEmptyForm portions form → ⊥) after
        → count_by (is_empty_of c) ps ≡ 1
    one_filled no_forms all no_vars [] x after split none empty no_more = absurd cc
    one_filled no_forms all no_vars (f ∷ before) x after split none empty no_more = absurd cc
    one_filled (variable is more) all no_vars before x after split none empty no_more = absurd (no_vars.0 is)
    one_filled (production {form = form} {forms = forms} {prod = prod} {prods = ps} not is more) all no_vars [] x after split none empty no_more =
        let same : x ≡ form = cc in let tail : after ≡ forms = cc in
        counted_yes c prod ps (own_number c prod true is.cat (empty_prod form all.0 prod is (subst (IsEmptyForm portions) same empty)))
        ∙ ap suc (none_filled more all.1 (subst (AllByRecursion (λ (f : List PlainToken). IsEmptyForm portions f → ⊥)) tail no_more))
    one_filled (production {form = form} {forms = forms} {prod = prod} {prods = ps} not is more) all no_vars (f ∷ before) x after split none empty no_more =
        let same : f ≡ form = cc in let tail : forms ≡ before ++ x ∷ after = cc in
        counted_no c prod ps (own_number c prod false is.cat (filled_prod form all.0 prod is (subst (λ (g : List PlainToken). IsEmptyForm portions g → ⊥) same none.0)))
        ∙ one_filled more all.1 no_vars.1 before x after tail none.1 empty no_more

  -- the productions of the category that stands behind so many others are counted
  count_at : (c n : ℕ) (before : List WrittenCategory) (w : WrittenCategory) (after : List WrittenCategory) (vars : List (Option (List ℕ))) (ps : List Prod) → n + length before ≡ c
      → AreProductions cats (listed portions) n (before ++ w ∷ after) vars ps
      → ((var : Option (List ℕ)) (first : List Prod) → AreForms cats (listed portions) c var w.forms first → count_by (is_empty_of c) first ≡ 1)
      → count_by (is_empty_of c) ps ≡ 1
  count_at c n [] w after [] ps number are counts = absurd are
  count_at c n [] w after (v ∷ vars) ps number are counts =
      let same : n ≡ c = omega (arith, number) in
      let first : count_by (is_empty_of c) are.0 ≡ 1 = counts v are.0 (subst (λ (k : ℕ). AreForms cats (listed portions) k v w.forms are.0) same are.3) in
      let rest : count_by (is_empty_of c) are.1 ≡ 0 = none_behind cats (listed portions) c (suc n) after vars are.1 (omega (arith, same)) are.4 in
      let both : count_by (is_empty_of c) (are.0 ++ are.1) ≡ count_by (is_empty_of c) are.0 + count_by (is_empty_of c) are.1 = counted_joined c are.0 are.1 in
      let all : count_by (is_empty_of c) ps ≡ count_by (is_empty_of c) (are.0 ++ are.1) = ap (count_by (is_empty_of c)) are.2 in
      omega (arith, all, both, first, rest)
  count_at c n (b ∷ before) w after [] ps number are counts = absurd are
  count_at c n (b ∷ before) w after (v ∷ vars) ps number are counts =
      let first : count_by (is_empty_of c) are.0 ≡ 0 = none_of_forms c (λ same. (let never : ⊥ = omega (arith, same, number) in never)) are.3 in
      let further : suc n + length before ≡ c = omega (arith, number) in
      let rest : count_by (is_empty_of c) are.1 ≡ 1 = count_at c (suc n) before w after vars are.1 further are.4 counts in
      let both : count_by (is_empty_of c) (are.0 ++ are.1) ≡ count_by (is_empty_of c) are.0 + count_by (is_empty_of c) are.1 = counted_joined c are.0 are.1 in
      let all : count_by (is_empty_of c) ps ≡ count_by (is_empty_of c) (are.0 ++ are.1) = ap (count_by (is_empty_of c)) are.2 in
      omega (arith, all, both, first, rest)

  at_front : (fronts : List Cat) (other : Cat) (others : List Cat) (c : ℕ) → cats ≡ fronts ++ other ∷ others → length fronts ≡ c → slice_get cats c ≡ Some other
  at_front fronts other others c whole number =
      ap (λ (n : ℕ). slice_get cats n) (sym number) ∙ ap (λ (cs : List Cat). slice_get cs (length fronts)) whole ∙ got_at fronts other others

  all_prods_fit : (fronts : List Cat) (some : List WrittenCategory) (others : List Cat) (c : ℕ) (ps : List Prod) → cats ≡ fronts ++ others → length fronts ≡ c
      → AllZip (IsMadeCategory (category_texts portions) (listed portions) assumed) some others → AllByRecursion (Contains (categories portions)) some
      → AreProductions cats (listed portions) c some (map (λ (k : Cat). k.var) others) ps → AllByRecursion (ProdFits sig) ps
  all_prods_fit fronts [] [] c ps whole number made_some there are = subst (AllByRecursion (ProdFits sig)) (sym are) tt
  all_prods_fit fronts [] (other ∷ others) c ps whole number made_some there are = absurd made_some
  all_prods_fit fronts (w ∷ some) [] c ps whole number made_some there are = absurd made_some
  all_prods_fit fronts (w ∷ some) (other ∷ others) c ps whole number made_some there are =
      let at = at_front fronts other others c whole number in
      let first = forms_fit w there.0 c other at made_some.0 are.3 (all_in_itself w.forms) in
      let longer : length (fronts ++ other ∷ []) ≡ suc c = length-append fronts (other ∷ []) ∙ (omega (arith, number)) in
      let rest = all_prods_fit (fronts ++ other ∷ []) some others (suc c) are.1 (whole ∙ sym (append_assoc fronts (other ∷ []) others)) longer made_some.1 there.1 are.4 in
      subst (AllByRecursion (ProdFits sig)) (sym are.2) (all_append (ProdFits sig) are.0 are.1 first rest)

  no_first_variable : (texts : List (List ℕ)) (forms : List (List PlainToken)) (var : Option (List ℕ)) → AllByRecursion (λ form. IsVariable texts (listed portions) form → ⊥) forms
      → IsFirstVariable texts (listed portions) forms var → var ≡ None
  no_first_variable texts forms None none first = refl
  no_first_variable texts forms (Some name) none first =
      let behind = all_right (λ (form : List PlainToken). IsVariable texts (listed portions) form → ⊥) first.0 ((first.1 ∷ []) ∷ first.2)
      (subst (AllByRecursion (λ (form : List PlainToken). IsVariable texts (listed portions) form → ⊥)) first.3 none) in
      absurd (behind.0 first.5)

  module _ (same_names : category_texts portions ≡ category_names cats) (vars : List (Option (List ℕ)))
      (are_all : AreProductions cats (listed portions) 0 (categories portions) vars prods) where
    cat_fits : (before : List WrittenCategory) (w : WrittenCategory) (after : List WrittenCategory) (there : Contains (categories portions) w) (c : ℕ) (cat : Cat)
        → slice_get cats c ≡ Some cat → IsMadeCategory (category_texts portions) (listed portions) assumed w cat → categories portions ≡ before ++ w ∷ after → length before ≡ c
        → CatFits sig c cat
    cat_fits before w after there c cat at made_here whole number = by_mark cat.context made_here.category.context.0
      where
        by_mark : (b : Bool) → (b ≡ true → IsAmong assumed cat.name) → MatchBool b ((cat.var ≡ None) × (count_by (is_empty_of c) prods ≡ 1)) (Unit {0})
        by_mark false is = tt
        by_mark true is =
            let context = contexts w there (subst (IsAmong assumed) made_here.category.name (is refl)) in
            let one = context.empty_form in
            let no_vars = subst (λ (ns : List (List ℕ)). AllByRecursion (λ form. IsVariable ns (listed portions) form → ⊥) w.forms) same_names context.no_variable in (
              no_first_variable (category_texts portions) w.forms cat.var context.no_variable made_here.variable,
              count_at c 0 before w after vars prods (omega (arith, number)) (subst (λ (ws : List WrittenCategory). AreProductions cats (listed portions) 0 ws vars prods) whole are_all)
                  (λ var first are. one_filled w there c cat at made_here are (all_in_itself w.forms) no_vars one.0 one.1 one.2 one.3 one.5 one.4 one.6),
            )

    all_cats_fit : (fronts : List Cat) (before some : List WrittenCategory) (others : List Cat) (c : ℕ) → cats ≡ fronts ++ others → length fronts ≡ c
        → categories portions ≡ before ++ some → length before ≡ c → AllZip (IsMadeCategory (category_texts portions) (listed portions) assumed) some others
        → AllByRecursion (Contains (categories portions)) some → AllNumbered (CatFits sig) c others
    all_cats_fit fronts before [] [] c whole number written also made_some there = tt
    all_cats_fit fronts before [] (other ∷ others) c whole number written also made_some there = absurd made_some
    all_cats_fit fronts before (w ∷ some) [] c whole number written also made_some there = absurd made_some
    all_cats_fit fronts before (w ∷ some) (other ∷ others) c whole number written also made_some there =
        let longer : length (fronts ++ other ∷ []) ≡ suc c = length-append fronts (other ∷ []) ∙ (omega (arith, number)) in
        let later : length (before ++ w ∷ []) ≡ suc c = length-append before (w ∷ []) ∙ (omega (arith, also)) in (
          cat_fits before w some there.0 c other (at_front fronts other others c whole number) made_some.0 written also,
          all_cats_fit (fronts ++ other ∷ []) (before ++ w ∷ []) some others (suc c) (whole ∙ sym (append_assoc fronts (other ∷ []) others)) longer
              (written ∙ sym (append_assoc before (w ∷ []) some)) later made_some.1 there.1,
        )

  pub signature_fits : category_texts portions ≡ category_names cats → AreProductions cats (listed portions) 0 (categories portions) (map (λ (k : Cat). k.var) cats) prods → Fits sig
  signature_fits same are = record {
    prods = all_prods_fit [] (categories portions) cats 0 prods refl refl made (all_in_itself (categories portions)) are;
    cats = all_cats_fit same (map (λ (k : Cat). k.var) cats) are [] [] (categories portions) cats 0 refl refl refl refl made (all_in_itself (categories portions));
  }

-- nothing says that the categories of contexts are not as they should be
collected : (portions : List PlainPortion) → HasNoFault portions → (some : List WrittenCategory) → AllByRecursion (Contains (categories portions)) some
    → (AllByRecursion (λ v. IsAmong (assumed_texts portions) v.name.text → IsContextCategory portions v) some → ⊥) → ⊥
collected portions no_fault [] there refuse = refuse tt
collected portions no_fault (v ∷ some) there refuse = by_case (among_decided (assumed_texts portions) v.name.text) (collected portions no_fault some there.1)
  where
    by_case : Decided (IsAmong (assumed_texts portions) v.name.text)
        → ((AllByRecursion (λ u. IsAmong (assumed_texts portions) u.name.text → IsContextCategory portions u) some → ⊥) → ⊥) → ⊥
    by_case (inr not) rest = rest (λ all. refuse ((λ among. absurd (not among)), all))
    by_case (inl among) rest =
        no_fault code.BadContext v.mark v.name.text (bad_context v refl refl there.0 refl among (λ context. rest (λ all. refuse ((λ is. context), all))))

pub contexts_stand : (portions : List PlainPortion) → HasNoFault portions → (AreContexts portions (assumed_texts portions) → ⊥) → ⊥
contexts_stand portions no_fault refuse =
    collected portions no_fault (categories portions) (all_in_itself (categories portions))
    (λ all. refuse (λ v there among. all_contained (λ (u : WrittenCategory). IsAmong (assumed_texts portions) u.name.text → IsContextCategory portions u) (categories portions) v all there among))
