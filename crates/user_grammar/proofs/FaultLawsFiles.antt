-- What a signature has of each written category: its number, its productions, and that they fit.
use Rattle.std.proofs.Common.{◌≡◌, ◌≢◌, ◌<◌, ◌+◌, ℕ, zero, suc, Bool, false, List, [], ◌∷◌, map, Option, Some, refl, ap, ◌∙◌, sym, subst, slice_get, count_by, arith}
use Rattle.std.specs.Option.{MatchOption}
use Rattle.std.specs.List.{AllByRecursion, AllZip, Contains}
use Rattle.sy_base.specs.Tokens.{PlainToken}
use Rattle.binding_terms.specs.Numbered.{AreDifferent}
use Rattle.binding_terms.specs.Signature.{Signature, Place, slots, PlaceFits, ProdFits}
use Rattle.binding_terms.specs.declared.grammar.Cat.{Cat}
use Rattle.binding_terms.specs.declared.grammar.Item.TheVariants.{Binder}
use Rattle.binding_terms.specs.declared.grammar.Prod.{Prod}
use Rattle.rule_schemes.specs.Reading.{IsSpelling}
use Rattle.outline_reader.specs.Plain.{PlainPortion}
use Rattle.user_grammar.specs.File.{WrittenCategory, listed, categories, assumed}
use Rattle.user_grammar.specs.Names.{category_names}
use Rattle.user_grammar.specs.Production.{AreItems, no_items, binder, IsVariable}
use Rattle.user_grammar.specs.Grammar.{IsCategory, AreForms, no_forms, variable, production, AreProductions, IsWritten}
use Rattle.user_grammar.specs.Fault.{category_texts, IsSlotWord, IsOneSlot}
use Rattle.user_grammar.proofs.Spellings.{Spells}
use Rattle.user_grammar.proofs.FaultLawsWords.{SpellsOption, same_names}
use Rattle.user_grammar.proofs.FaultLawsForms.{IsRead, no_items_left, single_item}
use Rattle.rule_schemes.proofs.SpellingLemmas.{IsSpelling_itself}
use Rattle.binding_terms.proofs.Lists.{all_also, all_append, all_front, all_right, any_not_none, counted_before, counted_behind, number_of}

-- ---- the numbers of productions

numbered : {cats : List Cat} {texts : List (List ℕ)} {c : ℕ} {var : Option (List ℕ)} {forms : List (List PlainToken)} {prods : List Prod}
    → AreForms cats texts c var forms prods → AllByRecursion (λ p. p.cat.0 ≡ c) prods
numbered no_forms = tt
numbered (variable is more) = numbered more
numbered (production not made more) = (made.cat, numbered more)

later : (cats : List Cat) (texts : List (List ℕ)) (n m : ℕ) (written : List WrittenCategory) (vars : List (Option (List ℕ))) (prods : List Prod) → n < m
    → AreProductions cats texts m written vars prods → AllByRecursion (λ p. p.cat.0 ≢ n) prods
later cats texts n m [] [] prods less made = subst (AllByRecursion (λ p. p.cat.0 ≢ n)) (sym made) tt
later cats texts n m [] (v ∷ vars) prods less made = absurd made
later cats texts n m (w ∷ written) [] prods less made = absurd made
later cats texts n m (w ∷ written) (v ∷ vars) prods less made =
    let first = all_also (λ p. p.cat.0 ≡ m) (λ p. p.cat.0 ≢ n) made.0 (λ p is same. (let both : m ≡ n = sym is ∙ same in omega (arith, both, less))) (numbered made.3) in
    let rest = later cats texts n (suc m) written vars made.1 (omega (arith, less)) made.4 in
    subst (AllByRecursion (λ p. p.cat.0 ≢ n)) (sym made.2) (all_append (λ p. p.cat.0 ≢ n) made.0 made.1 first rest)

-- ---- one written category

module _ (portions : List PlainPortion) (sig : Signature) (file : IsWritten portions sig) where
  record IsPart (n : ℕ) (own : List Cat) (prods : List Prod) (k : ℕ) (written : WrittenCategory) : Type 0 where
    cat : Cat
    at : slice_get own k ≡ Some cat
    is : IsCategory (assumed portions) written cat
    made : List Prod
    forms : AreForms sig.cats (listed portions) (n + k) cat.var written.forms made
    fit : AllByRecursion (ProdFits sig) made
    counted : (test : Prod → Bool) → ((p : Prod) → p.cat.0 ≢ n + k → test p ≡ false) → count_by test prods ≡ count_by test made

  part : (n : ℕ) (ws : List WrittenCategory) (own : List Cat) (prods : List Prod) (k : ℕ) (written : WrittenCategory)
      → AllZip (IsCategory (assumed portions)) ws own → AreProductions sig.cats (listed portions) n ws (map (λ cat. cat.var) own) prods
      → AllByRecursion (ProdFits sig) prods → slice_get ws k ≡ Some written → IsPart n own prods k written
  part n [] own prods k written zip made fit at = cc
  part n (w ∷ ws) [] prods k written zip made fit at = absurd zip
  part n (w ∷ ws) (cat ∷ own) prods zero written zip made fit at =
      let same : w ≡ written = cc in
      let number : n ≡ n + 0 = omega arith in
      let all = subst (AllByRecursion (ProdFits sig)) made.2 fit in
      let others = later sig.cats (listed portions) n (suc n) ws (map (λ cat. cat.var) own) made.1 (omega arith) made.4 in
      record {
        cat = cat;
        at = refl;
        is = subst (λ w. IsCategory (assumed portions) w cat) same zip.0;
        made = made.0;
        forms = subst (λ m. AreForms sig.cats (listed portions) m cat.var written.forms made.0) number
            (subst (λ w. AreForms sig.cats (listed portions) n cat.var w.forms made.0) same made.3);
        fit = all_front (ProdFits sig) made.0 made.1 all;
        counted = λ test fails. (
            let none = all_also (λ p. p.cat.0 ≢ n) (λ p. test p ≡ false) made.1 (λ p differs. fails p (subst (λ m. p.cat.0 ≢ m) number differs)) others in
            ap (count_by test) made.2 ∙ counted_before test made.0 made.1 none);
      }
  part n (w ∷ ws) (cat ∷ own) prods (suc k) written zip made fit at =
      let all = subst (AllByRecursion (ProdFits sig)) made.2 fit in
      let more = part (suc n) ws own made.1 k written zip.1 made.4 (all_right (ProdFits sig) made.0 made.1 all) at in
      let number : suc n + k ≡ n + suc k = omega arith in
      record {
        cat = more.cat;
        at = more.at;
        is = more.is;
        made = more.made;
        forms = subst (λ m. AreForms sig.cats (listed portions) m more.cat.var written.forms more.made) number more.forms;
        fit = more.fit;
        counted = λ test fails. (
            let none = all_also (λ p. p.cat.0 ≡ n) (λ p. test p ≡ false) made.0
            (λ p is. fails p (λ same. (let both : n ≡ n + suc k = sym is ∙ same in omega (arith, both)))) (numbered made.3) in
            ap (count_by test) made.2 ∙ counted_behind test made.0 made.1 none
            ∙ more.counted test (λ p differs. fails p (subst (λ m. p.cat.0 ≢ m) number differs)));
      }

  pub record IsFound (written : WrittenCategory) : Type 0 where
    pub number : ℕ
    pub there : slice_get (categories portions) number ≡ Some written
    pub cat : Cat
    pub at : slice_get sig.cats number ≡ Some cat
    pub is : IsCategory (assumed portions) written cat
    pub made : List Prod
    pub forms : AreForms sig.cats (listed portions) number cat.var written.forms made
    pub fit : AllByRecursion (ProdFits sig) made
    pub counted : (test : Prod → Bool) → ((p : Prod) → p.cat.0 ≢ number → test p ≡ false) → count_by test sig.prods ≡ count_by test made

  pub found : (written : WrittenCategory) → AllByRecursion (ProdFits sig) sig.prods → Contains (categories portions) written → IsFound written
  found written fit at =
      let n = number_of (categories portions) written at in
      let own = part 0 (categories portions) sig.cats sig.prods n.0 written file.cats file.prods fit n.1 in
      let number : 0 + n.0 ≡ n.0 = omega arith in
      record {
        number = n.0;
        there = n.1;
        cat = own.cat;
        at = own.at;
        is = own.is;
        made = own.made;
        forms = subst (λ m. AreForms sig.cats (listed portions) m own.cat.var written.forms own.made) number own.forms;
        fit = own.fit;
        counted = λ test fails. own.counted test (λ p differs. fails p (subst (λ m. p.cat.0 ≢ m) number differs));
      }

  -- its variable is the category's
  pub own_variable : (written : WrittenCategory) (is : IsFound written) (word : List ℕ) → SpellsOption word is.cat.var → Spells sig.cats is.number word
  own_variable written is word spells =
      subst (λ (o : Option Cat). MatchOption o ⊥ (λ cat. MatchOption cat.var ⊥ (λ name. IsSpelling name word))) (sym is.at) spells

  -- ---- the forms of a category

  binds_differ : (p : Prod) (places : List Place) → AllByRecursion (PlaceFits sig p) places → AllByRecursion (λ s. AreDifferent s.binds) places
  binds_differ p [] fit = tt
  binds_differ p (s ∷ places) fit = (fit.0.different, binds_differ p places fit.1)

  pub variable_items : {c : ℕ} (token : PlainToken) → token.kind ≡ 0 → Spells sig.cats c token.text
      → AreItems sig.cats (listed portions) (token.text ∷ []) (token ∷ []) (Binder (record { 0 = c }) ∷ []) (token.text ∷ [])
  variable_items token kind spells = binder kind spells no_items

  pub all_read : {c : ℕ} {var : Option (List ℕ)} {forms : List (List PlainToken)} {prods : List Prod} → AreForms sig.cats (listed portions) c var forms prods
      → AllByRecursion (ProdFits sig) prods → ((word : List ℕ) → SpellsOption word var → Spells sig.cats c word) → AllByRecursion (IsRead portions sig file) forms
  all_read no_forms fit spells = tt
  all_read {c = c} (variable {token = token} is more) fit spells = (
    record {
      items = Binder (record { 0 = c }) ∷ [];
      own = token.text ∷ [];
      read = variable_items token is.0 (spells token.text (IsSpelling_itself token.text));
      different = (tt, tt);
      binds = tt;
    },
    all_read more fit (λ word never. absurd never),
  )
  all_read (production {prod = prod} not made more) fit spells = (
    record { items = prod.items; own = made.words; read = made.items; different = made.different; binds = binds_differ prod (slots prod.items) fit.0.places },
    all_read more fit.1 spells,
  )

  pub all_some : {c : ℕ} {var : Option (List ℕ)} {forms : List (List PlainToken)} {prods : List Prod} → AreForms sig.cats (listed portions) c var forms prods
      → AllByRecursion (ProdFits sig) prods → AllByRecursion (λ form. form ≢ []) forms
  all_some no_forms fit = tt
  all_some (variable {token = token} is more) fit = ((λ same. (let never : ◌≡◌ {A = List PlainToken} (token ∷ []) [] = same in cc)), all_some more fit)
  all_some {c = c} (production {form = form} {prod = prod} not made more) fit = (
    (λ same. fit.0.some_item (no_items_left portions sig file (subst (λ ts. AreItems sig.cats (listed portions) made.words ts prod.items made.words) same made.items))),
    all_some more fit.1,
  )

  variable_is_no_slot : (token : PlainToken) → IsVariable (category_names sig.cats) (listed portions) (token ∷ []) → IsSlotWord portions token → ⊥
  variable_is_no_slot token is slot =
      any_not_none (λ name. IsSpelling name token.text) (category_texts portions) slot.1
      (subst (AllByRecursion (λ name. IsSpelling name token.text → ⊥)) (same_names portions sig file) is.3)

  pub all_more : {c : ℕ} {var : Option (List ℕ)} {forms : List (List PlainToken)} {prods : List Prod} → AreForms sig.cats (listed portions) c var forms prods
      → AllByRecursion (ProdFits sig) prods → AllByRecursion (λ form. IsOneSlot portions form → ⊥) forms
  all_more no_forms fit = tt
  all_more (variable {token = token} is more) fit = ((λ one. variable_is_no_slot token is one.0), all_more more fit)
  all_more (production made_not made more) fit = ((λ one. fit.0.not_single (single_item portions sig file made.items one)), all_more more fit.1)
