-- Each production of a grammar without a fault fits, where its categories of contexts are as they should be.
use Rattle.std.proofs.Common.{◌≡◌, ℕ, Bool, true, false, List, [], ◌∷◌, length, Option, Some, refl, sym, subst, inl, inr, ◌⊎◌, slice_get, arith}
use Rattle.std.specs.Option.{MatchOption}
use Rattle.std.specs.Bool.{MatchBool}
use Rattle.std.specs.List.{AllByRecursion, AllZip, Contains}
use Rattle.sy_base.specs.Tokens.{PlainToken}
use Rattle.sy_base.specs.declared.fault.Code.TheVariants as code
use Rattle.binding_terms.specs.Signature.{Signature, slots, binders, IsPlain, Extends, IsContextForm, ProdFits}
use Rattle.binding_terms.specs.declared.grammar.Cat.{Cat}
use Rattle.binding_terms.specs.declared.grammar.Prod.{Prod}
use Rattle.outline_reader.specs.Plain.{PlainPortion}
use Rattle.rule_schemes.specs.Reading.{IsSpelling, IsCategoryWord}
use Rattle.user_grammar.specs.File.{WrittenCategory, listed, categories}
use Rattle.user_grammar.specs.Names.{IsAmong, AllApart, names}
use Rattle.user_grammar.specs.Fault.{category_texts, IsSlotWord, StandsOutside, IsOneSlot, IsEmptyForm, IsEntryForm, HasNoBrackets, empty_production, single_category, HasNoFault}
use Rattle.user_grammar.specs.MadeItems.{IsMadeCategory}
use Rattle.user_grammar.proofs.MadeParts.{AreNamesOf, IsSound, Parts}
use Rattle.user_grammar.proofs.MadeStands.{FormStands}
use Rattle.user_grammar.proofs.MadeFits.{words_count, places_fit, binders_vary, items_some, one_slot}
use Rattle.user_grammar.proofs.MadeContexts.{slots_are, empty_items}
use Rattle.user_grammar.proofs.MadeEntries.{AreContexts, plain_or_assumed, entry_items, later_slots, not_in_front}
use Rattle.user_grammar.proofs.MadeWords.{words_of}
use Rattle.binding_terms.proofs.Lists.{all_contained, all_in_itself}

module _ (portions : List PlainPortion) (no_fault : HasNoFault portions) (assumed : List (List ℕ)) (contexts : AreContexts portions assumed)
    (cats : List Cat) (made : AllZip (IsMadeCategory (category_texts portions) (listed portions) assumed) (categories portions) cats)
    (known : AreNamesOf portions cats) (apart : AllApart (names cats)) (prods : List Prod) where
  abbrev sig : Signature
  sig = record { cats = cats; prods = prods }

  module _ (w : WrittenCategory) (there : Contains (categories portions) w) (c : ℕ) (cat : Cat) (at_number : slice_get cats c ≡ Some cat)
      (made_here : IsMadeCategory (category_texts portions) (listed portions) assumed w cat)
      (word_of : (word : List ℕ) → IsSpelling w.name.text word → IsCategoryWord cats c word)
      (form : List PlainToken) (here : Contains w.forms form) (sound : IsSound portions form) (stands : FormStands portions cats known form sound c) where
    abbrev own : List (List ℕ)
    own = words_of stands.parts

    counted : length own ≡ length (binders stands.prod.items)
    counted = words_count own stands.parts stands.prod.items stands.made

    -- a slot is of a plain category, where one of contexts would stand in front of its own
    plain_slot : (token : PlainToken) (d : ℕ) (at : StandsOutside portions form token) → IsSlotWord portions token → IsCategoryWord cats d token.text
        → ((v : WrittenCategory) → IsAmong assumed v.name.text → w.name.text ≡ v.name.text → at.stands.front ≡ [] → ⊥) → IsPlain sig d
    plain_slot token d at is_slot is never = by_case (plain_or_assumed portions assumed (categories portions) cats d token.text made (all_in_itself (categories portions)) is)
      where
        by_case : MatchOption (slice_get cats d) ⊥ (λ (cat : Cat). cat.context ≡ false)
            ⊎ ((v : WrittenCategory) × Contains (categories portions) v × IsSpelling v.name.text token.text × IsAmong assumed v.name.text) → IsPlain sig d
        by_case (inl plain) = plain
        by_case (inr v) =
            let only = (contexts v.0 v.1 v.3).only_in_front w form token there here at (is_slot.0, v.2) in absurd (never v.0 v.3 only.0 only.1)

    all_plain : (IsAmong assumed w.name.text → ⊥) → AllByRecursion (λ s. IsPlain sig s.cat) (slots stands.prod.items)
    all_plain not =
        slots_are portions cats known apart form sound own (IsPlain sig) (length form)
        (λ token d at below is_slot is. plain_slot token d at is_slot is (λ v among same front. not (subst (IsAmong assumed) (sym same) among)))
        stands.prod.items (omega arith) stands.are_parts stands.made

    context_form : IsEmptyForm portions form ⊎ IsEntryForm portions w form → IsContextForm sig stands.prod
    context_form (inl empty) = inl (empty_items portions cats known apart form sound own stands.prod.items stands.are_parts stands.made empty)
    context_form (inr entry) = of_entry form refl stands.are_parts entry
      where
        of_entry : (tokens : List PlainToken) → form ≡ tokens → Parts portions cats known form sound tokens stands.parts → IsEntryForm portions w tokens → IsContextForm sig stands.prod
        of_entry [] whole parts entry = absurd entry
        of_entry (token ∷ tokens) whole parts entry =
            let is_word = word_of token.text entry.0.1 in
            let is_slot = known.word_slot token c entry.0.0 is_word in
            let extends = entry_items portions cats known apart form sound own token tokens stands.parts stands.prod.items c parts stands.made
            (subst (λ (f : List PlainToken). HasNoBrackets portions f) (sym whole) entry.1) is_slot is_word entry.2 in
            inr (
              subst (λ (n : ℕ). Extends n stands.prod.items) (sym stands.cat) extends,
              later_slots portions cats known apart form sound own (IsPlain sig) token tokens stands.parts stands.prod.items
                  (λ other d at below also is. plain_slot other d at also is
                  (λ v among same front. not_in_front portions cats known apart form sound own token tokens other at whole below front))
                  parts stands.made is_slot,
            )

    form_fits : MatchBool cat.context (IsContextForm sig stands.prod) (AllByRecursion (λ s. IsPlain sig s.cat) (slots stands.prod.items))
    form_fits = by_mark cat.context made_here.category.context.0 made_here.category.context.1
      where
        by_mark : (b : Bool) → (b ≡ true → IsAmong assumed cat.name) → (IsAmong assumed cat.name → b ≡ true)
            → MatchBool b (IsContextForm sig stands.prod) (AllByRecursion (λ s. IsPlain sig s.cat) (slots stands.prod.items))
        by_mark true is back =
            let among = subst (IsAmong assumed) made_here.category.name (is refl) in
            context_form (all_contained (λ (f : List PlainToken). IsEmptyForm portions f ⊎ IsEntryForm portions w f) w.forms form (contexts w there among).others here)
        by_mark false is back =
            all_plain (λ among. (let never : false ≡ true = back (subst (IsAmong assumed) (sym made_here.category.name) among) in cc))

    pub prod_fits : ProdFits sig stands.prod
    prod_fits = record {
      places = places_fit portions cats known apart form sound prods stands.prod own counted stands.prod.items stands.are_parts stands.made;
      variables = binders_vary portions cats known apart form sound prods stands.prod own counted stands.prod.items stands.are_parts stands.made;
      some_item = λ none. no_fault code.EmptyProduction w.name w.name.text (empty_production w refl refl there refl
          (subst (Contains w.forms) (items_some portions cats known apart form sound prods stands.prod own counted stands.prod.items stands.are_parts stands.made none) here));
      not_single = λ single. single_form form here (one_slot portions cats known apart form sound prods stands.prod own counted stands.prod.items stands.are_parts stands.made single);
      form = subst (λ (n : ℕ). MatchOption (slice_get cats n) ⊥
          (λ (k : Cat). MatchBool k.context (IsContextForm sig stands.prod) (AllByRecursion (λ s. IsPlain sig s.cat) (slots stands.prod.items)))) (sym stands.cat)
          (subst (λ (o : Option Cat). MatchOption o ⊥
          (λ (k : Cat). MatchBool k.context (IsContextForm sig stands.prod) (AllByRecursion (λ s. IsPlain sig s.cat) (slots stands.prod.items)))) (sym at_number) form_fits);
    }
      where
        single_form : (tokens : List PlainToken) → Contains w.forms tokens → IsOneSlot portions tokens → ⊥
        single_form [] inside single = single
        single_form (token ∷ rest) inside single =
            no_fault code.SingleCategory token w.name.text (single_category w rest refl refl there inside single)
