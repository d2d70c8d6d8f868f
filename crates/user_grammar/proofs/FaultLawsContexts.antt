-- Where a file has a signature, each assumed category keeps the rule on contexts.
use Rattle.std.proofs.Common.{◌≡◌, ◌≢◌, ◌↔◌, ◌+◌, ℕ, suc, Bool, true, false, cond, ◌&&◌, ◌==◌, IsTrue, List, [], ◌∷◌, ◌++◌, Option, None, Some, refl, ap, ◌∙◌, sym, subst, inl, inr, ◌⊎◌, slice_get, length, drop, count_by, arith}
use Rattle.std.specs.List.{list_all}
use Rattle.std.proofs.lemmas.List.Sums.{sum_by-cons}
use Rattle.std.proofs.lemmas.Bool.Decides.{eqb_tells}
use Rattle.std.specs.Bool.{MatchBool}
use Rattle.std.specs.Option.{MatchOption}
use Rattle.std.specs.List.{AllByRecursion, AllZip}
use Rattle.sy_base.specs.Tokens.{PlainToken}
use Rattle.binding_terms.specs.Signature.{Signature, Place as Slotted, slots, binders, is_word, is_empty_form, IsPlain, Extends, IsContextForm, ProdFits, CatFits, Fits}
use Rattle.binding_terms.specs.declared.grammar.Cat.{Cat}
use Rattle.binding_terms.specs.declared.grammar.CatId.{CatId}
use Rattle.binding_terms.specs.declared.grammar.Item.{Item}
use Rattle.binding_terms.specs.declared.grammar.Item.TheVariants.{Word, Slot, Binder}
use Rattle.binding_terms.specs.declared.grammar.Prod.{Prod}
use Rattle.rule_schemes.specs.Reading.{IsSpelling, IsCategoryWord}
use Rattle.outline_reader.specs.Plain.{PlainPortion}
use Rattle.user_grammar.specs.File.{WrittenCategory, listed, categories}
use Rattle.user_grammar.specs.Names.{category_names, variable_names}
use Rattle.user_grammar.specs.Production.{IsMark, AreBrackets, no_brackets, brackets, AreWords, one_more, last_one, AreNumbers, AreItems, no_items, terminal, binder, slot, IsProduction}
use Rattle.user_grammar.specs.Grammar.{AreForms, no_forms, variable, production, IsWritten}
use Rattle.user_grammar.specs.Fault.{ExactlyOne, DeclaresVariable, IsBinderWord, Place, outside, behind_slot, slot as to_slot, IsOutside, StandsOutside, IsEmptyForm, HasNoBrackets, IsWordOf, IsEntryForm, IsOnlyInFront, IsContextCategory}
use Rattle.user_grammar.proofs.Spellings.{Spells, apart_left, one_category}
use Rattle.user_grammar.proofs.OneReading.{not_opened}
use Rattle.user_grammar.proofs.FaultLawsWords.{SpellsOption, declared, same_names, slot_word, no_slot_word, no_binder_word, binder_word, slot_or_binder}
use Rattle.user_grammar.proofs.FaultLawsPlaces.{Leads, leads, one_next, IsAhead, items_ahead, ahead_behind}
use Rattle.rule_schemes.proofs.SpellingLemmas.{IsSpelling_itself}
use Rattle.user_grammar.proofs.FaultLawsFiles.{IsFound, found, own_variable, variable_items}
use Rattle.binding_terms.proofs.Lists.{all_contained, all_right, none_of_them, numbered_at}

-- ---- numbers

number_is : (n m : ℕ) → n ≡ m → (n == m) ≡ true
number_is n m same = of_two (eqb_tells n m)
  where
    of_two : (((n == m) ≡ true) × (n ≡ m)) ⊎ (((n == m) ≡ false) × (n ≢ m)) → (n == m) ≡ true
    of_two (inl is) = is.0
    of_two (inr is) = absurd (is.1 same)

number_is_not : (n m : ℕ) → n ≢ m → (n == m) ≡ false
number_is_not n m differs = of_two (eqb_tells n m)
  where
    of_two : (((n == m) ≡ true) × (n ≡ m)) ⊎ (((n == m) ≡ false) × (n ≢ m)) → (n == m) ≡ false
    of_two (inl is) = absurd (differs is.1)
    of_two (inr is) = is.0

-- ---- exactly one of a list

one_of_them : {X Y : Type 0} (P : X → Type 0) (test : Y → Bool) (xs : List X) (ys : List Y) → AllZip (λ x y. P x ↔ IsTrue (test y)) xs ys → count_by test ys ≡ 1
    → ExactlyOne P xs
one_of_them P test [] [] zip one = absurd (let never : 0 ≡ 1 = one in omega (arith, never))
one_of_them P test [] (y ∷ ys) zip one = absurd zip
one_of_them P test (x ∷ xs) [] zip one = absurd zip
one_of_them P test (x ∷ xs) (y ∷ ys) zip one =
    by_test (test y) refl (sym (sum_by-cons (λ z. cond (test z) 1 0) y ys) ∙ one) (one_of_them P test xs ys zip.1)
  where
    by_test : (b : Bool) → test y ≡ b → cond b 1 0 + count_by test ys ≡ 1 → (count_by test ys ≡ 1 → ExactlyOne P xs) → ExactlyOne P (x ∷ xs)
    by_test true is sum behind =
        let rest : count_by test ys ≡ 0 = (let now : 1 + count_by test ys ≡ 1 = sum in omega (arith, now)) in
        ([], x, xs, refl, zip.0.1 is, tt, none_of_them P test xs ys zip.1 rest)
    by_test false is sum behind =
        let rest : count_by test ys ≡ 1 = (let now : 0 + count_by test ys ≡ 1 = sum in omega (arith, now)) in
        let more = behind rest in
        (x ∷ more.0, more.1, more.2, ap (λ zs. x ∷ zs) more.3, more.4, ((λ holds. (let never : false ≡ true = sym is ∙ zip.0.0 holds in cc)), more.5), more.6)

-- ---- terminals alone, and binders

module _ (portions : List PlainPortion) (sig : Signature) (file : IsWritten portions sig) where
  empty_there : {own words : List (List ℕ)} {tokens : List PlainToken} {items : List Item} → AreItems sig.cats (listed portions) own tokens items words
      → IsEmptyForm portions tokens → list_all is_word items ≡ true
  empty_there no_items all = refl
  empty_there (terminal is plain more) all = empty_there more all.1
  empty_there (binder {token = token} {c = c} kind spells more) all = absurd (all.0.2 (binder_word portions sig file token c.0 kind spells))
  empty_there (slot {token = token} {c = c} kind spells bracketed numbers more) all = absurd (all.0.1 (slot_word portions sig file token c.0 kind spells))

  empty_back : {own words : List (List ℕ)} {tokens : List PlainToken} {items : List Item} → AreItems sig.cats (listed portions) own tokens items words
      → list_all is_word items ≡ true → IsEmptyForm portions tokens
  empty_back no_items all = tt
  empty_back (terminal {token = token} is plain more) all =
      ((is, no_slot_word portions sig file token plain, no_binder_word portions sig file token plain), empty_back more all)
  empty_back (binder kind spells more) all = absurd (let never : false ≡ true = all in cc)
  empty_back (slot kind spells bracketed numbers more) all = absurd (let never : false ≡ true = all in cc)

  -- items whose slots bind nothing
  bound_by_none : (own bound : List (List ℕ)) → AreNumbers own bound [] → bound ≡ []
  bound_by_none own [] numbers = refl
  bound_by_none own (word ∷ bound) numbers = absurd numbers

  nothing_bracketed : {bound : List (List ℕ)} {tokens rest : List PlainToken} → AreBrackets bound tokens rest → bound ≡ [] → tokens ≡ rest
  nothing_bracketed no_brackets none = refl
  nothing_bracketed (brackets mark words) none = no_words words none
    where
      no_words : {bound : List (List ℕ)} {tokens rest : List PlainToken} {X : Type 0} → AreWords bound tokens rest → bound ≡ [] → X
      no_words (one_more kind comma more) none = cc
      no_words (last_one kind closing more) none = cc

  behind_slot_alone : (own : List (List ℕ)) {bound : List (List ℕ)} {binds : List ℕ} {tokens rest : List PlainToken} → AreBrackets bound tokens rest → AreNumbers own bound binds → binds ≡ [] → rest ≡ tokens
  behind_slot_alone own {bound = bound} bracketed numbers none =
      sym (nothing_bracketed bracketed (bound_by_none own bound (subst (AreNumbers own bound) none numbers)))

  unmarked : {own words : List (List ℕ)} {tokens : List PlainToken} {items : List Item} → AreItems sig.cats (listed portions) own tokens items words
      → AllByRecursion (λ s. s.binds ≡ []) (slots items) → AllByRecursion (λ t. IsMark 91 t → ⊥) tokens
  unmarked no_items none = tt
  unmarked (terminal {token = token} is plain more) none =
      (not_opened sig.cats (listed portions) file.names.apart (terminal {token = token} is plain more), unmarked more none)
  unmarked (binder {token = token} kind spells more) none =
      (not_opened sig.cats (listed portions) file.names.apart (binder {token = token} kind spells more), unmarked more none)
  unmarked {own = own} (slot {token = token} kind spells bracketed numbers more) none = (
    not_opened sig.cats (listed portions) file.names.apart (slot {token = token} kind spells bracketed numbers more),
    subst (AllByRecursion (λ t. IsMark 91 t → ⊥)) (behind_slot_alone own bracketed numbers none.0) (unmarked more none.1),
  )

  has_no_brackets : (form : List PlainToken) → AllByRecursion (λ t. IsMark 91 t → ⊥) form → HasNoBrackets portions form
  has_no_brackets form none named token stands mark =
      (all_right (λ t. IsMark 91 t → ⊥) stands.front (token ∷ stands.rest) (subst (AllByRecursion (λ t. IsMark 91 t → ⊥)) stands.split none)).0 mark

  no_binders : {own words : List (List ℕ)} {tokens : List PlainToken} {items : List Item} → AreItems sig.cats (listed portions) own tokens items words
      → AllByRecursion (λ s. s.binds ≡ []) (slots items) → length (binders items) ≡ 0 → AllByRecursion (λ t. IsBinderWord portions t → ⊥) tokens
  no_binders no_items none count = tt
  no_binders (terminal {token = token} is plain more) none count = (no_binder_word portions sig file token plain, no_binders more none count)
  no_binders (binder {items = items} kind spells more) none count = absurd (let never : suc (length (binders items)) ≡ 0 = count in omega (arith, never))
  no_binders {own = own} (slot {token = token} {c = c} kind spells bracketed numbers more) none count = (
    (λ binds. slot_or_binder portions sig file token (slot_word portions sig file token c.0 kind spells) binds),
    subst (AllByRecursion (λ t. IsBinderWord portions t → ⊥)) (behind_slot_alone own bracketed numbers none.0) (no_binders more none.1 count),
  )

  further : {X : Type 0} (P : X → Type 0) (x : X) (xs : List X) → (P x → ⊥) → ExactlyOne P xs → ExactlyOne P (x ∷ xs)
  further P x xs fails one = (x ∷ one.0, one.1, one.2, ap (λ zs. x ∷ zs) one.3, one.4, (fails, one.5), one.6)

  one_binder : {own words : List (List ℕ)} {tokens : List PlainToken} {items : List Item} → AreItems sig.cats (listed portions) own tokens items words
      → AllByRecursion (λ s. s.binds ≡ []) (slots items) → length (binders items) ≡ 1 → ExactlyOne (IsBinderWord portions) tokens
  one_binder no_items none count = absurd (let never : 0 ≡ 1 = count in omega (arith, never))
  one_binder (terminal {token = token} {tokens = tokens} is plain more) none count =
      further (IsBinderWord portions) token tokens (no_binder_word portions sig file token plain) (one_binder more none count)
  one_binder (binder {token = token} {tokens = tokens} {c = c} {items = items} kind spells more) none count =
      let rest : length (binders items) ≡ 0 = (let now : suc (length (binders items)) ≡ 1 = count in omega (arith, now)) in
      ([], token, tokens, refl, binder_word portions sig file token c.0 kind spells, tt, no_binders more none rest)
  one_binder {own = own} (slot {token = token} {tokens = tokens} {c = c} kind spells bracketed numbers more) none count =
      further (IsBinderWord portions) token tokens
      (λ binds. slot_or_binder portions sig file token (slot_word portions sig file token c.0 kind spells) binds)
      (subst (ExactlyOne (IsBinderWord portions)) (behind_slot_alone own bracketed numbers none.0) (one_binder more none.1 count))

  -- ---- the forms of a category of contexts

  module _ (written : WrittenCategory) (own : IsFound portions sig file written) (context : own.cat.context ≡ true) where
    word_of : (token : PlainToken) (d : ℕ) → token.kind ≡ 0 → d ≡ own.number → IsCategoryWord sig.cats d token.text → IsWordOf portions written token
    word_of token d kind same spells = (
      kind,
      subst (λ name. IsSpelling name token.text) own.is.name
          (subst (λ (o : Option Cat). MatchOption o ⊥ (λ cat. IsSpelling cat.name token.text)) own.at (subst (λ n. IsCategoryWord sig.cats n token.text) same spells)),
    )

    pub entry_form : {words all : List (List ℕ)} {form : List PlainToken} {items : List Item} (c : ℕ) → c ≡ own.number → AreItems sig.cats (listed portions) words form items all
        → Extends c items → IsEntryForm portions written form
    entry_form c same no_items extends = absurd extends
    entry_form c same (terminal is plain more) extends = absurd extends
    entry_form c same (binder kind spells more) extends = absurd extends
    entry_form c same (slot {token = token} {tokens = tokens} {c = d} {binds = []} {items = items} kind spells bracketed numbers more) extends =
        let read = slot {token = token} {c = d} kind spells bracketed numbers more in
        let none : AllByRecursion (λ s. s.binds ≡ []) (slots (Slot d [] ∷ items)) = (refl, extends.2) in
        (word_of token d.0 kind (extends.0 ∙ same) spells, has_no_brackets (token ∷ tokens) (unmarked read none), one_binder read none extends.1)
    entry_form c same (slot {binds = n ∷ binds} kind spells bracketed numbers more) extends = absurd extends

    -- each form is empty or has one entry more, and exactly one is empty
    abbrev is_own_empty : Prod → Bool
    is_own_empty p = (p.cat.0 == own.number) && is_empty_form p

    own_empty : (p : Prod) → p.cat.0 ≡ own.number → is_own_empty p ≡ is_empty_form p
    own_empty p same = ap (λ b. b && is_empty_form p) (number_is p.cat.0 own.number same)

    empty_forms : {var : Option (List ℕ)} {forms : List (List PlainToken)} {prods : List Prod} → AreForms sig.cats (listed portions) own.number var forms prods
        → var ≡ None → AllZip (λ form p. IsEmptyForm portions form ↔ IsTrue (is_own_empty p)) forms prods
    empty_forms no_forms none = tt
    empty_forms (variable is more) none = cc
    empty_forms (production {prod = prod} not made more) none = (
      ((λ all. own_empty prod made.cat ∙ empty_there made.items all), (λ is. empty_back made.items (sym (own_empty prod made.cat) ∙ is))),
      empty_forms more none,
    )

    context_form : (p : Prod) → ProdFits sig p → p.cat.0 ≡ own.number → IsContextForm sig p
    context_form p fit same =
        let plain = AllByRecursion (λ s. IsPlain sig s.cat) (slots p.items) in
        subst (λ b. MatchBool b (IsContextForm sig p) plain) context
        (subst (λ (o : Option Cat). MatchOption o ⊥ (λ cat. MatchBool cat.context (IsContextForm sig p) plain)) own.at
        (subst (λ n. MatchOption (slice_get sig.cats n) ⊥ (λ cat. MatchBool cat.context (IsContextForm sig p) plain)) same fit.form))

    either_form : (form : List PlainToken) (p : Prod) → IsProduction sig.cats (listed portions) own.number form p → IsContextForm sig p
        → IsEmptyForm portions form ⊎ IsEntryForm portions written form
    either_form form p made (inl empty) = inl (empty_back made.items empty)
    either_form form p made (inr extends) = inr (entry_form p.cat.0 made.cat made.items extends.0)

    either_forms : {var : Option (List ℕ)} {forms : List (List PlainToken)} {prods : List Prod} → AreForms sig.cats (listed portions) own.number var forms prods
        → AllByRecursion (ProdFits sig) prods → var ≡ None → AllByRecursion (λ form. IsEmptyForm portions form ⊎ IsEntryForm portions written form) forms
    either_forms no_forms fit none = tt
    either_forms (variable is more) fit none = cc
    either_forms (production {form = form} {prod = prod} not made more) fit none =
        (either_form form prod made (context_form prod fit.0 made.cat), either_forms more fit.1 none)

    no_variable_form : {var : Option (List ℕ)} {forms : List (List PlainToken)} {prods : List Prod} → AreForms sig.cats (listed portions) own.number var forms prods
        → var ≡ None → AllByRecursion (λ form. DeclaresVariable portions form → ⊥) forms
    no_variable_form no_forms none = tt
    no_variable_form (variable is more) none = cc
    no_variable_form (production {form = form} not made more) none =
        ((λ is. not (declared portions sig.cats (same_names portions sig file) form is)), no_variable_form more none)

    -- ---- the category is a slot only in front of its own

    spells_own : (token : PlainToken) → IsWordOf portions written token → IsCategoryWord sig.cats own.number token.text
    spells_own token is =
        subst (λ (o : Option Cat). MatchOption o ⊥ (λ cat. IsSpelling cat.name token.text)) (sym own.at) (subst (λ name. IsSpelling name token.text) (sym own.is.name) is.1)

    abbrev Other : ℕ → List ℕ → Type 0
    Other cat binds = cat ≢ own.number

    nothing_entered : (words : List (List ℕ)) (cat : ℕ) (bound : List (List ℕ)) (ns : List ℕ) → Other cat ns → AreNumbers words bound ns → Unit {0}
    nothing_entered words cat bound ns is numbers = tt

    abbrev OtherAhead : (words : List (List ℕ)) → Place → List PlainToken → Type 0
    OtherAhead words = IsAhead portions sig file words Other (λ ws. Unit {0}) (λ named bound. Unit {0}) (λ word ws left. tt) (nothing_entered words) (λ named word bound kept. tt)

    other_slot_here : {words all : List (List ℕ)} {token : PlainToken} {tokens : List PlainToken} {items : List Item} → AreItems sig.cats (listed portions) words (token ∷ tokens) items all
        → AllByRecursion (λ s. s.cat ≢ own.number) (slots items) → IsWordOf portions written token → ⊥
    other_slot_here (terminal {token = token} is plain more) kept word = no_slot_word portions sig file token plain (slot_word portions sig file token own.number word.0 (spells_own token word))
    other_slot_here (binder {token = token} {c = c} kind spells more) kept word =
        slot_or_binder portions sig file token (slot_word portions sig file token own.number word.0 (spells_own token word)) (binder_word portions sig file token c.0 kind spells)
    other_slot_here (slot {token = token} {c = c} kind spells bracketed numbers more) kept word =
        kept.0 (one_category sig.cats c.0 own.number token.text (apart_left (category_names sig.cats) (variable_names sig.cats) file.names.apart) spells (spells_own token word))

    -- behind a place where no slot of it is ahead, none stands
    none_ahead : (words : List (List ℕ)) (from : Place) (front : List PlainToken) (place : Place) (token : PlainToken) (rest : List PlainToken) → OtherAhead words from (front ++ token ∷ rest)
        → Leads portions from front place → IsOutside place token → IsWordOf portions written token → ⊥
    none_ahead words from front place token rest ahead way out word =
        let there = ahead_behind portions sig file words Other (λ ws. Unit {0}) (λ named bound. Unit {0}) (λ word ws left. tt) (nothing_entered words) (λ named word bound kept. tt)
        from front (token ∷ rest) place way ahead in
        let here = items_ahead portions sig file words Other (λ ws. Unit {0}) (λ named bound. Unit {0}) (λ word ws left. tt) (nothing_entered words) (λ named word bound kept. tt)
        place token rest out there in
        other_slot_here here.read here.kept word

    none_there : {words all : List (List ℕ)} {form : List PlainToken} {items : List Item} → AreItems sig.cats (listed portions) words form items all
        → AllByRecursion (λ s. s.cat ≢ own.number) (slots items) → (token : PlainToken) → StandsOutside portions form token → IsWordOf portions written token → ⊥
    none_there {words = words} {all = all} {form = form} {items = items} read kept token stands word =
        let start : OtherAhead words outside form = record { items = items; words = all; read = read; kept = kept; left = tt } in
        none_ahead words outside stands.stands.front stands.place token stands.stands.rest
        (subst (OtherAhead words outside) stands.stands.split start) (leads portions stands.stands.is_place) stands.is_outside word

    -- a form that begins with a slot of d, and has no other of it
    in_front : {words all : List (List ℕ)} (d : CatId) (binds : List ℕ) (items : List Item) (front : List PlainToken) (place : Place) (token : PlainToken) (rest : List PlainToken)
        → AreItems sig.cats (listed portions) words (front ++ token ∷ rest) (Slot d binds ∷ items) all → AllByRecursion (λ s. s.cat ≢ own.number) (slots items)
        → Leads portions outside front place → IsOutside place token → IsWordOf portions written token → (d.0 ≡ own.number) × (front ≡ [])
    in_front d binds items [] place token rest (slot kind spells bracketed numbers more) kept way out word =
        (one_category sig.cats d.0 own.number token.text (apart_left (category_names sig.cats) (variable_names sig.cats) file.names.apart) spells (spells_own token word), refl)
    in_front {words = words} {all = all} d binds items (first ∷ front) place token rest (slot {rest = behind} {bound = bound} kind spells bracketed numbers more) kept way out word =
        let next = one_next portions way.1 (to_slot {place = outside} tt (slot_word portions sig file first d.0 kind spells)) in
        let ahead : OtherAhead words (behind_slot []) (front ++ token ∷ rest) =
        (bound, behind, bracketed, record { words_kept = tt; behind = record { items = items; words = all; read = more; kept = kept; left = tt } }) in
        absurd (none_ahead words (behind_slot []) front place token rest ahead (subst (λ p. Leads portions p front place) next way.2) out word)

    plain_is_other : (d : ℕ) → IsPlain sig d → d ≢ own.number
    plain_is_other d plain same =
        let is : own.cat.context ≡ false = subst (λ (o : Option Cat). MatchOption o ⊥ (λ cat. cat.context ≡ false)) own.at (subst (IsPlain sig) same plain) in
        let never : false ≡ true = sym is ∙ context in cc

    plain_slots : (places : List Slotted) → AllByRecursion (λ s. IsPlain sig s.cat) places → AllByRecursion (λ s. s.cat ≢ own.number) places
    plain_slots [] plain = tt
    plain_slots (s ∷ places) plain = (plain_is_other s.cat plain.0, plain_slots places plain.1)

    no_slots : (items : List Item) → list_all is_word items ≡ true → AllByRecursion (λ s. s.cat ≢ own.number) (slots items)
    no_slots [] all = tt
    no_slots (Word text quoted ∷ items) all = no_slots items all
    no_slots (Slot c binds ∷ items) all = absurd (let never : false ≡ true = all in cc)
    no_slots (Binder c ∷ items) all = absurd (let never : false ≡ true = all in cc)

    module _ (other : WrittenCategory) (there : IsFound portions sig file other) where
      abbrev InFront : List PlainToken → Type 0
      InFront form = (token : PlainToken) (stands : StandsOutside portions form token) → IsWordOf portions written token → (other.name.text ≡ written.name.text) × (stands.stands.front ≡ [])

      same_category : there.number ≡ own.number → other.name.text ≡ written.name.text
      same_category same =
          let both : Some other ≡ Some written = sym there.there ∙ ap (slice_get (categories portions)) same ∙ own.there in
          let one : other ≡ written = cc in ap (λ (w : WrittenCategory). w.name.text) one

      extended : {words all : List (List ℕ)} {form : List PlainToken} (items : List Item) (c : ℕ) → c ≡ there.number → AreItems sig.cats (listed portions) words form items all → Extends c items
          → AllByRecursion (λ s. IsPlain sig s.cat) (drop 1 (slots items)) → InFront form
      extended [] c same read extends plain token stands word = absurd extends
      extended (Word text quoted ∷ items) c same read extends plain token stands word = absurd extends
      extended (Binder b ∷ items) c same read extends plain token stands word = absurd extends
      extended (Slot d (n ∷ binds) ∷ items) c same read extends plain token stands word = absurd extends
      extended {words = words} {all = all} (Slot d [] ∷ items) c same read extends plain token stands word =
          let at = in_front d [] items stands.stands.front stands.place token stands.stands.rest
          (subst (λ ts. AreItems sig.cats (listed portions) words ts (Slot d [] ∷ items) all) stands.stands.split read)
          (plain_slots (slots items) plain) (leads portions stands.stands.is_place) stands.is_outside word in
          (same_category (sym same ∙ sym extends.0 ∙ at.0), at.1)

      by_form : (form : List PlainToken) (p : Prod) → IsProduction sig.cats (listed portions) there.number form p → IsContextForm sig p → InFront form
      by_form form p made (inl empty) token stands word = absurd (none_there made.items (no_slots p.items empty) token stands word)
      by_form form p made (inr extends) token stands word = extended p.items p.cat.0 made.cat made.items extends.0 extends.1 token stands word

      by_kind : (form : List PlainToken) (p : Prod) (b : Bool) → IsProduction sig.cats (listed portions) there.number form p
          → MatchBool b (IsContextForm sig p) (AllByRecursion (λ s. IsPlain sig s.cat) (slots p.items)) → InFront form
      by_kind form p true made is token stands word = by_form form p made is token stands word
      by_kind form p false made is token stands word = absurd (none_there made.items (plain_slots (slots p.items) is) token stands word)

      all_in_front : {var : Option (List ℕ)} {forms : List (List PlainToken)} {prods : List Prod} → AreForms sig.cats (listed portions) there.number var forms prods
          → AllByRecursion (ProdFits sig) prods → ((word : List ℕ) → SpellsOption word var → Spells sig.cats there.number word) → AllByRecursion InFront forms
      all_in_front no_forms fit spells = tt
      all_in_front (variable {token = token} is more) fit spells = (
        (λ t stands word. absurd (none_there (variable_items portions sig file token is.0 (spells token.text (IsSpelling_itself token.text))) tt t stands word)),
        all_in_front more fit (λ word never. absurd never),
      )
      all_in_front (production {form = form} {prod = prod} not made more) fit spells =
          let kind = subst (λ (o : Option Cat). MatchOption o ⊥ (λ cat. MatchBool cat.context (IsContextForm sig prod) (AllByRecursion (λ s. IsPlain sig s.cat) (slots prod.items)))) there.at
          (subst (λ n. MatchOption (slice_get sig.cats n) ⊥ (λ cat. MatchBool cat.context (IsContextForm sig prod) (AllByRecursion (λ s. IsPlain sig s.cat) (slots prod.items)))) made.cat fit.0.form) in
          (by_kind form prod there.cat.context made kind, all_in_front more fit.1 spells)

    only_in_front : AllByRecursion (ProdFits sig) sig.prods → IsOnlyInFront portions written
    only_in_front fit other form token at among =
        let there = found portions sig file other fit at in
        all_contained (InFront other there) other.forms form (all_in_front other there there.forms there.fit (own_variable portions sig file other there)) among token

    pub keeps_the_rule : Fits sig → IsContextCategory portions written
    keeps_the_rule fits =
        let number : 0 + own.number ≡ own.number = omega arith in
        let fit = subst (λ n. CatFits sig n own.cat) number (numbered_at (CatFits sig) 0 sig.cats own.number own.cat fits.cats own.at) in
        let both = subst (λ b. MatchBool b ((own.cat.var ≡ None) × (count_by (λ p. (p.cat.0 == own.number) && is_empty_form p) sig.prods ≡ 1)) (Unit {0})) context fit in
        let count : count_by is_own_empty own.made ≡ 1 =
        sym (own.counted is_own_empty (λ p differs. ap (λ b. b && is_empty_form p) (number_is_not p.cat.0 own.number differs))) ∙ both.1 in
        record {
          no_variable = no_variable_form own.forms both.0;
          empty_form = one_of_them (IsEmptyForm portions) is_own_empty written.forms own.made (empty_forms own.forms both.0) count;
          others = either_forms own.forms own.fit both.0;
          only_in_front = only_in_front fits.prods;
        }
