-- What the forms of categories of contexts are as items.
use Rattle.std.proofs.Common.{◌≡◌, ◌<◌, ◌≤◌, ◌+◌, ℕ, suc, true, false, List, [], ◌∷◌, ◌++◌, length, length-append, refl, ap, ◌∙◌, sym, subst, inl, inr, ◌⊎◌, arith}
use Rattle.std.specs.List.{AllByRecursion, AllZip, list_all}
use Rattle.sy_base.specs.Tokens.{PlainToken}
use Rattle.binding_terms.specs.Signature.{slots, is_word}
use Rattle.binding_terms.specs.declared.grammar.Cat.{Cat}
use Rattle.binding_terms.specs.declared.grammar.Item.{Item}
use Rattle.outline_reader.specs.Plain.{PlainPortion}
use Rattle.rule_schemes.specs.Reading.{IsCategoryWord}
use Rattle.user_grammar.specs.Names.{AllApart, names}
use Rattle.user_grammar.specs.Production.{IsMark, AreBrackets, no_brackets, brackets, AreWords, one_more, last_one, AreNumbers}
use Rattle.user_grammar.specs.Fault.{behind_slot, IsSlotWord, IsBinderWord, StandsForItself, StandsAt, StandsOutside, HasNoBrackets}
use Rattle.user_grammar.proofs.MadeParts.{Part, itself, bound_as, part_of, AreNamesOf, IsSound, Parts, no_parts, terminal_part, binder_part, slot_part}
use Rattle.user_grammar.proofs.MadeStands.{IsItemOf}
use Rattle.user_grammar.proofs.MadeWords.{words_of, taken_brackets, slot_or_binder}

some_words : {words : List (List ℕ)} {tokens rest : List PlainToken} → AreWords words tokens rest → words ≡ [] → ⊥
some_words (one_more kind mark more) none = cc
some_words (last_one kind mark more) none = cc

nothing_bracketed : {words : List (List ℕ)} {tokens rest : List PlainToken} → AreBrackets words tokens rest → words ≡ [] → tokens ≡ rest
nothing_bracketed no_brackets none = refl
nothing_bracketed (brackets mark more) none = absurd (some_words more none)

pub no_numbers : (own words : List (List ℕ)) (ns : List ℕ) → words ≡ [] → AreNumbers own words ns → ns ≡ []
no_numbers own [] [] none are = refl
no_numbers own [] (n ∷ ns) none are = absurd are
no_numbers own (word ∷ words) ns none are = absurd cc

-- the brackets of these parts are empty
abbrev pub AllUnbound : List Part → Type 0
AllUnbound [] = Unit {0}
AllUnbound (itself token ∷ parts) = AllUnbound parts
AllUnbound (bound_as c word ∷ parts) = AllUnbound parts
AllUnbound (part_of c bound ∷ parts) = (bound ≡ []) × AllUnbound parts

module _ (portions : List PlainPortion) (cats : List Cat) (known : AreNamesOf portions cats) (apart : AllApart (names cats)) (form : List PlainToken) (sound : IsSound portions form)
    (own : List (List ℕ)) where
  abbrev Read : List PlainToken → List Part → Type 0
  Read tokens parts = Parts portions cats known form sound tokens parts

  abbrev AreItemsOf : List Part → List Item → Type 0
  AreItemsOf parts items = AllZip (IsItemOf own) parts items

  -- what holds of the category of each slot that stands before fewer than n tokens
  pub slots_are : (Q : ℕ → Type 0) (n : ℕ)
      → ((token : PlainToken) (c : ℕ) (at : StandsOutside portions form token) → length at.stands.rest < n → IsSlotWord portions token → IsCategoryWord cats c token.text → Q c)
      → {tokens : List PlainToken} {parts : List Part} (items : List Item) → length tokens ≤ n → Read tokens parts → AreItemsOf parts items
      → AllByRecursion (λ s. Q s.cat) (slots items)
  slots_are Q n tell [] few no_parts made = tt
  slots_are Q n tell (i ∷ items) few no_parts made = absurd made
  slots_are Q n tell [] few (terminal_part at rest_is term no_slot no_binds more) made = absurd made
  slots_are Q n tell [] few (binder_part at rest_is no_slot binds spells more) made = absurd made
  slots_are Q n tell [] few (slot_part at rest_is is_slot spells are_brackets in_them opened more) made = absurd made
  slots_are Q n tell (i ∷ items) few (terminal_part {tokens = tokens} at rest_is term no_slot no_binds more) made =
      let fewer : length tokens ≤ n = omega (arith, few) in
      subst (λ (x : Item). AllByRecursion (λ s. Q s.cat) (slots (x ∷ items))) (sym made.0) (slots_are Q n tell items fewer more made.1)
  slots_are Q n tell (i ∷ items) few (binder_part {tokens = tokens} at rest_is no_slot binds spells more) made =
      let fewer : length tokens ≤ n = omega (arith, few) in
      subst (λ (x : Item). AllByRecursion (λ s. Q s.cat) (slots (x ∷ items))) (sym made.0) (slots_are Q n tell items fewer more made.1)
  slots_are Q n tell (i ∷ items) few (slot_part {token = token} {tokens = tokens} {rest = rest} {c = c} at rest_is is_slot spells are_brackets in_them opened more) made =
      let taken = taken_brackets are_brackets in
      let lengths : length tokens ≡ length taken.0 + length rest = ap length taken.1 ∙ length-append taken.0 rest in
      let fewer : length rest ≤ n = omega (arith, few, lengths) in
      let here : length at.stands.rest ≡ length tokens = ap length rest_is in
      let below : length at.stands.rest < n = omega (arith, few, here) in
      subst (λ (x : Item). AllByRecursion (λ s. Q s.cat) (slots (x ∷ items))) (sym made.0.1)
      (tell token c.0 at below is_slot spells, slots_are Q n tell items fewer more made.1)

  -- terminals alone
  pub empty_items : {tokens : List PlainToken} {parts : List Part} (items : List Item) → Read tokens parts → AreItemsOf parts items
      → AllByRecursion (StandsForItself portions) tokens → list_all is_word items ≡ true
  empty_items [] no_parts made all = refl
  empty_items (i ∷ items) no_parts made all = absurd made
  empty_items [] (terminal_part at rest_is term no_slot no_binds more) made all = absurd made
  empty_items [] (binder_part at rest_is no_slot binds spells more) made all = absurd made
  empty_items [] (slot_part at rest_is is_slot spells are_brackets in_them opened more) made all = absurd made
  empty_items (i ∷ items) (terminal_part at rest_is term no_slot no_binds more) made all =
      subst (λ (x : Item). list_all is_word (x ∷ items) ≡ true) (sym made.0) (empty_items items more made.1 all.1)
  empty_items (i ∷ items) (binder_part at rest_is no_slot binds spells more) made all = absurd (all.0.2 binds)
  empty_items (i ∷ items) (slot_part at rest_is is_slot spells are_brackets in_them opened more) made all = absurd (all.0.1 is_slot)

  pub empty_tokens : {tokens : List PlainToken} {parts : List Part} (items : List Item) → Read tokens parts → AreItemsOf parts items
      → list_all is_word items ≡ true → AllByRecursion (StandsForItself portions) tokens
  empty_tokens items no_parts made all = tt
  empty_tokens [] (terminal_part at rest_is term no_slot no_binds more) made all = absurd made
  empty_tokens [] (binder_part at rest_is no_slot binds spells more) made all = absurd made
  empty_tokens [] (slot_part at rest_is is_slot spells are_brackets in_them opened more) made all = absurd made
  empty_tokens (i ∷ items) (terminal_part at rest_is term no_slot no_binds more) made all =
      let rest : list_all is_word items ≡ true = subst (λ (x : Item). list_all is_word (x ∷ items) ≡ true) made.0 all in
      ((term, no_slot, no_binds), empty_tokens items more made.1 rest)
  empty_tokens (i ∷ items) (binder_part {c = c} at rest_is no_slot binds spells more) made all =
      absurd (let never : false ≡ true = subst (λ (x : Item). list_all is_word (x ∷ items) ≡ true) made.0 all in cc)
  empty_tokens (i ∷ items) (slot_part {c = c} at rest_is is_slot spells are_brackets in_them opened more) made all =
      absurd (let never : false ≡ true = subst (λ (x : Item). list_all is_word (x ∷ items) ≡ true) made.0.1 all in cc)

  -- a form without brackets
  pub unbound : {tokens : List PlainToken} {parts : List Part} → HasNoBrackets portions form → Read tokens parts → AllUnbound parts
  unbound none no_parts = tt
  unbound none (terminal_part at rest_is term no_slot no_binds more) = unbound none more
  unbound none (binder_part at rest_is no_slot binds spells more) = unbound none more
  unbound none (slot_part {bound = bound} at rest_is is_slot spells are_brackets in_them opened more) = (empty opened, unbound none more)
    where
      empty : (bound ≡ []) ⊎ ((named : List (List ℕ)) × (token : PlainToken) × StandsAt portions form (behind_slot named) token × IsMark 91 token) → bound ≡ []
      empty (inl is) = is
      empty (inr opens) = absurd (none opens.0 opens.1 opens.2 opens.3)

  pub nothing_bound : {tokens : List PlainToken} {parts : List Part} (items : List Item) → Read tokens parts → AreItemsOf parts items → AllUnbound parts
      → AllByRecursion (λ s. s.binds ≡ []) (slots items)
  nothing_bound [] no_parts made free = tt
  nothing_bound (i ∷ items) no_parts made free = absurd made
  nothing_bound [] (terminal_part at rest_is term no_slot no_binds more) made free = absurd made
  nothing_bound [] (binder_part at rest_is no_slot binds spells more) made free = absurd made
  nothing_bound [] (slot_part at rest_is is_slot spells are_brackets in_them opened more) made free = absurd made
  nothing_bound (i ∷ items) (terminal_part at rest_is term no_slot no_binds more) made free =
      subst (λ (x : Item). AllByRecursion (λ s. s.binds ≡ []) (slots (x ∷ items))) (sym made.0) (nothing_bound items more made.1 free)
  nothing_bound (i ∷ items) (binder_part at rest_is no_slot binds spells more) made free =
      subst (λ (x : Item). AllByRecursion (λ s. s.binds ≡ []) (slots (x ∷ items))) (sym made.0) (nothing_bound items more made.1 free)
  nothing_bound (i ∷ items) (slot_part {bound = bound} at rest_is is_slot spells are_brackets in_them opened more) made free =
      subst (λ (x : Item). AllByRecursion (λ s. s.binds ≡ []) (slots (x ∷ items))) (sym made.0.1)
      (no_numbers own bound made.0.0 free.0 made.0.2, nothing_bound items more made.1 free.1)

  -- no binder, and exactly one
  no_words : {tokens : List PlainToken} {parts : List Part} → Read tokens parts → AllUnbound parts → AllByRecursion (λ t. IsBinderWord portions t → ⊥) tokens → words_of parts ≡ []
  no_words no_parts free none = refl
  no_words (terminal_part at rest_is term no_slot no_binds more) free none = no_words more free none.1
  no_words (binder_part at rest_is no_slot binds spells more) free none = absurd (none.0 binds)
  no_words (slot_part at rest_is is_slot spells are_brackets in_them opened more) free none =
      no_words more free.1 (subst (AllByRecursion (λ (t : PlainToken). IsBinderWord portions t → ⊥)) (nothing_bracketed are_brackets free.0) none.1)

  pub one_word : {tokens : List PlainToken} {parts : List Part} → Read tokens parts → AllUnbound parts → (before : List PlainToken) (x : PlainToken) (after : List PlainToken)
      → tokens ≡ before ++ x ∷ after → AllByRecursion (λ t. IsBinderWord portions t → ⊥) before → IsBinderWord portions x → AllByRecursion (λ t. IsBinderWord portions t → ⊥) after
      → length (words_of parts) ≡ 1
  one_word no_parts free [] x after split none binds no_more = absurd cc
  one_word no_parts free (t ∷ before) x after split none binds no_more = absurd cc
  one_word (terminal_part {token = token} at rest_is term no_slot no_binds more) free [] x after split none binds no_more =
      let same : x ≡ token = cc in absurd (no_binds (subst (IsBinderWord portions) same binds))
  one_word (binder_part {tokens = tokens} at rest_is no_slot is_binder spells more) free [] x after split none binds no_more =
      let tail : after ≡ tokens = cc in ap (λ (ws : List (List ℕ)). suc (length ws)) (no_words more free (subst (AllByRecursion (λ (t : PlainToken). IsBinderWord portions t → ⊥)) tail no_more))
  one_word (slot_part {token = token} {tokens = tokens} at rest_is is_slot spells are_brackets in_them opened more) free [] x after split none binds no_more =
      let same : token ≡ x = cc in absurd (slot_or_binder portions cats known apart form sound token x same is_slot binds)
  one_word (terminal_part {token = token} {tokens = tokens} at rest_is term no_slot no_binds more) free (t ∷ before) x after split none binds no_more =
      let tail : tokens ≡ before ++ x ∷ after = cc in one_word more free before x after tail none.1 binds no_more
  one_word (binder_part {token = token} at rest_is no_slot is_binder spells more) free (t ∷ before) x after split none binds no_more =
      let same : token ≡ t = cc in absurd (none.0 (subst (IsBinderWord portions) same is_binder))
  one_word (slot_part {token = token} {tokens = tokens} at rest_is is_slot spells are_brackets in_them opened more) free (t ∷ before) x after split none binds no_more =
      let tail : tokens ≡ before ++ x ∷ after = cc in
      one_word more free.1 before x after (sym (nothing_bracketed are_brackets free.0) ∙ tail) none.1 binds no_more
