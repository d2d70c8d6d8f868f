-- The productions of a grammar without a fault fit: their forms, where its categories of contexts are as they should be.
use Rattle.std.proofs.Common.{◌≡◌, ◌<◌, ◌≤◌, ◌+◌, ◌↔◌, ℕ, zero, suc, Bool, true, false, List, [], ◌∷◌, ◌++◌, length, length-append, drop, refl, ap, ◌∙◌, sym, subst, inl, inr, ◌⊎◌, slice_get, arith}
use Rattle.std.specs.Option.{MatchOption}
use Rattle.std.specs.List.{AllByRecursion, AllZip, Contains}
use Rattle.sy_base.specs.Tokens.{PlainToken}
use Rattle.binding_terms.specs.Signature.{slots, Extends}
use Rattle.binding_terms.specs.declared.grammar.Cat.{Cat}
use Rattle.binding_terms.specs.declared.grammar.Item.{Item}
use Rattle.binding_terms.specs.declared.grammar.Item.TheVariants.{Slot}
use Rattle.outline_reader.specs.Plain.{PlainPortion}
use Rattle.rule_schemes.specs.Reading.{IsSpelling, IsCategoryWord}
use Rattle.user_grammar.specs.File.{WrittenCategory, listed, categories}
use Rattle.user_grammar.specs.Names.{IsAmong, AllApart, names, category_names, variable_names}
use Rattle.user_grammar.specs.Fault.{category_texts, IsSlotWord, IsBinderWord, StandsOutside, HasNoBrackets, ExactlyOne, IsContextCategory}
use Rattle.user_grammar.specs.MadeItems.{IsMadeCategory}
use Rattle.user_grammar.proofs.Spellings.{one_category, apart_left}
use Rattle.user_grammar.proofs.MadeParts.{Part, part_of, AreNamesOf, IsSound, Parts, terminal_part, binder_part, slot_part}
use Rattle.user_grammar.proofs.MadeStands.{IsItemOf}
use Rattle.user_grammar.proofs.MadeFits.{words_count}
use Rattle.user_grammar.proofs.MadeContexts.{slots_are, unbound, nothing_bound, one_word, no_numbers}
use Rattle.user_grammar.proofs.MadeWords.{taken_brackets}

-- the categories that are assumed are as categories of contexts should be
abbrev pub AreContexts : (portions : List PlainPortion) (assumed : List (List ℕ)) → Type 0
AreContexts portions assumed = (v : WrittenCategory) → Contains (categories portions) v → IsAmong assumed v.name.text → IsContextCategory portions v

marked : (b : Bool) (A : Type 0) → ((b ≡ true) ↔ A) → (b ≡ false) ⊎ A
marked true A is = inr (is.0 refl)
marked false A is = inl refl

module _ (portions : List PlainPortion) (assumed : List (List ℕ)) where
  -- a category that a word spells is plain, or is assumed
  pub plain_or_assumed : (some : List WrittenCategory) (cats : List Cat) (d : ℕ) (word : List ℕ) → AllZip (IsMadeCategory (category_texts portions) (listed portions) assumed) some cats
      → AllByRecursion (Contains (categories portions)) some → IsCategoryWord cats d word
      → MatchOption (slice_get cats d) ⊥ (λ (cat : Cat). cat.context ≡ false)
      ⊎ ((v : WrittenCategory) × Contains (categories portions) v × IsSpelling v.name.text word × IsAmong assumed v.name.text)
  plain_or_assumed [] [] d word made there is = absurd is
  plain_or_assumed [] (cat ∷ cats) d word made there is = absurd made
  plain_or_assumed (w ∷ some) [] d word made there is = absurd made
  plain_or_assumed (w ∷ some) (cat ∷ cats) (suc d) word made there is = plain_or_assumed some cats d word made.1 there.1 is
  plain_or_assumed (w ∷ some) (cat ∷ cats) zero word made there is = by_mark (marked cat.context (IsAmong assumed cat.name) made.0.category.context)
    where
      by_mark : (cat.context ≡ false) ⊎ IsAmong assumed cat.name
          → (cat.context ≡ false) ⊎ ((v : WrittenCategory) × Contains (categories portions) v × IsSpelling v.name.text word × IsAmong assumed v.name.text)
      by_mark (inl plain) = inl plain
      by_mark (inr among) =
          inr (w, there.0, subst (λ n. IsSpelling n word) made.0.category.name is, subst (IsAmong assumed) made.0.category.name among)

module _ (portions : List PlainPortion) (cats : List Cat) (known : AreNamesOf portions cats) (apart : AllApart (names cats)) (form : List PlainToken) (sound : IsSound portions form)
    (own : List (List ℕ)) where
  -- a context with one entry more
  pub entry_items : (token : PlainToken) (tokens : List PlainToken) (parts : List Part) (items : List Item) (c : ℕ) → Parts portions cats known form sound (token ∷ tokens) parts
      → AllZip (IsItemOf own) parts items → HasNoBrackets portions form → IsSlotWord portions token → IsCategoryWord cats c token.text
      → ExactlyOne (IsBinderWord portions) (token ∷ tokens) → Extends c items
  entry_items token tokens parts [] c (terminal_part at rest_is term no_slot no_binds more) made none is_slot is one = absurd made
  entry_items token tokens parts [] c (binder_part at rest_is no_slot binds spells more) made none is_slot is one = absurd made
  entry_items token tokens parts [] c (slot_part at rest_is also spells are_brackets in_them opened more) made none is_slot is one = absurd made
  entry_items token tokens parts (i ∷ items) c (terminal_part at rest_is term no_slot no_binds more) made none is_slot is one = absurd (no_slot is_slot)
  entry_items token tokens parts (i ∷ items) c (binder_part at rest_is no_slot binds spells more) made none is_slot is one = absurd (no_slot is_slot)
  entry_items token tokens parts (i ∷ items) c (slot_part {parts = left} {c = d} {bound = bound} at rest_is also spells are_brackets in_them opened more) made none is_slot is one =
      let whole : Parts portions cats known form sound (token ∷ tokens) (part_of d bound ∷ left) = slot_part at rest_is also spells are_brackets in_them opened more in
      let free = unbound portions cats known apart form sound own none whole in
      let unbinds : made.0.0 ≡ [] = no_numbers own bound made.0.0 free.0 made.0.2 in
      let item : i ≡ Slot d [] = made.0.1 ∙ ap (λ (bs : List ℕ). Slot d bs) unbinds in
      let cat = one_category cats d.0 c token.text (apart_left (category_names cats) (variable_names cats) apart) spells is in
      let count = one_word portions cats known apart form sound own whole free one.0 one.1 one.2 one.3 one.5 one.4 one.6 in
      subst (λ (x : Item). Extends c (x ∷ items)) (sym item)
      (cat, sym (words_count own left items made.1) ∙ count, nothing_bound portions cats known apart form sound own items more made.1 free.1)

  -- the slots behind the first token
  pub later_slots : (Q : ℕ → Type 0) (token : PlainToken) (tokens : List PlainToken) (parts : List Part) (items : List Item)
      → ((other : PlainToken) (c : ℕ) (at : StandsOutside portions form other) → length at.stands.rest < length tokens → IsSlotWord portions other → IsCategoryWord cats c other.text → Q c)
      → Parts portions cats known form sound (token ∷ tokens) parts → AllZip (IsItemOf own) parts items → IsSlotWord portions token → AllByRecursion (λ s. Q s.cat) (drop 1 (slots items))
  later_slots Q token tokens parts [] tell (terminal_part at rest_is term no_slot no_binds more) made is_slot = absurd made
  later_slots Q token tokens parts [] tell (binder_part at rest_is no_slot binds spells more) made is_slot = absurd made
  later_slots Q token tokens parts [] tell (slot_part at rest_is also spells are_brackets in_them opened more) made is_slot = absurd made
  later_slots Q token tokens parts (i ∷ items) tell (terminal_part at rest_is term no_slot no_binds more) made is_slot = absurd (no_slot is_slot)
  later_slots Q token tokens parts (i ∷ items) tell (binder_part at rest_is no_slot binds spells more) made is_slot = absurd (no_slot is_slot)
  later_slots Q token tokens parts (i ∷ items) tell (slot_part {rest = rest} at rest_is also spells are_brackets in_them opened more) made is_slot =
      let taken = taken_brackets are_brackets in
      let lengths : length tokens ≡ length taken.0 + length rest = ap length taken.1 ∙ length-append taken.0 rest in
      let few : length rest ≤ length tokens = omega (arith, lengths) in
      subst (λ (x : Item). AllByRecursion (λ s. Q s.cat) (drop 1 (slots (x ∷ items)))) (sym made.0.1)
      (slots_are portions cats known apart form sound own Q (length tokens) tell items few more made.1)

  -- a token with others before it does not stand at the front
  pub not_in_front : (token : PlainToken) (tokens : List PlainToken) (other : PlainToken) (at : StandsOutside portions form other) → form ≡ token ∷ tokens
      → length at.stands.rest < length tokens → at.stands.front ≡ [] → ⊥
  not_in_front token tokens other at whole below front =
      let split : token ∷ tokens ≡ [] ++ other ∷ at.stands.rest =
      sym whole ∙ at.stands.split ∙ ap (λ (ts : List PlainToken). ts ++ other ∷ at.stands.rest) front in
      let lengths : suc (length tokens) ≡ suc (length at.stands.rest) = ap length split in
      omega (arith, lengths, below)
