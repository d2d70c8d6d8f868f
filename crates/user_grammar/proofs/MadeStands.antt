-- Each form of a grammar without a fault stands for a production, or declares the variable of its category.
use Rattle.std.proofs.Common.{◌≡◌, ℕ, suc, List, [], ◌∷◌, Option, None, Some, refl, ap, inl, inr, ◌==◌, slice_get}
use Rattle.std.specs.Option.{MatchOption}
use Rattle.std.specs.List.{AllByRecursion, AllZip}
use Rattle.sy_base.specs.Tokens.{PlainToken}
use Rattle.binding_terms.specs.declared.grammar.Cat.{Cat}
use Rattle.binding_terms.specs.declared.grammar.CatId.{CatId}
use Rattle.binding_terms.specs.declared.grammar.Item.{Item}
use Rattle.binding_terms.specs.declared.grammar.Item.TheVariants.{Word, Slot, Binder}
use Rattle.binding_terms.specs.declared.grammar.Prod.{Prod}
use Rattle.outline_reader.specs.Plain.{PlainPortion}
use Rattle.rule_schemes.specs.Reading.{IsSpelling, IsCategoryWord}
use Rattle.user_grammar.specs.File.{listed}
use Rattle.user_grammar.specs.Names.{names_if, names, category_names, variable_names, IsAmong, IsNoSpelling, AllApart}
use Rattle.user_grammar.specs.Production.{AreNumbers, AreItems, no_items, terminal, binder, slot, IsProduction}
use Rattle.user_grammar.specs.MadeItems.{IsBinderSpelling}
use Rattle.user_grammar.proofs.MadeParts.{Part, itself, bound_as, part_of, AreNamesOf, IsSound, Parts, no_parts, terminal_part, binder_part, slot_part, parts_of_form}
use Rattle.user_grammar.proofs.MadeWords.{words_of, words_differ, bound_among}
use Rattle.binding_terms.proofs.Lists.{all_append}

-- ---- numbers and spellings

place_there : (texts : List (List ℕ)) (text : List ℕ) → IsAmong texts text → (n : ℕ) × (slice_get texts n ≡ Some text)
place_there [] text among = absurd among
place_there (one ∷ texts) text (inl same) = (0, ap Some same)
place_there (one ∷ texts) text (inr among) = let found = place_there texts text among in (suc found.0, found.1)

pub numbers_there : (own bound : List (List ℕ)) → AllByRecursion (IsAmong own) bound → (binds : List ℕ) × AreNumbers own bound binds
numbers_there own [] all = ([], tt)
numbers_there own (word ∷ bound) all =
    let place = place_there own word all.0 in let rest = numbers_there own bound all.1 in (place.0 ∷ rest.0, (place.1, rest.1))

no_category_name : (cats : List Cat) (word : List ℕ) → ((c : ℕ) → IsCategoryWord cats c word → ⊥) → IsNoSpelling (category_names cats) word
no_category_name [] word not = tt
no_category_name (cat ∷ cats) word not = (not 0, no_category_name cats word (λ c is. not (suc c) is))

no_variable_name : (cats : List Cat) (word : List ℕ) → ((c : ℕ) → IsBinderSpelling cats c word → ⊥) → IsNoSpelling (variable_names cats) word
no_variable_name [] word not = tt
no_variable_name (cat ∷ cats) word not =
    all_append (λ (name : List ℕ). IsSpelling name word → ⊥) (names_if cat.var) (variable_names cats) (own cat.var (not 0)) (no_variable_name cats word (λ c is. not (suc c) is))
  where
    own : (var : Option (List ℕ)) → (MatchOption var ⊥ (λ name. IsSpelling name word) → ⊥) → AllByRecursion (λ (name : List ℕ). IsSpelling name word → ⊥) (names_if var)
    own None fails = tt
    own (Some name) fails = (fails, tt)

no_name_of : (cats : List Cat) (word : List ℕ) → ((c : ℕ) → IsCategoryWord cats c word → ⊥) → ((c : ℕ) → IsBinderSpelling cats c word → ⊥) → IsNoSpelling (names cats) word
no_name_of cats word no_category no_binder =
    all_append (λ (name : List ℕ). IsSpelling name word → ⊥) (category_names cats) (variable_names cats) (no_category_name cats word no_category) (no_variable_name cats word no_binder)

-- ---- items

-- the item for a part, where the binders have these words
abbrev pub IsItemOf : (own : List (List ℕ)) → Part → Item → Type 0
IsItemOf own (itself token) made = made ≡ Word token.text (token.kind == 4)
IsItemOf own (bound_as c word) made = made ≡ Binder c
IsItemOf own (part_of c bound) made = (binds : List ℕ) × (made ≡ Slot c binds) × AreNumbers own bound binds

module _ (portions : List PlainPortion) (cats : List Cat) (known : AreNamesOf portions cats) (form : List PlainToken) (sound : IsSound portions form) (own : List (List ℕ)) where
  pub record ItemsThere (tokens : List PlainToken) (parts : List Part) : Type 0 where
    pub items : List Item
    pub are_items : AreItems cats (listed portions) own tokens items (words_of parts)
    pub made : AllZip (IsItemOf own) parts items

  -- the brackets of these parts have words of binders
  abbrev pub AllBound : List Part → Type 0
  AllBound [] = Unit {0}
  AllBound (itself token ∷ parts) = AllBound parts
  AllBound (bound_as c word ∷ parts) = AllBound parts
  AllBound (part_of c bound ∷ parts) = AllByRecursion (IsAmong own) bound × AllBound parts

  pub items_there : {tokens : List PlainToken} {parts : List Part} → Parts portions cats known form sound tokens parts → AllBound parts → ItemsThere tokens parts
  items_there no_parts bound = record { items = []; are_items = no_items; made = tt }
  items_there (terminal_part {token = token} at rest_is is_terminal no_slot no_binds more) bound =
      let rest = items_there more bound in
      let unspelled : token.kind ≡ 0 → IsNoSpelling (names cats) token.text =
      λ kind. no_name_of cats token.text (λ c is. no_slot (known.word_slot token c kind is)) (λ c is. no_binds (known.word_binder token c kind is)) in
      record { items = Word token.text (token.kind == 4) ∷ rest.items; are_items = terminal is_terminal unspelled rest.are_items; made = (refl, rest.made) }
  items_there (binder_part {c = c} at rest_is no_slot binds spells more) bound =
      let rest = items_there more bound in
      record { items = Binder c ∷ rest.items; are_items = binder binds.0 spells rest.are_items; made = (refl, rest.made) }
  items_there (slot_part {c = c} {bound = in_brackets} at rest_is is_slot spells are_brackets in_them opened more) bound =
      let rest = items_there more bound.1 in
      let numbers = numbers_there own in_brackets bound.0 in
      record { items = Slot c numbers.0 ∷ rest.items; are_items = slot is_slot.0 spells are_brackets numbers.1 rest.are_items; made = ((numbers.0, refl, numbers.1), rest.made) }

-- a form, its parts and its production
pub record FormStands (portions : List PlainPortion) (cats : List Cat) (known : AreNamesOf portions cats) (form : List PlainToken) (sound : IsSound portions form) (c : ℕ) : Type 0 where
  pub parts : List Part
  pub are_parts : Parts portions cats known form sound form parts
  pub prod : Prod
  pub cat : prod.cat.0 ≡ c
  pub is_production : IsProduction cats (listed portions) c form prod
  pub made : AllZip (IsItemOf (words_of parts)) parts prod.items

module _ (portions : List PlainPortion) (cats : List Cat) (known : AreNamesOf portions cats) (apart : AllApart (names cats)) (form : List PlainToken) (sound : IsSound portions form) where
  all_bound : (whole : List Part) → Parts portions cats known form sound form whole → {tokens : List PlainToken} {parts : List Part}
      → Parts portions cats known form sound tokens parts → AllBound portions cats known form sound (words_of whole) parts
  all_bound whole are no_parts = tt
  all_bound whole are (terminal_part at rest_is is_terminal no_slot no_binds more) = all_bound whole are more
  all_bound whole are (binder_part at rest_is no_slot binds spells more) = all_bound whole are more
  all_bound whole are (slot_part {bound = bound} at rest_is is_slot spells are_brackets in_them opened more) =
      (bound_among portions cats known apart form sound whole are [] bound in_them, all_bound whole are more)

  pub form_stands : (c : ℕ) → FormStands portions cats known form sound c
  form_stands c =
      let read = parts_of_form portions cats known form sound in
      let there = items_there portions cats known form sound (words_of read.0) read.1 (all_bound read.0 read.1 read.1) in
      let id : CatId = record { 0 = c } in
      let prod : Prod = record { cat = id; items = there.items } in
      record {
        parts = read.0;
        are_parts = read.1;
        prod = prod;
        cat = refl;
        is_production = record { words = words_of read.0; cat = refl; items = there.are_items; different = words_differ portions cats known apart form sound read.1 };
        made = there.made;
      }
