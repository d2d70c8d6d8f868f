-- The productions of a grammar without a fault fit: their slots and binders.
use Rattle.std.proofs.Common.{◌≡◌, true, ◌≢◌, ◌<◌, ℕ, zero, suc, List, [], ◌∷◌, length, Option, None, Some, refl, ap, ◌∙◌, sym, subst, slice_get, arith}
use Rattle.std.specs.Option.{MatchOption, is_some}
use Rattle.std.specs.List.{AllByRecursion, AllZip}
use Rattle.sy_base.specs.Tokens.{PlainToken}
use Rattle.binding_terms.specs.Numbered.{AreDifferent}
use Rattle.binding_terms.specs.Signature.{Signature, slots, binders, HasVariable, PlaceFits, IsSingle}
use Rattle.binding_terms.specs.declared.grammar.Cat.{Cat}
use Rattle.binding_terms.specs.declared.grammar.CatId.{CatId}
use Rattle.binding_terms.specs.declared.grammar.Item.{Item}
use Rattle.binding_terms.specs.declared.grammar.Item.TheVariants.{Word, Slot, Binder}
use Rattle.binding_terms.specs.declared.grammar.Prod.{Prod}
use Rattle.outline_reader.specs.Plain.{PlainPortion}
use Rattle.rule_schemes.specs.Reading.{IsSpelling, IsCategoryWord}
use Rattle.user_grammar.specs.Names.{AllApart, AllDiffer, names}
use Rattle.user_grammar.specs.Production.{AreBrackets, AreNumbers}
use Rattle.user_grammar.specs.Fault.{IsOneSlot}
use Rattle.user_grammar.specs.MadeItems.{IsBinderSpelling}
use Rattle.user_grammar.proofs.MadeParts.{Part, itself, bound_as, part_of, AreNamesOf, IsSound, Parts, no_parts, terminal_part, binder_part, slot_part}
use Rattle.user_grammar.proofs.MadeStands.{IsItemOf}
use Rattle.user_grammar.proofs.MadeWords.{words_of, bound_differ}

in_range : (cats : List Cat) (c : ℕ) (word : List ℕ) → IsCategoryWord cats c word → c < length cats
in_range [] c word is = absurd is
in_range (cat ∷ cats) zero word is = omega arith
in_range (cat ∷ cats) (suc c) word is = let below = in_range cats c word is in omega (arith, below)

place_below : (texts : List (List ℕ)) (n : ℕ) (text : List ℕ) → slice_get texts n ≡ Some text → n < length texts
place_below [] n text at = absurd cc
place_below (one ∷ texts) zero text at = omega arith
place_below (one ∷ texts) (suc n) text at = let below = place_below texts n text at in omega (arith, below)

numbers_below : (own bound : List (List ℕ)) (binds : List ℕ) → AreNumbers own bound binds → AllByRecursion (λ n. n < length own) binds
numbers_below own [] [] are = tt
numbers_below own [] (n ∷ binds) are = absurd are
numbers_below own (word ∷ bound) [] are = absurd are
numbers_below own (word ∷ bound) (n ∷ binds) are = (place_below own n word are.0, numbers_below own bound binds are.1)

others_differ : (own : List (List ℕ)) (n : ℕ) (word : List ℕ) (bound : List (List ℕ)) (binds : List ℕ) → slice_get own n ≡ Some word → AllByRecursion (λ other. word ≢ other) bound
    → AreNumbers own bound binds → AllByRecursion (λ m. n ≢ m) binds
others_differ own n word [] [] at differ are = tt
others_differ own n word [] (m ∷ binds) at differ are = absurd are
others_differ own n word (other ∷ bound) [] at differ are = absurd are
others_differ own n word (other ∷ bound) (m ∷ binds) at differ are = (
  λ same. differ.0 (let one : Some word ≡ Some other = sym at ∙ ap (λ (k : ℕ). slice_get own k) same ∙ are.0 in cc),
  others_differ own n word bound binds at differ.1 are.1,
)

numbers_differ : (own bound : List (List ℕ)) (binds : List ℕ) → AllDiffer bound → AreNumbers own bound binds → AreDifferent binds
numbers_differ own [] [] differ are = tt
numbers_differ own [] (n ∷ binds) differ are = absurd are
numbers_differ own (word ∷ bound) [] differ are = absurd are
numbers_differ own (word ∷ bound) (n ∷ binds) differ are = (others_differ own n word bound binds are.0 differ.0 are.1, numbers_differ own bound binds differ.1 are.1)

-- there is a word for each binder
pub words_count : (own : List (List ℕ)) (parts : List Part) (items : List Item) → AllZip (IsItemOf own) parts items → length (words_of parts) ≡ length (binders items)
words_count own [] [] made = refl
words_count own [] (i ∷ items) made = absurd made
words_count own (part ∷ parts) [] made = absurd made
words_count own (itself token ∷ parts) (i ∷ items) made =
    subst (λ (x : Item). length (words_of parts) ≡ length (binders (x ∷ items))) (sym made.0) (words_count own parts items made.1)
words_count own (bound_as c word ∷ parts) (i ∷ items) made =
    subst (λ (x : Item). suc (length (words_of parts)) ≡ length (binders (x ∷ items))) (sym made.0) (ap suc (words_count own parts items made.1))
words_count own (part_of c bound ∷ parts) (i ∷ items) made =
    subst (λ (x : Item). length (words_of parts) ≡ length (binders (x ∷ items))) (sym made.0.1) (words_count own parts items made.1)

has_variable : (cats : List Cat) (prods : List Prod) (c : ℕ) (word : List ℕ) → IsBinderSpelling cats c word → HasVariable (record { cats = cats; prods = prods }) c
has_variable [] prods c word is = is
has_variable (cat ∷ cats) prods zero word is = by_var cat.var is
  where
    by_var : (var : Option (List ℕ)) → MatchOption var ⊥ (λ name. IsSpelling name word) → is_some var ≡ true
    by_var None at = absurd at
    by_var (Some name) at = refl
has_variable (cat ∷ cats) prods (suc c) word is = has_variable cats prods c word is

module _ (portions : List PlainPortion) (cats : List Cat) (known : AreNamesOf portions cats) (apart : AllApart (names cats)) (form : List PlainToken) (sound : IsSound portions form) (prods : List Prod) (prod : Prod)
    (own : List (List ℕ)) (counted : length own ≡ length (binders prod.items)) where
  abbrev sig : Signature
  sig = record { cats = cats; prods = prods }

  place_fits : (c : CatId) (word : List ℕ) (bound : List (List ℕ)) (binds : List ℕ) → IsCategoryWord cats c.0 word → AllDiffer bound → AreNumbers own bound binds
      → PlaceFits sig prod (record { cat = c.0; binds = binds })
  place_fits c word bound binds is differ are = record {
    cat = in_range cats c.0 word is;
    in_range = subst (λ (k : ℕ). AllByRecursion (λ n. n < k) binds) counted (numbers_below own bound binds are);
    different = numbers_differ own bound binds differ are;
  }

  pub places_fit : {tokens : List PlainToken} {parts : List Part} (items : List Item) → Parts portions cats known form sound tokens parts → AllZip (IsItemOf own) parts items
      → AllByRecursion (PlaceFits sig prod) (slots items)
  places_fit [] no_parts made = tt
  places_fit (i ∷ items) no_parts made = absurd made
  places_fit [] (terminal_part at rest_is term no_slot no_binds more) made = absurd made
  places_fit [] (binder_part at rest_is no_slot binds spells more) made = absurd made
  places_fit [] (slot_part at rest_is is_slot spells are_brackets in_them opened more) made = absurd made
  places_fit (i ∷ items) (terminal_part at rest_is term no_slot no_binds more) made =
      subst (λ (x : Item). AllByRecursion (PlaceFits sig prod) (slots (x ∷ items))) (sym made.0) (places_fit items more made.1)
  places_fit (i ∷ items) (binder_part at rest_is no_slot binds spells more) made =
      subst (λ (x : Item). AllByRecursion (PlaceFits sig prod) (slots (x ∷ items))) (sym made.0) (places_fit items more made.1)
  places_fit (i ∷ items) (slot_part {token = token} {c = c} {bound = bound} at rest_is is_slot spells are_brackets in_them opened more) made =
      subst (λ (x : Item). AllByRecursion (PlaceFits sig prod) (slots (x ∷ items))) (sym made.0.1)
      (place_fits c token.text bound made.0.0 spells (bound_differ portions cats known apart form sound [] bound in_them) made.0.2, places_fit items more made.1)

  pub binders_vary : {tokens : List PlainToken} {parts : List Part} (items : List Item) → Parts portions cats known form sound tokens parts → AllZip (IsItemOf own) parts items
      → AllByRecursion (HasVariable sig) (binders items)
  binders_vary [] no_parts made = tt
  binders_vary (i ∷ items) no_parts made = absurd made
  binders_vary [] (terminal_part at rest_is term no_slot no_binds more) made = absurd made
  binders_vary [] (binder_part at rest_is no_slot binds spells more) made = absurd made
  binders_vary [] (slot_part at rest_is is_slot spells are_brackets in_them opened more) made = absurd made
  binders_vary (i ∷ items) (terminal_part at rest_is term no_slot no_binds more) made =
      subst (λ (x : Item). AllByRecursion (HasVariable sig) (binders (x ∷ items))) (sym made.0) (binders_vary items more made.1)
  binders_vary (i ∷ items) (binder_part {token = token} {c = c} at rest_is no_slot binds spells more) made =
      subst (λ (x : Item). AllByRecursion (HasVariable sig) (binders (x ∷ items))) (sym made.0)
      (has_variable cats prods c.0 token.text spells, binders_vary items more made.1)
  binders_vary (i ∷ items) (slot_part at rest_is is_slot spells are_brackets in_them opened more) made =
      subst (λ (x : Item). AllByRecursion (HasVariable sig) (binders (x ∷ items))) (sym made.0.1) (binders_vary items more made.1)

  -- items stand for tokens
  pub items_some : {tokens : List PlainToken} {parts : List Part} (items : List Item) → Parts portions cats known form sound tokens parts → AllZip (IsItemOf own) parts items
      → items ≡ [] → tokens ≡ []
  items_some items no_parts made none = refl
  items_some [] (terminal_part at rest_is term no_slot no_binds more) made none = absurd made
  items_some [] (binder_part at rest_is no_slot binds spells more) made none = absurd made
  items_some [] (slot_part at rest_is is_slot spells are_brackets in_them opened more) made none = absurd made
  items_some (i ∷ items) (terminal_part at rest_is term no_slot no_binds more) made none = absurd cc
  items_some (i ∷ items) (binder_part at rest_is no_slot binds spells more) made none = absurd cc
  items_some (i ∷ items) (slot_part at rest_is is_slot spells are_brackets in_them opened more) made none = absurd cc

  no_tokens : {tokens : List PlainToken} {parts : List Part} → Parts portions cats known form sound tokens parts → AllZip (IsItemOf own) parts [] → tokens ≡ []
  no_tokens are made = items_some [] are made refl

  -- one slot alone is one in the form
  pub one_slot : {tokens : List PlainToken} {parts : List Part} (items : List Item) → Parts portions cats known form sound tokens parts → AllZip (IsItemOf own) parts items
      → IsSingle items → IsOneSlot portions tokens
  one_slot [] are made single = absurd single
  one_slot (Word text quoted ∷ items) are made single = absurd single
  one_slot (Binder c ∷ items) are made single = absurd single
  one_slot (Slot c binds ∷ i ∷ items) are made single = absurd single
  one_slot (Slot c binds ∷ []) no_parts made single = absurd made
  one_slot (Slot c binds ∷ []) (terminal_part at rest_is term no_slot no_binds more) made single = absurd cc
  one_slot (Slot c binds ∷ []) (binder_part at rest_is no_slot spells_one spells more) made single = absurd cc
  one_slot (Slot c binds ∷ []) (slot_part {tokens = tokens} {bound = bound} at rest_is is_slot spells are_brackets in_them opened more) made single =
      (is_slot, (bound, subst (λ (r : List PlainToken). AreBrackets bound tokens r) (no_tokens more made.1) are_brackets))
