-- Whether a signature fits can be told.
use Rattle.std.proofs.Common.{◌≡◌, ◌≢◌, ◌<◌, ℕ, suc, Bool, true, false, IsTrue, List, [], ◌∷◌, length, drop, Option, None, Some, refl, inl, inr, slice_get}
use Rattle.std.specs.Prelude.{is_some, MatchOption, MatchBool}
use Rattle.std.specs.List.{AllByRecursion}
use Rattle.binding_terms.specs.Numbered.{AllNumbered, AreDifferent}
use Rattle.binding_terms.specs.Signature.{Signature, Place, slots, binders, HasVariable, IsPlain, PlaceFits, IsSingle, is_empty_form, Extends, IsContextForm, ProdFits, CatFits, Fits}
use Rattle.binding_terms.specs.declared.grammar.Cat.{Cat}
use Rattle.binding_terms.specs.declared.grammar.Item.{Item}
use Rattle.binding_terms.specs.declared.grammar.Item.TheVariants.{Word, Slot, Binder}
use Rattle.binding_terms.specs.declared.grammar.Prod.{Prod}
use Rattle.user_grammar.proofs.MadeDecided.{Decided, both_decided, either_decided, not_decided, all_decided, numbers_decided, order_decided, true_decided, three}

numbered_decided : {X : Type 0} (P : ℕ → X → Type 0) → ((n : ℕ) (x : X) → Decided (P n x)) → (n : ℕ) (xs : List X) → Decided (AllNumbered P n xs)
numbered_decided P tells n [] = inl tt
numbered_decided P tells n (x ∷ xs) = both_decided (tells n x) (numbered_decided P tells (suc n) xs)

different_decided : (ns : List ℕ) → Decided (AreDifferent ns)
different_decided [] = inl tt
different_decided (n ∷ ns) = both_decided (all_decided (λ m. n ≢ m) (λ m. not_decided (numbers_decided n m)) ns) (different_decided ns)

some_decided : {X : Type 0} (o : Option X) (P : X → Type 0) → ((x : X) → Decided (P x)) → Decided (MatchOption o ⊥ P)
some_decided None P tells = inr (λ none. none)
some_decided (Some x) P tells = tells x

chosen_decided : {A B : Type 0} (b : Bool) → Decided A → Decided B → Decided (MatchBool b A B)
chosen_decided true one other = one
chosen_decided false one other = other

false_decided : (b : Bool) → Decided (b ≡ false)
false_decided true = inr (λ same. cc)
false_decided false = inl refl

none_decided : {X : Type 0} (o : Option X) → Decided (o ≡ None)
none_decided None = inl refl
none_decided (Some x) = inr (λ same. cc)

nothing_decided : (ns : List ℕ) → Decided (ns ≡ [])
nothing_decided [] = inl refl
nothing_decided (n ∷ ns) = inr (λ same. cc)

some_item_decided : (items : List Item) → Decided (items ≢ [])
some_item_decided [] = inr (λ some. some refl)
some_item_decided (item ∷ items) = inl (λ same. cc)

place_decided : (sig : Signature) (p : Prod) (s : Place) → Decided (PlaceFits sig p s)
place_decided sig p s =
    step (order_decided (suc s.cat) (length sig.cats))
    (all_decided (λ n. n < length (binders p.items)) (λ n. order_decided (suc n) (length (binders p.items))) s.binds) (different_decided s.binds)
  where
    step : Decided (s.cat < length sig.cats) → Decided (AllByRecursion (λ n. n < length (binders p.items)) s.binds) → Decided (AreDifferent s.binds) → Decided (PlaceFits sig p s)
    step (inl a) (inl b) (inl d) = inl (record { cat = a; in_range = b; different = d })
    step (inr a) second third = inr (λ fits. a fits.cat)
    step (inl a) (inr b) third = inr (λ fits. b fits.in_range)
    step (inl a) (inl b) (inr d) = inr (λ fits. d fits.different)

single_decided : (items : List Item) → Decided (IsSingle items)
single_decided [] = inr (λ none. none)
single_decided (Slot cat binds ∷ []) = inl tt
single_decided (Slot cat binds ∷ item ∷ items) = inr (λ none. none)
single_decided (Word text quoted ∷ items) = inr (λ none. none)
single_decided (Binder cat ∷ items) = inr (λ none. none)

extends_decided : (c : ℕ) (items : List Item) → Decided (Extends c items)
extends_decided c [] = inr (λ none. none)
extends_decided c (Slot d [] ∷ items) =
    three (numbers_decided d.0 c) (numbers_decided (length (binders items)) 1) (all_decided (λ s. s.binds ≡ []) (λ s. nothing_decided s.binds) (slots items))
extends_decided c (Slot d (n ∷ binds) ∷ items) = inr (λ none. none)
extends_decided c (Word text quoted ∷ items) = inr (λ none. none)
extends_decided c (Binder cat ∷ items) = inr (λ none. none)

plain_decided : (sig : Signature) (c : ℕ) → Decided (IsPlain sig c)
plain_decided sig c = some_decided (slice_get sig.cats c) (λ cat. cat.context ≡ false) (λ cat. false_decided cat.context)

all_plain_decided : (sig : Signature) (places : List Place) → Decided (AllByRecursion (λ s. IsPlain sig s.cat) places)
all_plain_decided sig places = all_decided (λ s. IsPlain sig s.cat) (λ s. plain_decided sig s.cat) places

context_form_decided : (sig : Signature) (p : Prod) → Decided (IsContextForm sig p)
context_form_decided sig p =
    either_decided (true_decided (is_empty_form p)) (both_decided (extends_decided p.cat.0 p.items) (all_plain_decided sig (drop 1 (slots p.items))))

variable_decided : (sig : Signature) (c : ℕ) → Decided (HasVariable sig c)
variable_decided sig c = some_decided (slice_get sig.cats c) (λ cat. IsTrue (is_some cat.var)) (λ cat. true_decided (is_some cat.var))

-- the form of a production by its category
abbrev HasForm : Signature → Prod → Type 0
HasForm sig p =
    MatchOption (slice_get sig.cats p.cat.0) ⊥ (λ cat. MatchBool cat.context (IsContextForm sig p) (AllByRecursion (λ s. IsPlain sig s.cat) (slots p.items)))

form_decided : (sig : Signature) (p : Prod) → Decided (HasForm sig p)
form_decided sig p =
    some_decided (slice_get sig.cats p.cat.0) (λ cat. MatchBool cat.context (IsContextForm sig p) (AllByRecursion (λ s. IsPlain sig s.cat) (slots p.items)))
    (λ cat. chosen_decided cat.context (context_form_decided sig p) (all_plain_decided sig (slots p.items)))

prod_decided : (sig : Signature) (p : Prod) → Decided (ProdFits sig p)
prod_decided sig p =
    step (all_decided (PlaceFits sig p) (place_decided sig p) (slots p.items)) (all_decided (HasVariable sig) (variable_decided sig) (binders p.items))
    (some_item_decided p.items) (not_decided (single_decided p.items)) (form_decided sig p)
  where
    step : Decided (AllByRecursion (PlaceFits sig p) (slots p.items)) → Decided (AllByRecursion (HasVariable sig) (binders p.items)) → Decided (p.items ≢ [])
        → Decided (IsSingle p.items → ⊥) → Decided (HasForm sig p) → Decided (ProdFits sig p)
    step (inl a) (inl b) (inl d) (inl e) (inl f) = inl (record { places = a; variables = b; some_item = d; not_single = e; form = f })
    step (inr a) second third fourth fifth = inr (λ fits. a fits.places)
    step (inl a) (inr b) third fourth fifth = inr (λ fits. b fits.variables)
    step (inl a) (inl b) (inr d) fourth fifth = inr (λ fits. d fits.some_item)
    step (inl a) (inl b) (inl d) (inr e) fifth = inr (λ fits. e fits.not_single)
    step (inl a) (inl b) (inl d) (inl e) (inr f) = inr (λ fits. f fits.form)

cat_decided : (sig : Signature) (c : ℕ) (cat : Cat) → Decided (CatFits sig c cat)
cat_decided sig c cat = chosen_decided cat.context (both_decided (none_decided cat.var) (numbers_decided _ 1)) (inl tt)

pub fits_decided : (sig : Signature) → Decided (Fits sig)
fits_decided sig = step (all_decided (ProdFits sig) (prod_decided sig) sig.prods) (numbered_decided (CatFits sig) (cat_decided sig) 0 sig.cats)
  where
    step : Decided (AllByRecursion (ProdFits sig) sig.prods) → Decided (AllNumbered (CatFits sig) 0 sig.cats) → Decided (Fits sig)
    step (inl a) (inl b) = inl (record { prods = a; cats = b })
    step (inr a) other = inr (λ fits. a fits.prods)
    step (inl a) (inr b) = inr (λ fits. b fits.cats)
