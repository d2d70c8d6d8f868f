-- Items and arguments, one step on.
use Rattle.std.proofs.Common.{◌≡◌, ℕ, zero, suc, ◌+◌, ◌<◌, Bool, true, false, if◌then◌else◌, Option, List, [], ◌∷◌, ◌++◌, map, take, drop, length, get_or, refl, ap, sym, ◌∙◌, add-one}
use Rattle.std.proofs.lemmas.List.{drop_more}
use Rattle.binding_terms.specs.Signature.{Signature, Place, slots}
use Rattle.binding_terms.specs.declared.grammar.CatId.{CatId}
use Rattle.binding_terms.specs.declared.grammar.Item.{Item}
use Rattle.binding_terms.specs.declared.grammar.Item.TheVariants.{Word, Slot, Binder}
use Rattle.scheme_terms.specs.declared.scheme.SArg.{SArg}
use Rattle.scheme_terms.specs.View.{scheme_parts}
use Rattle.rule_schemes.specs.Printing as printing
use Rattle.rule_schemes.specs.Printing.{terminal, first, is_context_slot, judgment_form, laid_out, subterms, variable_word}
use Rattle.form_printing.specs.declared.words.Variable as words
use Rattle.form_printing.specs.View.{variables, items_tokens, slot_tokens}

-- the item at an index, and those after it
pub items_from : (items : List Item) (i : ℕ) (item x : Item) → i < length items → item ≡ get_or items i item → item ≡ x
    → drop i items ≡ x ∷ drop (i + 1) items
items_from items i item x h is same = drop_more items i item h ∙ ap (λ y. y ∷ drop (i + 1) items) (sym is ∙ same)

-- what is left of the words of binders and of what stands in the slots, one further on
words_suc : (sig : Signature) (bs : List words.Variable) (n : ℕ)
    → drop 1 (map (variable_word sig) (variables (drop n bs))) ≡ map (variable_word sig) (variables (drop (suc n) bs))
words_suc sig [] zero = refl
words_suc sig [] (suc n) = refl
words_suc sig (x ∷ xs) zero = refl
words_suc sig (x ∷ xs) (suc n) = words_suc sig xs n

pub words_more : (sig : Signature) (bs : List words.Variable) (n : ℕ)
    → drop 1 (map (variable_word sig) (variables (drop n bs))) ≡ map (variable_word sig) (variables (drop (n + 1) bs))
words_more sig bs n = words_suc sig bs n ∙ ap (λ k. map (variable_word sig) (variables (drop k bs))) (sym (add-one n))

subterms_suc : (sig : Signature) (labels : printing.Labels) (vs bs : List printing.Variable) (s : Place) (ss : List Place) (args : List SArg) (n : ℕ)
    → drop 1 (subterms sig labels vs bs (s ∷ ss) (scheme_parts ((drop n args))))
    ≡ subterms sig labels vs bs ss (scheme_parts ((drop (suc n) args)))
subterms_suc sig labels vs bs s ss [] zero = refl
subterms_suc sig labels vs bs s ss [] (suc n) = refl
subterms_suc sig labels vs bs s ss (a ∷ args) zero = refl
subterms_suc sig labels vs bs s ss (a ∷ args) (suc n) = subterms_suc sig labels vs bs s ss args n

subterms_more : (sig : Signature) (labels : printing.Labels) (vs bs : List printing.Variable) (s : Place) (ss : List Place) (args : List SArg) (n : ℕ)
    → drop 1 (subterms sig labels vs bs (s ∷ ss) (scheme_parts ((drop n args))))
    ≡ subterms sig labels vs bs ss (scheme_parts ((drop (n + 1) args)))
subterms_more sig labels vs bs s ss args n =
    subterms_suc sig labels vs bs s ss args n ∙ ap (λ k. subterms sig labels vs bs ss (scheme_parts ((drop k args)))) (sym (add-one n))

-- the first of the subterms does not depend on the slots after its own
first_subterm : (sig : Signature) (labels : printing.Labels) (vs bs : List printing.Variable) (c : ℕ) (binds : List ℕ) (ss : List Place) (args : List SArg)
    → first (subterms sig labels vs bs (record { cat = c; binds = binds } ∷ ss) (scheme_parts args)) ≡ slot_tokens sig labels vs bs binds args
first_subterm sig labels vs bs c binds ss [] = refl
first_subterm sig labels vs bs c binds ss (a ∷ args) = refl

pub word_step : (sig : Signature) (labels : printing.Labels) (vs bs ws : List printing.Variable) (items : List Item) (args : List SArg) (i : ℕ) (item : Item)
    (text : List ℕ) (quoted : Bool) → i < length items → item ≡ get_or items i item → item ≡ Word text quoted
    → items_tokens sig labels vs bs ws (drop i items) args ≡ (terminal text quoted ∷ []) ++ items_tokens sig labels vs bs ws (drop (i + 1) items) args
word_step sig labels vs bs ws items args i item text quoted h is same =
    ap (λ xs. items_tokens sig labels vs bs ws xs args) (items_from items i item (Word text quoted) h is same)

pub binder_step : (sig : Signature) (labels : printing.Labels) (vs : List printing.Variable) (bs : List words.Variable) (items : List Item) (args : List SArg)
    (i n : ℕ) (item : Item) (c : CatId) → i < length items → item ≡ get_or items i item → item ≡ Binder c
    → items_tokens sig labels vs (variables bs) (variables (drop n bs)) (drop i items) args
    ≡ take 1 (map (variable_word sig) (variables (drop n bs))) ++ items_tokens sig labels vs (variables bs) (variables (drop (n + 1) bs)) (drop (i + 1) items) args
binder_step sig labels vs bs items args i n item c h is same =
    ap (λ xs. items_tokens sig labels vs (variables bs) (variables (drop n bs)) xs args) (items_from items i item (Binder c) h is same)
    ∙ ap
    (λ ws. take 1 (map (variable_word sig) (variables (drop n bs)))
    ++ laid_out (drop (i + 1) items) ws (subterms sig labels vs (variables bs) (slots (drop (i + 1) items)) (scheme_parts args)))
    (words_more sig bs n)

pub slot_step : (sig : Signature) (labels : printing.Labels) (vs bs ws : List printing.Variable) (items : List Item) (args : List SArg) (i n : ℕ) (item : Item)
    (c : CatId) (binds : List ℕ) → i < length items → item ≡ get_or items i item → item ≡ Slot c binds
    → items_tokens sig labels vs bs ws (drop i items) (drop n args)
    ≡ slot_tokens sig labels vs bs binds (drop n args) ++ items_tokens sig labels vs bs ws (drop (i + 1) items) (drop (n + 1) args)
slot_step sig labels vs bs ws items args i n item c binds h is same =
    ap (λ xs. items_tokens sig labels vs bs ws xs (drop n args)) (items_from items i item (Slot c binds) h is same)
    ∙ (λ k. first_subterm sig labels vs bs c.0 binds (slots (drop (i + 1) items)) (drop n args) k
    ++ laid_out (drop (i + 1) items) (map (variable_word sig) ws)
    (subterms_more sig labels vs bs (record { cat = c.0; binds = binds }) (slots (drop (i + 1) items)) args n k))

-- a slot of a judgment's form
pub context_step : (ctx : Option CatId) (c : CatId) (binds : List ℕ) (items : List Item) (ts : List (List ℕ)) (xs : List (List (List ℕ)))
    → is_context_slot ctx c ≡ true → judgment_form ctx (Slot c binds ∷ items) ts xs ≡ ts ++ judgment_form ctx items ts xs
context_step ctx c binds items ts xs h =
    ap (λ b. if b then ts ++ judgment_form ctx items ts xs else (first xs ++ judgment_form ctx items ts (drop 1 xs))) h

pub argument_step : (ctx : Option CatId) (c : CatId) (binds : List ℕ) (items : List Item) (ts : List (List ℕ)) (xs : List (List (List ℕ)))
    → is_context_slot ctx c ≡ false → judgment_form ctx (Slot c binds ∷ items) ts xs ≡ first xs ++ judgment_form ctx items ts (drop 1 xs)
argument_step ctx c binds items ts xs h =
    ap (λ b. if b then ts ++ judgment_form ctx items ts xs else (first xs ++ judgment_form ctx items ts (drop 1 xs))) h
