-- How many slots of a category stand among items, and whether one stands first.
use Rattle.std.proofs.Common.{◌≡◌, ◌≢◌, ◌==◌, cond, ℕ, ◌+◌, ◌<◌, List, [], ◌∷◌, ◌++◌, length, take, get_or, refl, ap, ◌∙◌, sym}
use Rattle.std.specs.Prelude.{count_by}
use Rattle.std.proofs.lemmas.Bool.{eq-eqb, ne_eqb}
use Rattle.std.proofs.lemmas.List.{take_more}
use Rattle.std.proofs.lemmas.List.Sums.{sum_by-append}
use Rattle.binding_terms.specs.Signature.{Place, slots}
use Rattle.binding_terms.specs.declared.grammar.Item.{Item}
use Rattle.binding_terms.specs.declared.grammar.Item.TheVariants.{Word, Slot, Binder}

pub is_counted : (a b : ℕ) → a ≡ b → 1 ≡ 0 + cond (a == b) 1 0
is_counted a b e = ap (λ t. 0 + cond t 1 0) (sym (eq-eqb a b e))

pub not_counted : (a b : ℕ) → a ≢ b → 0 ≡ 0 + cond (a == b) 1 0
not_counted a b e = ap (λ t. 0 + cond t 1 0) (sym (ne_eqb a b e))

slots_both : (xs ys : List Item) → slots (xs ++ ys) ≡ slots xs ++ slots ys
slots_both [] ys = refl
slots_both (Word text quoted ∷ xs) ys = slots_both xs ys
slots_both (Slot c binds ∷ xs) ys = ap (λ ss. record { cat = c.0; binds = binds } ∷ ss) (slots_both xs ys)
slots_both (Binder c ∷ xs) ys = slots_both xs ys

-- with one item more
pub count_more : (c : ℕ) (items : List Item) (i : ℕ) (item : Item) (n m : ℕ) → i < length items → item ≡ get_or items i item
    → n ≡ count_by (λ s. s.cat == c) (slots (take i items)) → m ≡ count_by (λ s. s.cat == c) (slots (item ∷ []))
    → n + m ≡ count_by (λ s. s.cat == c) (slots (take (i + 1) items))
count_more c items i item n m lt is e f =
    let more : take (i + 1) items ≡ take i items ++ item ∷ [] = take_more items i item lt ∙ ap (λ x. take i items ++ x ∷ []) (sym is) in
    ap (λ k. k + m) e ∙ ap (λ k. count_by (λ s. s.cat == c) (slots (take i items)) + k) f
    ∙ sym (sum_by-append (λ (s : Place). cond (s.cat == c) 1 0) (slots (take i items)) (slots (item ∷ [])))
    ∙ ap (count_by (λ s. s.cat == c)) (sym (slots_both (take i items) (item ∷ [])) ∙ ap slots (sym more))
