-- The slots among what is left of the items.
use Rattle.std.proofs.Common.{◌≡◌, ◌↔◌, ℕ, ◌+◌, ◌<◌, List, ◌∷◌, get_or, length, drop, refl, sym, ap, ◌∙◌}
use Rattle.std.proofs.lemmas.List.{at_drop_more, drop_more}
use Rattle.std.specs.List.{AllByRecursion}
use Rattle.binding_terms.specs.Signature.{Place, slots}
use Rattle.binding_terms.specs.declared.grammar.CatId.{CatId}
use Rattle.binding_terms.specs.declared.grammar.Item.{Item}
use Rattle.binding_terms.specs.declared.grammar.Item.TheVariants.{Word, Slot, Binder}

module _ (items : List Item) (i : ℕ) (item : Item) (within : i < length items) (at : item ≡ get_or items i item) where
  -- where the next item is a slot of which P holds, P holds of all slots where it holds of those after it
  pub slots_more : (P : Place → Type 0) (cat : CatId) (binds : List ℕ) → item ≡ Slot cat binds → P (record { cat = cat.0; binds = binds })
      → AllByRecursion P (slots (drop i items)) ↔ AllByRecursion P (slots (drop (i + 1) items))
  slots_more P cat binds is here =
      let next : drop i items ≡ Slot cat binds ∷ drop (i + 1) items =
      drop_more items i item within ∙ ap (λ x. x ∷ drop (i + 1) items) (sym at ∙ is) in
      rw next (λ h. h.1, λ h. (here, h))

  -- where it is none, the slots are those after it
  pub slots_skip : ((cat : CatId) (binds : List ℕ) → item ≡ Slot cat binds → ⊥) → slots (drop i items) ≡ slots (drop (i + 1) items)
  slots_skip differs = at_drop_more slots items i item within ∙ ap (λ x. slots (x ∷ drop (i + 1) items)) (sym at) ∙ skip item (drop (i + 1) items) differs
    where
      skip : (first : Item) (rest : List Item) → ((cat : CatId) (binds : List ℕ) → first ≡ Slot cat binds → ⊥) → slots (first ∷ rest) ≡ slots rest
      skip (Word text quoted) rest h = refl
      skip (Slot cat binds) rest h = absurd (h cat binds refl)
      skip (Binder cat) rest h = refl
