-- Marks closed under the productions are those of the categories that reach the first one.
use Rattle.std.proofs.Common.{◌≡◌, ◌≢◌, ◌↔◌, ◌⊎◌, ℕ, zero, suc, ◌+◌, ◌<◌, ◌≤◌, Bool, true, false, not, List, [], ◌∷◌, ◌++◌, length, get_or, set, replicate, inl, inr, Option, Some, None, MatchOption, slice_get, cond, refl, ap, ◌∙◌, sym, subst, arith}
use Rattle.std.proofs.lemmas.Bool.{cases_lt, cases_order}
use Rattle.std.proofs.lemmas.List.{get_or-replicate, length-replicate, length-set}
use Rattle.std.proofs.lemmas.List.Sums.{sum_by-set}
use Rattle.std.proofs.lemmas.Option.{get_or_from_slice_get, slice_get-get_or, slice_get_past, slice_get_within}
use Rattle.std.specs.List.{AllByRecursion, count_by}
use Rattle.binding_terms.specs.Numbered.{AllNumbered, AnyByRecursion}
use Rattle.binding_terms.specs.Reach.{Follows, IsClosed, IsColumn, IsMarked, IsReachTable}
use Rattle.binding_terms.specs.Signature.{Signature, Place, HasVariable, ProdFits, Reaches, itself, through_slot, slots}
use Rattle.binding_terms.specs.declared.grammar.Prod.{Prod}
use Rattle.binding_terms.proofs.Lists.{match_within, numbered_match_at}

-- marks after one was set
pub IsMarked-set : (marks : List Bool) (i : ℕ) (b : Bool) → i < length marks → (k : ℕ) →
    IsMarked (set marks i b) k ↔ (((k ≡ i) × (b ≡ true)) ⊎ ((k ≢ i) × IsMarked marks k))
IsMarked-set [] i b h k = absurd (omega arith)
IsMarked-set (m ∷ ms) zero b h zero =
    (λ e. inl (refl, (let k : b ≡ true = cc in k)), λ c. elim c [ inl x ↦ ap Some x.1 | inr x ↦ absurd (x.0 refl) ])
IsMarked-set (m ∷ ms) zero b h (suc k) =
    (λ e. inr ((λ q. omega arith), e), λ c. elim c [ inl x ↦ absurd (omega (arith, x.0)) | inr x ↦ x.1 ])
IsMarked-set (m ∷ ms) (suc i) b h zero =
    (λ e. inr ((λ q. omega arith), e), λ c. elim c [ inl x ↦ absurd (omega (arith, x.0)) | inr x ↦ x.1 ])
IsMarked-set (m ∷ ms) (suc i) b h (suc k) =
    let rest = IsMarked-set ms i b (omega arith) k in (
      λ e. elim (rest.0 e) [ inl x ↦ inl (ap suc x.0, x.1) | inr x ↦ inr ((λ q. x.0 (omega (arith, q))), x.1) ],
      λ c. elim c [
        | inl x ↦ rest.1 (inl ((let q : k ≡ i = omega (arith, x.0) in q), x.1))
        | inr x ↦ rest.1 (inr ((λ q. x.0 (ap suc q)), x.1))
      ],
    )

-- a mark stays where another is set
pub IsMarked-stays : (marks : List Bool) (i k : ℕ) → i < length marks → IsMarked marks k → IsMarked (set marks i true) k
IsMarked-stays marks i k h marked = (IsMarked-set marks i true h k).1 (cases (cases_order k i))
  where
    cases : (k ≡ i) ⊎ ((k < i) ⊎ (i < k)) → ((k ≡ i) × (true ≡ true)) ⊎ ((k ≢ i) × IsMarked marks k)
    cases (inl e) = inl (e, refl)
    cases (inr (inl e)) = inr ((λ q. omega arith), marked)
    cases (inr (inr e)) = inr ((λ q. omega arith), marked)

-- where a mark is set, one category less is without a mark
pub unmarked_falls : (marks : List Bool) (i : ℕ) → slice_get marks i ≡ Some false → count_by not (set marks i true) < count_by not marks
unmarked_falls marks i e =
    let within : i < length marks = slice_get_within marks i false e in
    let was : get_or marks i false ≡ false = get_or_from_slice_get marks i false false e in
    let total = sum_by-set (λ b. cond (not b) 1 0) marks i true false within in
    let one : ◌≡◌ {A = ℕ} (cond (not (get_or marks i false)) 1 0) 1 = ap (λ b. cond (not b) 1 0) was in
    omega (arith, total, one)

module _ (sig : Signature) (marks : List Bool) (to : ℕ) where
  -- a production with a marked slot has a slot that reaches what the marks reach
  marked_slot : (ss : List Place) → AnyByRecursion (λ s. IsMarked marks s.cat) ss → (d : ℕ) × AnyByRecursion (λ s. s.cat ≡ d) ss × IsMarked marks d
  marked_slot [] h = absurd h
  marked_slot (s ∷ ss) (inl h) = (s.cat, inl refl, h)
  marked_slot (s ∷ ss) (inr h) = let rest = marked_slot ss h in (rest.0, inr rest.1, rest.2)

  followed : (cat : ℕ) (prods : List Prod) → Follows marks prods cat →
      (d : ℕ) × AnyByRecursion (λ p. (p.cat.0 ≡ cat) × AnyByRecursion (λ s. s.cat ≡ d) (slots p.items)) prods × IsMarked marks d
  followed cat [] h = absurd h
  followed cat (p ∷ ps) (inl h) = let slot = marked_slot (slots p.items) h.1 in (slot.0, inl (h.0, slot.1), slot.2)
  followed cat (p ∷ ps) (inr h) = let rest = followed cat ps h in (rest.0, inr rest.1, rest.2)

  pub Follows-reaches : (cat : ℕ) → Follows marks sig.prods cat → ((from : ℕ) → IsMarked marks from → Reaches sig from to) → Reaches sig cat to
  Follows-reaches cat h sound = let slot = followed cat sig.prods h in through_slot cat slot.0 to slot.1 (sound slot.0 slot.2)

  slot_marked : (d : ℕ) → IsMarked marks d → (ss : List Place) → AnyByRecursion (λ s. s.cat ≡ d) ss → AnyByRecursion (λ s. IsMarked marks s.cat) ss
  slot_marked d marked [] h = absurd h
  slot_marked d marked (s ∷ ss) (inl h) = inl (subst (IsMarked marks) (sym h) marked)
  slot_marked d marked (s ∷ ss) (inr h) = inr (slot_marked d marked ss h)

  closed_marked : (cat d : ℕ) → IsMarked marks d → (prods : List Prod) → IsClosed marks prods
      → AnyByRecursion (λ p. (p.cat.0 ≡ cat) × AnyByRecursion (λ s. s.cat ≡ d) (slots p.items)) prods → IsMarked marks cat
  closed_marked cat d marked [] closed h = absurd h
  closed_marked cat d marked (p ∷ ps) closed (inl h) = subst (IsMarked marks) h.0 (closed.0 (slot_marked d marked (slots p.items) h.1))
  closed_marked cat d marked (p ∷ ps) closed (inr h) = closed_marked cat d marked ps closed.1 h

-- closed marks with the one category have all that reach it
pub Reaches-marked : (sig : Signature) (marks : List Bool) → IsClosed marks sig.prods → {from to : ℕ} → Reaches sig from to
    → (HasVariable sig to → IsMarked marks to) → IsMarked marks from
Reaches-marked sig marks closed (itself c has) start = start has
Reaches-marked sig marks closed (through_slot c d v has way) start =
    closed_marked sig marks v c d (Reaches-marked sig marks closed way start) sig.prods closed has

-- what reaches something reaches a category that has a variable
pub Reaches-HasVariable : {sig : Signature} {from to : ℕ} → Reaches sig from to → HasVariable sig to
Reaches-HasVariable (itself c has) = has
Reaches-HasVariable (through_slot c d v has way) = Reaches-HasVariable way

pub cats_in_range : (sig : Signature) (count : ℕ) → count ≡ length sig.cats → (prods : List Prod) → AllByRecursion (ProdFits sig) prods → AllByRecursion (λ p. p.cat.0 < count) prods
cats_in_range sig count e [] h = tt
cats_in_range sig count e (p ∷ ps) h =
    (subst (λ n. p.cat.0 < n) (sym e) (match_within sig.cats p.cat.0 _ h.0.form), cats_in_range sig count e ps h.1)

-- columns for all categories are the table
pub columns_are_table : (sig : Signature) (columns : List (List Bool)) → length columns ≡ length sig.cats → AllNumbered (IsColumn sig) 0 columns → IsReachTable sig columns
columns_are_table sig columns long all from to = at (cases_lt to (length columns))
  where
    inside : (o : Option (List Bool)) → MatchOption o ⊥ (IsColumn sig to) → MatchOption o ⊥ (λ marks. IsMarked marks from) ↔ Reaches sig from to
    inside None h = absurd h
    inside (Some marks) h = h from

    at : (to < length columns) ⊎ (length columns ≤ to) → MatchOption (slice_get columns to) ⊥ (λ marks. IsMarked marks from) ↔ Reaches sig from to
    at (inl k) = inside (slice_get columns to) (subst (λ n. MatchOption (slice_get columns to) ⊥ (IsColumn sig n)) (let e : 0 + to ≡ to = omega arith in e) (numbered_match_at (IsColumn sig) 0 columns to all k))
    at (inr k) = (
      λ h. absurd (subst (λ o. MatchOption o ⊥ (λ marks. IsMarked marks from)) (slice_get_past columns to k) h),
      λ way. absurd (let no : ⊥ = omega (arith, match_within sig.cats to _ (Reaches-HasVariable way)) in no),
    )

-- no mark stands in a list without marks
unmarked : (count k : ℕ) → IsMarked (replicate count false) k → ⊥
unmarked count k marked =
    let within : k < length (replicate count false) = slice_get_within (replicate count false) k true marked in
    let size : length (replicate count false) ≡ count = length-replicate count false in
    let is : get_or (replicate count false) k false ≡ false = get_or-replicate count k false false (omega arith) in
    let here : Some true ≡ Some (get_or (replicate count false) k false) = sym marked ∙ slice_get-get_or (replicate count false) k false within in
    let same : ◌≡◌ {A = Option Bool} (Some true) (Some false) = here ∙ ap Some is in
    cc

-- the first mark, at the category itself where it has a variable
pub first_mark : (sig : Signature) (to : ℕ) (marks : List Bool) (b : Bool) → marks ≡ replicate (length sig.cats) false → to < length sig.cats
    → b ≡ true ↔ HasVariable sig to
    → (length (set marks to b) ≡ length sig.cats) × (HasVariable sig to → IsMarked (set marks to b) to) × ((from : ℕ) → IsMarked (set marks to b) from → Reaches sig from to)
first_mark sig to marks b is within has =
    let size : length marks ≡ length sig.cats = ap length is ∙ length-replicate (length sig.cats) false in
    let inside : to < length marks = omega arith in (
      length-set marks to b ∙ size,
      λ var. (IsMarked-set marks to b inside to).1 (inl (refl, has.1 var)),
      λ from marked. elim ((IsMarked-set marks to b inside from).0 marked) [
        | inl x ↦ subst (λ n. Reaches sig n to) (sym x.0) (itself to (has.0 x.1))
        | inr x ↦ absurd (unmarked (length sig.cats) from (subst (λ m. IsMarked m from) is x.1))
      ],
    )

-- one more mark, at a category of which a production has a marked slot
pub next_sound : (sig : Signature) (to : ℕ) (marks : List Bool) (cat : ℕ) → cat < length marks → Follows marks sig.prods cat
    → ((from : ℕ) → IsMarked marks from → Reaches sig from to) → (from : ℕ) → IsMarked (set marks cat true) from → Reaches sig from to
next_sound sig to marks cat within follows sound from marked =
    elim ((IsMarked-set marks cat true within from).0 marked) [
      | inl x ↦ subst (λ n. Reaches sig n to) (sym x.0) (Follows-reaches sig marks to cat follows sound)
      | inr x ↦ sound from x.1
    ]
