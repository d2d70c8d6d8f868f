-- How many variables the slots of items bind.
use Rattle.std.proofs.Common.{◌≡◌, ◌↔◌, ℕ, ◌+◌, ◌-◌, ◌<◌, ◌≤◌, nat_eq, IsTrue, List, [], ◌∷◌, length, map, take, drop, get_or, refl, ap, ◌∙◌, sym, arith, length-drop, ◌++◌}
use Rattle.std.proofs.lemmas.Bool.Decides.{nat_tests}
use Rattle.std.proofs.lemmas.List.{map_more}
use Rattle.binding_terms.specs.Signature.{Signature}
use Rattle.binding_terms.specs.declared.grammar.Item.{Item}
use Rattle.binding_terms.specs.declared.grammar.Item.TheVariants.{Word, Slot, Binder}
use Rattle.scheme_terms.specs.SchemeTree.{Parts, no_parts, part}
use Rattle.scheme_terms.specs.View.{scheme_parts}
use Rattle.scheme_terms.specs.declared.scheme.MetaDecl.{MetaDecl}
use Rattle.scheme_terms.specs.declared.scheme.SArg.{SArg}
use Rattle.rule_schemes.specs.Reading.{Token, Variable, bare, ReadsItems, all_read, terminal, binder, slot}
use Rattle.term_reader.specs.Splitting.{SlotRange, slot_range, lengths}
use Rattle.term_reader.specs.declared.splitting.Piece.{Piece}
use Rattle.term_reader.specs.PlaceCases.{BindAsMany}

-- the parts of a reading
pub bound_read : {sig : Signature} {metas : List MetaDecl} {vars own : List Variable} {words : List (List ℕ)} {items : List Item} {ts : List Token} {xs : Parts}
    → ReadsItems sig metas vars own words items ts xs → BindAsMany items xs
bound_read all_read = tt
bound_read (terminal h r) = bound_read r
bound_read (binder h r) = bound_read r
bound_read (slot e h t r) = (refl, bound_read r)

-- parts for the same items are told by their schemes
pub same_bound : (items : List Item) (xs ys : Parts) → BindAsMany items xs → BindAsMany items ys → bare xs ≡ bare ys → xs ≡ ys
same_bound [] no_parts no_parts h k e = refl
same_bound [] no_parts (part n s ys) h k e = absurd k
same_bound [] (part m t xs) ys h k e = absurd h
same_bound (Word text quoted ∷ items) xs ys h k e = same_bound items xs ys h k e
same_bound (Binder c ∷ items) xs ys h k e = same_bound items xs ys h k e
same_bound (Slot c binds ∷ items) no_parts ys h k e = absurd h
same_bound (Slot c binds ∷ items) (part m t xs) no_parts h k e = absurd k
same_bound (Slot c binds ∷ items) (part m t xs) (part n s ys) h k e =
    let first : t ≡ s = cc in
    let rest : bare xs ≡ bare ys = cc in
    ap (λ i. part i t xs) (h.0 ∙ sym k.0) ∙ ap (λ u. part n u xs) first ∙ ap (part n s) (same_bound items xs ys h.1 k.1 rest)

-- after the last item no part may be left
pub all_bound : (parts : List SArg) (at : ℕ) → at ≤ length parts → IsTrue (nat_eq at (length parts)) ↔ BindAsMany [] (scheme_parts (drop at parts))
all_bound parts at h = left (drop at parts) (length-drop at parts)
  where
    left : (rest : List SArg) → length rest ≡ length parts - at → IsTrue (nat_eq at (length parts)) ↔ BindAsMany [] (scheme_parts rest)
    left [] e = let same : at ≡ length parts = omega arith in (λ _. tt, λ _. grind (arith, nat_tests))
    left (a ∷ rest) e =
        let other : at ≡ length parts → ⊥ = λ k. omega arith in
        (λ t. let same : at ≡ length parts = grind (arith, nat_tests) in absurd (other same), λ k. absurd k)

lengths_push : (ps : List SlotRange) (p : SlotRange) → lengths (ps ++ p ∷ []) ≡ lengths ps ++ (p.to - p.from) ∷ []
lengths_push [] p = refl
lengths_push (q ∷ ps) p = ap (λ ls. (q.to - q.from) ∷ ls) (lengths_push ps p)

-- the length of one slot more
pub lengths_more : (ps : List Piece) (i : ℕ) (d : Piece) → i < length ps
    → lengths (map slot_range (take (i + 1) ps)) ≡ lengths (map slot_range (take i ps)) ++ ((slot_range (get_or ps i d)).to - (slot_range (get_or ps i d)).from) ∷ []
lengths_more ps i d h = ap lengths (map_more slot_range ps i d h) ∙ lengths_push (map slot_range (take i ps)) (slot_range (get_or ps i d))
