-- What holds of the first readings of parts: of a slot before what stands behind it, and of a slot of any length. Held against
-- docs/notation.md on the reading order.
use Rattle.std.specs.Prelude.{◌≡◌, ◌≢◌, ◌⊎◌, ℕ, ◌+◌, ◌≤◌, List, [], ◌∷◌, ◌++◌, length}
use Rattle.binding_terms.specs.Signature.{Signature}
use Rattle.binding_terms.specs.declared.grammar.CatId.{CatId}
use Rattle.binding_terms.specs.declared.grammar.Item.{Item}
use Rattle.binding_terms.specs.declared.grammar.Item.TheVariants.{Slot}
use Rattle.scheme_terms.specs.SchemeTree.{SchemeTree}
use Rattle.scheme_terms.specs.declared.scheme.MetaDecl.{MetaDecl}
use Rattle.rule_schemes.specs.Reading.{Token, Variable, slot_variables}
use Rattle.rule_schemes.specs.Said.{Way, IsBefore}
use Rattle.ordered_readings.specs.FirstTwo.{pairs, AreFirst, AreFirstOf}
use Rattle.ordered_readings.specs.AnswerView.{behind}
use Rattle.ordered_readings.specs.Names.{NamesApart}
use Rattle.ordered_readings.specs.Cells.{ReadsTermAt, ReadsItemsAt, ReadsBracketsAt, ReadsArgumentsAt, TakesFirst, TakesFewer}

-- The first two readings of items whose first slot takes these tokens are the first two pairs of a reading of the slot, under the
-- variables that it lists, and one of what stands behind it.
abbrev pub SlotLaw : Type 0
SlotLaw =
    (sig : Signature) (metas : List MetaDecl) (vars own : List Variable) (words : List (List ℕ)) (c : CatId) (binds : List ℕ) (items : List Item) (alternative p : ℕ)
    (first rest : List Token) (xs ys zs : List (Way × SchemeTree)) → first ≢ []
    → AreFirst IsBefore (ReadsTermAt sig metas (slot_variables own binds ++ vars) c.0 first) xs
    → AreFirst IsBefore (ReadsItemsAt sig metas vars own words items alternative p rest) ys
    → AreFirstOf IsBefore (pairs (behind (length first) (length binds)) xs ys) zs
    → AreFirst IsBefore (λ w s. ReadsItemsAt sig metas vars own words (Slot c binds ∷ items) alternative p (first ++ rest) w s × TakesFirst (length first) w) zs

-- The first two readings whose first slot takes so many tokens or fewer are the first two of those where it takes fewer and those
-- where it takes so many.
abbrev pub LengthLaw : Type 0
LengthLaw =
    (sig : Signature) (metas : List MetaDecl) (vars own : List Variable) (words : List (List ℕ)) (items : List Item) (alternative p n : ℕ)
    (tokens : List Token) (xs ys zs : List (Way × SchemeTree))
    → AreFirst IsBefore (λ w s. ReadsItemsAt sig metas vars own words items alternative p tokens w s × TakesFewer n w) xs
    → AreFirst IsBefore (λ w s. ReadsItemsAt sig metas vars own words items alternative p tokens w s × TakesFirst n w) ys
    → AreFirstOf IsBefore (ys ++ xs) zs
    → AreFirst IsBefore (λ w s. ReadsItemsAt sig metas vars own words items alternative p tokens w s × TakesFewer (n + 1) w) zs

-- no two metavariables have one name, and then of two readings of one form one is before the other, or both are at the same place
-- and say the same
abbrev pub OrderLaw : Type 0
OrderLaw =
    (sig : Signature) (metas : List MetaDecl) (vars : List Variable) (cat : ℕ) (tokens : List Token) (v w : Way) (s t : SchemeTree) → NamesApart metas
    → ReadsTermAt sig metas vars cat tokens v s → ReadsTermAt sig metas vars cat tokens w t → IsBefore v w ⊎ (((v ≡ w) × (s ≡ t)) ⊎ IsBefore w v)

-- so it is with two readings of one row of items
abbrev pub RowLaw : Type 0
RowLaw =
    (sig : Signature) (metas : List MetaDecl) (vars own : List Variable) (words : List (List ℕ)) (items : List Item) (alternative p : ℕ)
    (tokens : List Token) (v w : Way) (s t : SchemeTree) → NamesApart metas
    → ReadsItemsAt sig metas vars own words items alternative p tokens v s → ReadsItemsAt sig metas vars own words items alternative p tokens w t
    → IsBefore v w ⊎ (((v ≡ w) × (s ≡ t)) ⊎ IsBefore w v)

-- and with two readings of the brackets, or of the arguments, of one metavariable
abbrev pub BracketLaw : Type 0
BracketLaw =
    (sig : Signature) (metas : List MetaDecl) (vars : List Variable) (params : List ℕ) (number : ℕ) (tokens : List Token) (v w : Way) (s t : SchemeTree)
    → NamesApart metas → ReadsBracketsAt sig metas vars params number tokens v s → ReadsBracketsAt sig metas vars params number tokens w t
    → IsBefore v w ⊎ (((v ≡ w) × (s ≡ t)) ⊎ IsBefore w v)

abbrev pub ArgumentLaw : Type 0
ArgumentLaw =
    (sig : Signature) (metas : List MetaDecl) (vars : List Variable) (params : List ℕ) (number : ℕ) (tokens : List Token) (v w : Way) (s t : SchemeTree)
    → NamesApart metas → ReadsArgumentsAt sig metas vars params number tokens v s → ReadsArgumentsAt sig metas vars params number tokens w t
    → IsBefore v w ⊎ (((v ≡ w) × (s ≡ t)) ⊎ IsBefore w v)

-- Two readings whose first slot takes fewer tokens are enough: they are the first two of those where it takes more, too.
abbrev pub EnoughLaw : Type 0
EnoughLaw =
    (sig : Signature) (metas : List MetaDecl) (vars own : List Variable) (words : List (List ℕ)) (items : List Item) (alternative p n m : ℕ)
    (tokens : List Token) (a b : Way × SchemeTree) → n ≤ m
    → AreFirst IsBefore (λ w s. ReadsItemsAt sig metas vars own words items alternative p tokens w s × TakesFewer n w) (a ∷ b ∷ [])
    → AreFirst IsBefore (λ w s. ReadsItemsAt sig metas vars own words items alternative p tokens w s × TakesFewer m w) (a ∷ b ∷ [])
