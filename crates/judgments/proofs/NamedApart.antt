-- Names that portions declare.
use Rattle.std.proofs.Common.{◌≡◌, ◌↔◌, ℕ, ◌+◌, ◌-◌, ◌<◌, List, ◌∷◌, length, map, take, drop, get_or, ap, ◌∙◌, sym, subst}
use Rattle.std.specs.List.{AllByRecursion}
use Rattle.std.proofs.lemmas.List.{drop_more, take_rest}
use Rattle.outline_reader.specs.Plain.{PlainPortion}
use Rattle.judgments.specs.Theory.{Declared, AreNamedAlike, AreNamedApart}

-- one portion more to compare
pub named_step : {X : Type 0} (f : X → PlainPortion) (what : Declared) (xs : List X) (i : ℕ) (x : X) → i < length xs → x ≡ get_or xs i x
    → AreNamedApart what (map f (drop i xs))
    ↔ (AllByRecursion (λ (q : PlainPortion). AreNamedAlike what (f x) q → ⊥) (map f (take (length xs - (i + 1)) (drop (i + 1) xs))) × AreNamedApart what (map f (drop (i + 1) xs)))
named_step {X} f what xs i x lt is =
    let e : drop i xs ≡ x ∷ drop (i + 1) xs = drop_more xs i x lt ∙ ap (λ y. y ∷ drop (i + 1) xs) (sym is) in
    subst (λ (ys : List X). AreNamedApart what (map f ys)
    ↔ (AllByRecursion (λ (q : PlainPortion). AreNamedAlike what (f x) q → ⊥) (map f (take (length xs - (i + 1)) (drop (i + 1) xs))) × AreNamedApart what (map f (drop (i + 1) xs)))) (sym e)
    (rw take_rest (λ h. h, λ h. h))
