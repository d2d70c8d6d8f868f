-- The first name that lacks what is asked, one step down the list.
use Rattle.std.proofs.Common.{ℕ, ◌+◌, ◌<◌, List, [], ◌∷◌, length, drop, inl, inr, refl, subst, sym, arith, add-one}
use Rattle.std.proofs.lemmas.List.{drop_more}
use Rattle.binding_terms.specs.Numbered.{AllNumbered}
use Rattle.scheme_terms.specs.declared.scheme.MetaDecl.{MetaDecl}
use Rattle.rule_schemes.specs.Strict.{IsFirstLacking}

module _ (Has : ℕ → Type 0) where
  abbrev All : ℕ → List MetaDecl → Type 0
  All n ds = AllNumbered (λ m decl. Has m) n ds

  -- it is the first of what is left
  pub lacking_here : (ds : List MetaDecl) (i : ℕ) → i < length ds → (Has i → ⊥) → IsFirstLacking Has i (drop i ds) i
  lacking_here [] i h lacks = absurd (omega (arith, h))
  lacking_here (d ∷ ds) i h lacks =
      subst (λ (l : List MetaDecl). IsFirstLacking Has i l i) (sym (drop_more (d ∷ ds) i d h)) (inl (refl, lacks))

  -- the first of what is left one step on is the first of what is left
  pub lacking_later : (ds : List MetaDecl) (i m : ℕ) → i < length ds → Has i
      → IsFirstLacking Has (i + 1) (drop (i + 1) ds) m → IsFirstLacking Has i (drop i ds) m
  lacking_later [] i m h has first = absurd (omega (arith, h))
  lacking_later (d ∷ ds) i m h has first =
      subst (λ (l : List MetaDecl). IsFirstLacking Has i l m) (sym (drop_more (d ∷ ds) i d h))
      (inr (has, subst (λ (n : ℕ). IsFirstLacking Has n (drop (i + 1) (d ∷ ds)) m) (add-one i) first))

  pub having_later : (ds : List MetaDecl) (i : ℕ) → i < length ds → Has i → All (i + 1) (drop (i + 1) ds) → All i (drop i ds)
  having_later [] i h has all = absurd (omega (arith, h))
  having_later (d ∷ ds) i h has all =
      subst (λ (l : List MetaDecl). All i l) (sym (drop_more (d ∷ ds) i d h))
      (has, subst (λ (n : ℕ). All n (drop (i + 1) (d ∷ ds))) (add-one i) all)
