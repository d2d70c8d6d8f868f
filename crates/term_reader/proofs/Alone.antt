-- Terms without parentheses around them, by what stands at their head.
use Rattle.std.proofs.Common.{◌≡◌, ℕ, ◌+◌, List, [], ◌∷◌, inl, inr, refl, ap, ◌∙◌, sym, subst, arith, Option, Some, slice_get}
use Rattle.binding_terms.specs.Signature.{Signature}
use Rattle.binding_terms.specs.declared.grammar.Prod.{Prod}
use Rattle.scheme_terms.specs.SchemeTree.{SchemeTree, meta, con, Values, Parts}
use Rattle.scheme_terms.specs.declared.scheme.MetaDecl.{MetaDecl}
use Rattle.rule_schemes.specs.Reading.{Token, Variable}
use Rattle.rule_schemes.specs.Said.{Way, way, no_ways, IsBefore}
use Rattle.term_reader.specs.Cases.{IsName, IsNameOf, IsVariable, IsProduct, IsMade}
use Rattle.term_reader.specs.Firsts.{AreFirst}
use Rattle.term_reader.proofs.TermCases.{is_product}
use Rattle.term_reader.specs.PlaceCases.{IsAlone}
use Rattle.term_reader.specs.FirstPlace.{IsFirstPlace}
use Rattle.term_reader.specs.PlaceView.{place}
use Rattle.term_reader.specs.declared.places.Place.{Place}
use Rattle.term_reader.proofs.FirstPlaces.{first_same}
use Rattle.term_reader.proofs.Heads.{head_kind, means_kind}

module _ (sig : Signature) (metas : List MetaDecl) (vars : List Variable) (c : ℕ) (ts : List Token) where
  abbrev Name : Way → SchemeTree → Type 0
  Name = IsName sig metas vars c ts

  abbrev Bound : Way → SchemeTree → Type 0
  Bound = IsVariable vars c ts

  abbrev Made : ℕ → Way → SchemeTree → Type 0
  Made p = IsProduct sig metas vars p c ts

  abbrev Alone : Way → SchemeTree → Type 0
  Alone = IsAlone sig metas vars c ts

  name_kind : (w : Way) (s : SchemeTree) → Name w s → head_kind s ≡ 0
  name_kind w s h = let named = h.3 in ap head_kind named.4

  bound_kind : (w : Way) (s : SchemeTree) → Bound w s → head_kind s ≡ 1
  bound_kind w s h = means_kind 0 vars h.1 c s h.3

  made_kind : (p : ℕ) (w : Way) (s : SchemeTree) → Made p w s → head_kind s ≡ 2
  made_kind p w s h = let made = h.3 in ap head_kind made.4

  -- where the term is a metavariable with arguments
  pub name_alone : (wanted : SchemeTree) (found : Option Place) → head_kind wanted ≡ 0 → IsFirstPlace IsBefore (λ w s. Name w s × (s ≡ wanted)) place found
      → IsFirstPlace IsBefore (λ w s. Alone w s × (s ≡ wanted)) place found
  name_alone wanted found kind h =
      first_same IsBefore (λ w s. Name w s × (s ≡ wanted)) (λ w s. Alone w s × (s ≡ wanted)) wanted place found
      (λ w s p. (subst (Alone w) p.1 (inl p.0), refl)) (λ w s q. (q.1, (s, (only w s q.1 q.0, q.1)))) h
    where
      only : (w : Way) (s : SchemeTree) → s ≡ wanted → Alone w s → Name w s
      only w s e (inl n) = n
      only w s e (inr (inl v)) = absurd (omega (arith, bound_kind w s v, ap head_kind e, kind))
      only w s e (inr (inr m)) = absurd (omega (arith, made_kind m.0 w s m.1, ap head_kind e, kind))

  -- where it is a variable
  pub bound_alone : (wanted : SchemeTree) (found : Option Place) → head_kind wanted ≡ 1 → IsFirstPlace IsBefore (λ w s. Bound w s × (s ≡ wanted)) place found
      → IsFirstPlace IsBefore (λ w s. Alone w s × (s ≡ wanted)) place found
  bound_alone wanted found kind h =
      first_same IsBefore (λ w s. Bound w s × (s ≡ wanted)) (λ w s. Alone w s × (s ≡ wanted)) wanted place found
      (λ w s p. (subst (Alone w) p.1 (inr (inl p.0)), refl)) (λ w s q. (q.1, (s, (only w s q.1 q.0, q.1)))) h
    where
      only : (w : Way) (s : SchemeTree) → s ≡ wanted → Alone w s → Bound w s
      only w s e (inl n) = absurd (omega (arith, name_kind w s n, ap head_kind e, kind))
      only w s e (inr (inl v)) = v
      only w s e (inr (inr m)) = absurd (omega (arith, made_kind m.0 w s m.1, ap head_kind e, kind))

  -- where it is made by a production
  pub made_alone : (p : ℕ) (xs : Parts) (found : Option Place) → IsFirstPlace IsBefore (λ w s. Made p w s × (s ≡ con p xs)) place found
      → IsFirstPlace IsBefore (λ w s. Alone w s × (s ≡ con p xs)) place found
  made_alone p xs found h =
      first_same IsBefore (λ w s. Made p w s × (s ≡ con p xs)) (λ w s. Alone w s × (s ≡ con p xs)) (con p xs) place found
      (λ w s m. (subst (Alone w) m.1 (inr (inr (p, m.0))), refl)) (λ w s q. (q.1, (s, (only w s q.1 q.0, q.1)))) h
    where
      only : (w : Way) (s : SchemeTree) → s ≡ con p xs → Alone w s → Made p w s
      only w s e (inl n) = absurd (omega (arith, name_kind w s n, ap head_kind e))
      only w s e (inr (inl v)) = absurd (omega (arith, bound_kind w s v, ap head_kind e))
      only w s e (inr (inr m)) =
          let made = m.1.3 in
          let both : con m.0 made.0 ≡ con p xs = sym made.4 ∙ e in
          let number : m.0 ≡ p = cc in
          subst (λ n. Made n w s) number m.1

  -- the metavariable with that number
  pub name_numbered : (m : ℕ) (decl : MetaDecl) (vs : Values) (found : Option Place) → slice_get metas m ≡ Some decl
      → IsFirstPlace IsBefore (λ w s. IsNameOf sig metas vars m decl c ts w s × (s ≡ meta m vs)) place found
      → IsFirstPlace IsBefore (λ w s. Name w s × (s ≡ meta m vs)) place found
  name_numbered m decl vs found e h =
      first_same IsBefore (λ w s. IsNameOf sig metas vars m decl c ts w s × (s ≡ meta m vs)) (λ w s. Name w s × (s ≡ meta m vs)) (meta m vs) place found
      (λ w s p. (subst (Name w) p.1 (m, decl, e, p.0), refl)) (λ w s q. (q.1, (s, (only w s q.1 q.0, q.1)))) h
    where
      only : (w : Way) (s : SchemeTree) → s ≡ meta m vs → Name w s → IsNameOf sig metas vars m decl c ts w s
      only w s f n =
          let named = n.3 in
          let both : meta n.0 named.0 ≡ meta m vs = sym named.4 ∙ f in
          let number : n.0 ≡ m = cc in
          let two : Some n.1 ≡ Some decl = sym n.2 ∙ ap (slice_get metas) number ∙ e in
          let same : n.1 ≡ decl = cc in
          subst (λ i. IsNameOf sig metas vars i decl c ts w s) number (subst (λ d. IsNameOf sig metas vars n.0 d c ts w s) same n.3)

  -- the production with that number
  pub made_numbered : (p : ℕ) (prod : Prod) (wanted : SchemeTree) (found : Option Place) → slice_get sig.prods p ≡ Some prod → prod.cat.0 ≡ c
      → IsFirstPlace IsBefore (λ w s. IsMade sig metas vars (3 + p) p prod.items ts w s × (s ≡ wanted)) place found
      → IsFirstPlace IsBefore (λ w s. Made p w s × (s ≡ wanted)) place found
  made_numbered p prod wanted found e cat h =
      first_same IsBefore (λ w s. IsMade sig metas vars (3 + p) p prod.items ts w s × (s ≡ wanted)) (λ w s. Made p w s × (s ≡ wanted)) wanted place found
      (λ w s m. (subst (Made p w) m.1 ((is_product sig metas vars c ts p prod w s e cat).0 m.0), refl))
      (λ w s q. (q.1, (s, ((is_product sig metas vars c ts p prod w s e cat).1 q.0, q.1)))) h

  -- the one variable with the word
  pub variable_first : (x wanted : SchemeTree) (new : Place) → x ≡ wanted → place new ≡ way 2 [] no_ways → AreFirst IsBefore Bound (x ∷ [])
      → IsFirstPlace IsBefore (λ w s. Bound w s × (s ≡ wanted)) place (Some new)
  variable_first x wanted new e is f =
      let here : f.0.0 ≡ place new = f.0.1.0.0 ∙ sym is in (
        x,
        (
          (subst (λ w. Bound w x) here f.0.1.0, e),
          λ l y q. elim (f.0.1.1 l y q.0) [
            | inl b ↦ inl (subst (λ w. IsBefore w l) here b)
            | inr d ↦ inr (sym here ∙ d.0, d.1)
          ],
        ),
      )

  pub variable_other : (x wanted : SchemeTree) → (x ≡ wanted → ⊥) → AreFirst IsBefore Bound (x ∷ []) → (w : Way) (s : SchemeTree) → Bound w s × (s ≡ wanted) → ⊥
  variable_other x wanted ne f w s q = ne (sym (f.1 w s q.0) ∙ q.1)
