-- Terms in parentheses, which stand before all that have none around them.
use Rattle.std.proofs.Common.{◌≡◌, ◌⊎◌, ℕ, ◌+◌, ◌-◌, ◌<◌, ◌≤◌, List, [], ◌∷◌, ◌++◌, length, inl, inr, refl, ap, ◌∙◌, sym, subst, arith, Option, Some, None, slice_get, slice_range}
use Rattle.std.proofs.lemmas.List.{append_cancel_right}
use Rattle.std.proofs.lemmas.Option.{slice_get_within}
use Rattle.binding_terms.specs.Signature.{Signature}
use Rattle.scheme_terms.specs.SchemeTree.{SchemeTree}
use Rattle.scheme_terms.specs.declared.scheme.MetaDecl.{MetaDecl}
use Rattle.rule_schemes.specs.Reading.{Token, punctuation, Variable}
use Rattle.rule_schemes.specs.Said.{Way, way, no_ways, then_way, IsBefore}
use Rattle.term_reader.specs.Cases.{IsGroup, IsName, IsVariable, IsProduct}
use Rattle.term_reader.specs.Ordered.{ReadsTermAt}
use Rattle.term_reader.specs.Splitting.{tokens_of}
use Rattle.term_reader.specs.declared.sheet.Sheet.{Sheet}
use Rattle.term_reader.proofs.Ranges.{range_cons, range_none, range_two}
use Rattle.term_reader.proofs.TermCases.{term_read, groups_first, variables_last, products_apart}
use Rattle.term_reader.proofs.TermEnds.{seen}
use Rattle.term_reader.specs.PlaceCases.{IsAlone}
use Rattle.term_reader.specs.FirstPlace.{IsFirstPlace, ReadsAs}
use Rattle.term_reader.specs.PlaceView.{place}
use Rattle.term_reader.specs.declared.places.Place.{Place}
use Rattle.term_reader.proofs.FirstPlaces.{first_same, first_of_two, second_of_two}

module _ (sig : Signature) (metas : List MetaDecl) (vars : List Variable) (c : ℕ) (ts : List Token) where
  abbrev Name : Way → SchemeTree → Type 0
  Name = IsName sig metas vars c ts

  abbrev Bound : Way → SchemeTree → Type 0
  Bound = IsVariable vars c ts

  abbrev Made : ℕ → Way → SchemeTree → Type 0
  Made p = IsProduct sig metas vars p c ts

  abbrev Alone : Way → SchemeTree → Type 0
  Alone = IsAlone sig metas vars c ts

  abbrev Group : Way → SchemeTree → Type 0
  Group = IsGroup sig metas vars c ts

  groups_before : (k l : Way) (a x : SchemeTree) → Group k a → Alone l x → IsBefore k l
  groups_before k l a x g (inl n) = groups_first sig metas vars c ts k l a x g n
  groups_before k l a x g (inr (inl v)) = variables_last sig metas vars c ts k l a x (inl g) v
  groups_before k l a x g (inr (inr m)) = let none : 0 ≤ m.0 = omega arith in products_apart sig metas vars c ts 0 m.0 none k l a x (inl g) m.1

  -- a term is a group, or stands alone
  pub either_read : (wanted : SchemeTree) (found : Option Place)
      → IsFirstPlace IsBefore (λ w s. (Group w s × (s ≡ wanted)) ⊎ (Alone w s × (s ≡ wanted))) place found
      → IsFirstPlace IsBefore (ReadsAs sig metas vars c ts wanted) place found
  either_read wanted found h =
      first_same IsBefore (λ w s. (Group w s × (s ≡ wanted)) ⊎ (Alone w s × (s ≡ wanted))) (ReadsAs sig metas vars c ts wanted) wanted place found
      there (λ w s q. (q.1, (s, back w s q.1 ((term_read sig metas vars c ts (length sig.prods) w s all).1 q.0)))) h
    where
      all : length sig.prods ≤ length sig.prods
      all = omega arith

      alone_read : (w : Way) (s : SchemeTree) → Alone w s → ReadsTermAt sig metas vars c ts w s
      alone_read w s (inl n) = (term_read sig metas vars c ts (length sig.prods) w s all).0 (inr (inl n))
      alone_read w s (inr (inl v)) = (term_read sig metas vars c ts (length sig.prods) w s all).0 (inr (inr (inl v)))
      alone_read w s (inr (inr m)) =
          (term_read sig metas vars c ts (length sig.prods) w s all).0 (inr (inr (inr (m.0, slice_get_within sig.prods m.0 m.1.0 m.1.1, m.1))))

      there : (w : Way) (s : SchemeTree) → (Group w s × (s ≡ wanted)) ⊎ (Alone w s × (s ≡ wanted)) → ReadsAs sig metas vars c ts wanted w wanted
      there w s (inl g) = (subst (ReadsTermAt sig metas vars c ts w) g.1 ((term_read sig metas vars c ts (length sig.prods) w s all).0 (inl g.0)), refl)
      there w s (inr a) = (subst (ReadsTermAt sig metas vars c ts w) a.1 (alone_read w s a.0), refl)

      back : (w : Way) (s : SchemeTree) → s ≡ wanted
          → Group w s ⊎ (Name w s ⊎ (Bound w s ⊎ ((p : ℕ) × (p < length sig.prods) × Made p w s))) → (Group w s × (s ≡ wanted)) ⊎ (Alone w s × (s ≡ wanted))
      back w s e (inl g) = inl (g, e)
      back w s e (inr (inl n)) = inr (inl n, e)
      back w s e (inr (inr (inl v))) = inr (inr (inl v), e)
      back w s e (inr (inr (inr m))) = inr (inr (inr (m.0, m.2)), e)

  -- the first place as a group is the first of all
  pub group_is_first : (wanted : SchemeTree) (found : Place) → IsFirstPlace IsBefore (λ w s. Group w s × (s ≡ wanted)) place (Some found)
      → IsFirstPlace IsBefore (ReadsAs sig metas vars c ts wanted) place (Some found)
  group_is_first wanted found h =
      either_read wanted (Some found)
      (first_of_two IsBefore (λ w s. Group w s × (s ≡ wanted)) (λ w s. Alone w s × (s ≡ wanted)) place found
      (λ k l a x p q. groups_before k l a x p.0 q.0) h)

  pub alone_is_first : (wanted : SchemeTree) (found : Option Place) → IsFirstPlace {L = Place} IsBefore (λ w s. Group w s × (s ≡ wanted)) place None
      → IsFirstPlace IsBefore (λ w s. Alone w s × (s ≡ wanted)) place found → IsFirstPlace IsBefore (ReadsAs sig metas vars c ts wanted) place found
  alone_is_first wanted found none h =
      either_read wanted found
      (second_of_two IsBefore (λ w s. Group w s × (s ≡ wanted)) (λ w s. Alone w s × (s ≡ wanted)) place place found none h)

  -- a group, by the first place of what stands in it
  pub group_first : (mid : List Token) (wanted : SchemeTree) (inside new : Place) → ts ≡ punctuation 40 ∷ (mid ++ punctuation 41 ∷ [])
      → place new ≡ way 0 [] (then_way (place inside) no_ways) → IsFirstPlace IsBefore (ReadsAs sig metas vars c mid wanted) place (Some inside)
      → IsFirstPlace IsBefore (λ w s. Group w s × (s ≡ wanted)) place (Some new)
  group_first mid wanted inside new around is h =
      (wanted, ((subst (Group (place new)) h.1.0.1 (mid, place inside, around, is, h.1.0.0), refl), λ l x q. later l x q.0 q.1))
    where
      later : (l : Way) (x : SchemeTree) → Group l x → x ≡ wanted → IsBefore (place new) l ⊎ ((place new ≡ l) × (x ≡ wanted))
      later l x g e =
          let two : punctuation 40 ∷ (g.0 ++ punctuation 41 ∷ []) ≡ punctuation 40 ∷ (mid ++ punctuation 41 ∷ []) = sym g.2 ∙ around in
          let inner : g.0 ++ punctuation 41 ∷ [] ≡ mid ++ punctuation 41 ∷ [] = cc in
          let same : g.0 ≡ mid = append_cancel_right g.0 mid (punctuation 41 ∷ []) inner in
          go (h.1.1 g.1 x (subst (λ us. ReadsTermAt sig metas vars c us g.1 x) same g.4, e))
        where
          go : IsBefore (place inside) g.1 ⊎ ((place inside ≡ g.1) × (x ≡ h.0)) → IsBefore (place new) l ⊎ ((place new ≡ l) × (x ≡ wanted))
          go (inl b) = inl (subst (λ k. IsBefore k l) (sym is) (subst (IsBefore (way 0 [] (then_way (place inside) no_ways))) (sym g.3) (inr (refl, inr (refl, inl b)))))
          go (inr f) = inr (is ∙ ap (λ v. way 0 [] (then_way v no_ways)) f.0 ∙ sym g.3, e)

  pub no_group_inside : (mid : List Token) (wanted : SchemeTree) → ts ≡ punctuation 40 ∷ (mid ++ punctuation 41 ∷ [])
      → ((v : Way) (s : SchemeTree) → ReadsAs sig metas vars c mid wanted v s → ⊥) → (w : Way) (s : SchemeTree) → Group w s × (s ≡ wanted) → ⊥
  no_group_inside mid wanted around none w s q =
      let g = q.0 in
      let two : punctuation 40 ∷ (g.0 ++ punctuation 41 ∷ []) ≡ punctuation 40 ∷ (mid ++ punctuation 41 ∷ []) = sym g.2 ∙ around in
      let inner : g.0 ++ punctuation 41 ∷ [] ≡ mid ++ punctuation 41 ∷ [] = cc in
      let same : g.0 ≡ mid = append_cancel_right g.0 mid (punctuation 41 ∷ []) inner in
      none g.1 s (subst (λ us. ReadsTermAt sig metas vars c us g.1 s) same g.4, q.1)

-- a range in parentheses
pub range_around : (sheet : Sheet) (n to : ℕ) → n + 2 ≤ to → to ≤ length sheet.tokens.now → slice_get (tokens_of sheet) n ≡ Some (punctuation 40)
    → slice_get (tokens_of sheet) (to - 1) ≡ Some (punctuation 41)
    → slice_range (tokens_of sheet) n to ≡ punctuation 40 ∷ (slice_range (tokens_of sheet) (n + 1) (to - 1) ++ punctuation 41 ∷ [])
range_around sheet n to two within first last =
    let ts = tokens_of sheet in
    let k = seen sheet to within in
    let lt : n < to = omega arith in
    let mid : n + 1 ≤ to - 1 = omega arith in
    let le : to - 1 ≤ to = omega arith in
    let end : to - 1 < to = omega arith in
    let next : to - 1 + 1 ≡ to = omega arith in
    let rest : slice_range ts (to - 1) to ≡ punctuation 41 ∷ [] =
    range_cons ts (to - 1) to (punctuation 41) end k last ∙ ap (λ vs. punctuation 41 ∷ vs) (ap (λ i. slice_range ts i to) next ∙ range_none ts to k) in
    range_cons ts n to (punctuation 40) lt k first
    ∙ ap (λ vs. punctuation 40 ∷ vs) (range_two ts (n + 1) (to - 1) to mid le k ∙ ap (λ vs. slice_range ts (n + 1) (to - 1) ++ vs) rest)
