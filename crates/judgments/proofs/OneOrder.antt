-- Names in the order of their first places are told by the tokens alone.
use Rattle.std.proofs.Common.{◌≡◌, ◌≢◌, ◌⊎◌, ℕ, zero, suc, List, [], ◌∷◌, map, inl, inr, refl, ap, ◌∙◌, sym, subst, Some, None, slice_get}
use Rattle.std.specs.List.{AllByRecursion}
use Rattle.binding_terms.specs.Signature.{Signature}
use Rattle.scheme_terms.specs.SchemeScope.{AreDifferentNames}
use Rattle.scheme_terms.specs.declared.scheme.MetaDecl.{MetaDecl}
use Rattle.rule_schemes.specs.Reading.{Token, IsCategoryWord, AreSpelledApart}
use Rattle.rule_schemes.specs.NewNames.{AreInOrder, StandsBefore}
use Rattle.judgments.specs.Collected.{IsAmong, IsCollected}
use Rattle.judgments.proofs.WordsOfForms.{same_word}
use Rattle.judgments.proofs.StatementLemmas.{among_at}

before_trans : (a b d : List ℕ) (ts : List Token) → StandsBefore a b ts → StandsBefore b d ts → StandsBefore a d ts
before_trans a b d [] h k = h
before_trans a b d (t ∷ ts) (inl h) k = inl h
before_trans a b d (t ∷ ts) (inr h) (inl k) = absurd (h.0 k)
before_trans a b d (t ∷ ts) (inr h) (inr k) = inr (k.0, before_trans a b d ts h.1 k.1)

before_once : (a b : List ℕ) (ts : List Token) → a ≢ b → StandsBefore a b ts → StandsBefore b a ts → ⊥
before_once a b [] apart h k = h
before_once a b (t ∷ ts) apart (inl h) (inl k) = apart (ap (λ (u : Token). u.1) (sym h ∙ k))
before_once a b (t ∷ ts) apart (inl h) (inr k) = k.0 h
before_once a b (t ∷ ts) apart (inr h) (inl k) = h.0 k
before_once a b (t ∷ ts) apart (inr h) (inr k) = before_once a b ts apart h.1 k.1

-- the first name is before each later one
pub first_before : (ts : List Token) (m : MetaDecl) (metas : List MetaDecl) (w : List ℕ) → AreInOrder ts (m ∷ metas) → IsAmong w metas → StandsBefore m.name w ts
first_before ts m [] w h a = absurd a
first_before ts m (n ∷ metas) w h (inl e) = subst (λ v. StandsBefore m.name v ts) e h.1
first_before ts m (n ∷ metas) w h (inr a) = before_trans m.name n.name w ts h.1 (first_before ts n metas w h.2 a)

pub rest_in_order : (ts : List Token) (m : MetaDecl) (metas : List MetaDecl) → AreInOrder ts (m ∷ metas) → AreInOrder ts metas
rest_in_order ts m [] h = tt
rest_in_order ts m (n ∷ metas) h = h.2

pub not_again : (w : List ℕ) (metas : List MetaDecl) → AllByRecursion (λ v. w ≢ v) (map (λ (m : MetaDecl). m.name) metas) → IsAmong w metas → ⊥
not_again w [] h a = a
not_again w (m ∷ metas) h (inl e) = h.0 (sym e)
not_again w (m ∷ metas) h (inr a) = not_again w metas h.1 a

-- lists with the same names in the order of first places have the same names one by one
pub same_names : (ts : List Token) (xs ys : List MetaDecl) → AreDifferentNames (map (λ (m : MetaDecl). m.name) xs) → AreDifferentNames (map (λ (m : MetaDecl). m.name) ys)
    → AreInOrder ts xs → AreInOrder ts ys → ((w : List ℕ) → IsAmong w xs → IsAmong w ys) → ((w : List ℕ) → IsAmong w ys → IsAmong w xs)
    → map (λ (m : MetaDecl). m.name) xs ≡ map (λ (m : MetaDecl). m.name) ys
same_names ts [] [] dx dy ox oy there back = refl
same_names ts [] (y ∷ ys) dx dy ox oy there back = absurd (back y.name (inl refl))
same_names ts (x ∷ xs) [] dx dy ox oy there back = absurd (there x.name (inl refl))
same_names ts (x ∷ xs) (y ∷ ys) dx dy ox oy there back =
    first (same_names ts xs ys dx.1 dy.1 (rest_in_order ts x xs ox) (rest_in_order ts y ys oy)) (same_word x.name y.name)
  where
    later_x : x.name ≢ y.name → IsAmong y.name (x ∷ xs) → IsAmong y.name xs
    later_x apart (inl e) = absurd (apart e)
    later_x apart (inr a) = a

    later_y : x.name ≢ y.name → IsAmong x.name (y ∷ ys) → IsAmong x.name ys
    later_y apart (inl e) = absurd (apart (sym e))
    later_y apart (inr a) = a

    in_rest_y : x.name ≡ y.name → (w : List ℕ) → IsAmong w xs → IsAmong w (y ∷ ys) → IsAmong w ys
    in_rest_y e w a (inl f) = absurd (not_again x.name xs dx.0 (subst (λ v. IsAmong v xs) (sym (e ∙ f)) a))
    in_rest_y e w a (inr b) = b

    in_rest_x : x.name ≡ y.name → (w : List ℕ) → IsAmong w ys → IsAmong w (x ∷ xs) → IsAmong w xs
    in_rest_x e w a (inl f) = absurd (not_again y.name ys dy.0 (subst (λ v. IsAmong v ys) (sym (sym e ∙ f)) a))
    in_rest_x e w a (inr b) = b

    first : (((w : List ℕ) → IsAmong w xs → IsAmong w ys) → ((w : List ℕ) → IsAmong w ys → IsAmong w xs) → map (λ (m : MetaDecl). m.name) xs ≡ map (λ (m : MetaDecl). m.name) ys)
        → (x.name ≡ y.name) ⊎ (x.name ≢ y.name) → x.name ∷ map (λ (m : MetaDecl). m.name) xs ≡ y.name ∷ map (λ (m : MetaDecl). m.name) ys
    first more (inl e) =
        let rest = more (λ w a. in_rest_y e w a (there w (inr a))) (λ w a. in_rest_x e w a (back w (inr a))) in
        cc
    first more (inr apart) =
        absurd (before_once x.name y.name ts apart (first_before ts x xs y.name ox (later_x apart (back y.name (inl refl))))
        (first_before ts y ys x.name oy (later_y apart (there x.name (inl refl)))))

module _ (sig : Signature) (apart : AreSpelledApart sig) (ts : List Token) where
  pub same_decl : (x y : MetaDecl) → IsCollected sig.cats ts x → IsCollected sig.cats ts y → x.name ≡ y.name → x ≡ y
  same_decl x y h k e =
      let number : x.cat.0 ≡ y.cat.0 = apart x.cat.0 y.cat.0 y.name (subst (IsCategoryWord sig.cats x.cat.0) e h.cat) k.cat in
      let params : x.params ≡ y.params = h.params ∙ sym k.params in
      λ i. record { name = e i; cat = record { 0 = number i }; params = params i }

  pub same_decls : (xs ys : List MetaDecl) → AllByRecursion (IsCollected sig.cats ts) xs → AllByRecursion (IsCollected sig.cats ts) ys
      → map (λ (m : MetaDecl). m.name) xs ≡ map (λ (m : MetaDecl). m.name) ys → xs ≡ ys
  same_decls [] [] h k e = refl
  same_decls [] (y ∷ ys) h k e = (let never : [] ≡ y.name ∷ map (λ (m : MetaDecl). m.name) ys = e in cc)
  same_decls (x ∷ xs) [] h k e = (let never : x.name ∷ map (λ (m : MetaDecl). m.name) xs ≡ [] = e in cc)
  same_decls (x ∷ xs) (y ∷ ys) h k e =
      let both : x.name ∷ map (λ (m : MetaDecl). m.name) xs ≡ y.name ∷ map (λ (m : MetaDecl). m.name) ys = e in
      let name : x.name ≡ y.name = cc in
      let names : map (λ (m : MetaDecl). m.name) xs ≡ map (λ (m : MetaDecl). m.name) ys = cc in
      let first : x ≡ y = same_decl x y h.0 k.0 name in
      let rest : xs ≡ ys = same_decls xs ys h.1 k.1 names in
      cc

not_later : (x : MetaDecl) (metas : List MetaDecl) (n : ℕ) (a b : MetaDecl) → AllByRecursion (λ v. x.name ≢ v) (map (λ (d : MetaDecl). d.name) metas) → Some x ≡ Some a
    → slice_get metas n ≡ Some b → a.name ≡ b.name → ⊥
not_later x metas n a b differ g h e =
    let first : x ≡ a = cc in
    not_again x.name metas differ (among_at metas n b x.name h (sym (ap (λ (d : MetaDecl). d.name) first ∙ e)))

-- two places of one name are one place
pub one_place : (metas : List MetaDecl) (m n : ℕ) (a b : MetaDecl) → AreDifferentNames (map (λ (d : MetaDecl). d.name) metas) → slice_get metas m ≡ Some a → slice_get metas n ≡ Some b
    → a.name ≡ b.name → m ≡ n
one_place [] m n a b differ g h e = (let never : None ≡ Some a = g in cc)
one_place (x ∷ metas) zero zero a b differ g h e = refl
one_place (x ∷ metas) zero (suc n) a b differ g h e = absurd (not_later x metas n a b differ.0 g h e)
one_place (x ∷ metas) (suc m) zero a b differ g h e = absurd (not_later x metas m b a differ.0 h g (sym e))
one_place (x ∷ metas) (suc m) (suc n) a b differ g h e = ap suc (one_place metas m n a b differ.1 g h e)
