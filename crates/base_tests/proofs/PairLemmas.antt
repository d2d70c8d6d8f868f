-- Equations over the five names go together.
use Rattle.std.proofs.Common.{◌≡◌, ◌==◌, ◌&&◌, ℕ, zero, suc, Bool, true, false, IsTrue, List, [], ◌∷◌, map, Option, Some, None, MatchOption, slice_get, refl, ap, sym, subst, arith}
use Rattle.std.proofs.lemmas.Bool.Decides.{nat_tests}
use Rattle.std.specs.List.{AllByRecursion}
use Rattle.binding_terms.specs.Signature.{Signature, slots, binders}
use Rattle.binding_terms.specs.declared.grammar.Prod.{Prod}
use Rattle.scheme_terms.specs.SchemeTree.{SchemeTree, meta, known, local, con, Values, no_values, value, Parts, no_parts, part}
use Rattle.scheme_terms.specs.Forms.{Names}
use Rattle.scheme_terms.specs.SchemeScope.{IsScheme, AreValues, AreSchemeParts, IsKnownEntry}
use Rattle.scheme_terms.specs.declared.scheme.MetaDecl.{MetaDecl}
use Rattle.pattern_unify.specs.Equations.{SchemeEquation, AreSides, AreToUnify}
use Rattle.base_tests.specs.Pairs.{IsBinding, Binds, zeros, Declares, five, AreFive, is_number, count, is_last, is_over, are_over, is_part_over, sides_over, IsOver}

first_true : (a b : Bool) → IsTrue (a && b) → IsTrue a
first_true true b h = refl
first_true false b h = let e : false ≡ true = h in cc

second_true : (a b : Bool) → IsTrue (a && b) → IsTrue b
second_true true b h = h
second_true false b h = let e : false ≡ true = h in cc

same_number : (n m : ℕ) → IsTrue (n == m) → n ≡ m
same_number n m h = grind (arith, nat_tests)

number_is : (o : Option ℕ) (n : ℕ) → IsTrue (is_number o n) → o ≡ Some n
number_is None n h = let e : false ≡ true = h in cc
number_is (Some k) n h = ap Some (same_number k n h)

abbrev IsNameWith : ℕ → MetaDecl → Type 0
IsNameWith n decl = (decl.cat.0 ≡ 0) × (map (λ p. p.0) decl.params ≡ zeros n)

declared_at : (ns : List ℕ) (decls : List MetaDecl) → Declares ns decls → (m n : ℕ) → slice_get ns m ≡ Some n → MatchOption (slice_get decls m) ⊥ (IsNameWith n)
declared_at [] [] h m n e = let no : None ≡ Some n = e in absurd (let f : ⊥ = cc in f)
declared_at [] (d ∷ ds) h m n e = absurd h
declared_at (k ∷ ns) [] h m n e = absurd h
declared_at (k ∷ ns) (d ∷ ds) h zero n e = let same : k ≡ n = cc in (h.0, subst (λ x. map (λ p. p.0) d.params ≡ zeros x) same h.1)
declared_at (k ∷ ns) (d ∷ ds) h (suc m) n e = declared_at ns ds h.2 m n e

match_mapped : {A : Type 0} (o : Option A) (P Q : A → Type 0) → ((a : A) → P a → Q a) → MatchOption o ⊥ P → MatchOption o ⊥ Q
match_mapped None P Q f h = h
match_mapped (Some a) P Q f h = f a h

last_is : (xs : Parts) → IsTrue (is_last xs) → xs ≡ no_parts
last_is no_parts h = refl
last_is (part n s xs) h = let e : false ≡ true = h in cc

module _ (sig : Signature) (names : Names) (binds : Binds sig) (are : AreFive names) where
  mutual
    over_is : (ls : List ℕ) (s : SchemeTree) → IsTrue (is_over ls s) → IsScheme sig names ls 0 s
    over_is ls (meta m vs) h =
        let values = are_over_are ls vs (second_true (is_number (slice_get five m) (count vs)) (are_over ls vs) h) in
        match_mapped (slice_get names.metas m) (IsNameWith (count vs)) (λ decl. (decl.cat.0 ≡ 0) × AreValues sig names ls (map (λ p. p.0) decl.params) vs)
        (λ decl is. (is.0, subst (λ ps. AreValues sig names ls ps vs) (sym is.1) values))
        (declared_at five names.metas are.metas m (count vs) (number_is (slice_get five m) (count vs) (first_true (is_number (slice_get five m) (count vs)) (are_over ls vs) h)))
    over_is ls (known k) h = let e : false ≡ true = h in cc
    over_is ls (local i) h = number_is (slice_get ls i) 0 h
    over_is ls (con p xs) h =
        let part_is = parts_over_are ls xs (second_true (p == 0) (is_part_over ls xs) h) in
        subst (λ k. MatchOption (slice_get sig.prods k) ⊥ (λ prod. (prod.cat.0 ≡ 0) × AreSchemeParts sig names ls (binders prod.items) (slots prod.items) xs))
        (sym (same_number p 0 (first_true (p == 0) (is_part_over ls xs) h)))
        (match_mapped (slice_get sig.prods 0) IsBinding (λ prod. (prod.cat.0 ≡ 0) × AreSchemeParts sig names ls (binders prod.items) (slots prod.items) xs)
        (λ prod is. (
          is.cat,
          subst (λ bs. AreSchemeParts sig names ls bs (slots prod.items) xs) (sym is.binder)
              (subst (λ ss. AreSchemeParts sig names ls (0 ∷ []) ss xs) (sym is.slot) part_is),
        )) binds)

    are_over_are : (ls : List ℕ) (vs : Values) → IsTrue (are_over ls vs) → AreValues sig names ls (zeros (count vs)) vs
    are_over_are ls no_values h = tt
    are_over_are ls (value s vs) h = (over_is ls s (first_true (is_over ls s) (are_over ls vs) h), are_over_are ls vs (second_true (is_over ls s) (are_over ls vs) h))

    parts_over_are : (ls : List ℕ) (xs : Parts) → IsTrue (is_part_over ls xs) → AreSchemeParts sig names ls (0 ∷ []) (record { cat = 0; binds = 0 ∷ [] } ∷ []) xs
    parts_over_are ls no_parts h = let e : false ≡ true = h in cc
    parts_over_are ls (part n s xs) h =
        let rest = second_true (n == 1) (is_over (0 ∷ ls) s && is_last xs) h in (
          same_number n 1 (first_true (n == 1) (is_over (0 ∷ ls) s && is_last xs) h),
          over_is (0 ∷ ls) s (first_true (is_over (0 ∷ ls) s) (is_last xs) rest),
          subst (AreSchemeParts sig names ls (0 ∷ []) []) (sym (last_is xs (second_true (is_over (0 ∷ ls) s) (is_last xs) rest))) tt,
        )

  sides_are : (eqs : List SchemeEquation) → AllByRecursion IsOver eqs → AllByRecursion (AreSides sig names) eqs
  sides_are [] h = tt
  sides_are (e ∷ es) h = (
    (
      0,
      over_is e.locals e.left (first_true (is_over e.locals e.left) (is_over e.locals e.right) h.0),
      over_is e.locals e.right (second_true (is_over e.locals e.left) (is_over e.locals e.right) h.0),
    ),
    sides_are es h.1,
  )

  pub are_to_unify : (eqs : List SchemeEquation) → AllByRecursion IsOver eqs → AreToUnify sig names eqs
  are_to_unify eqs h = record {
    knowns = subst (AllByRecursion (λ decl. IsKnownEntry sig names names.root decl.entry)) (sym are.knowns) tt;
    sides = sides_are eqs h;
  }
