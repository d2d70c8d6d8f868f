-- Equations that say which constant a name is to be.
use Rattle.std.proofs.Common.{◌≡◌, ℕ, zero, suc, ◌<◌, List, [], ◌∷◌, ◌++◌, length, map, MatchOption, slice_get, inl, refl, ap, ◌∙◌, sym, subst, arith}
use Rattle.std.specs.List.{AllByRecursion}
use Rattle.binding_terms.specs.Numbered.{AnyByRecursion, AllNumbered}
use Rattle.binding_terms.specs.Signature.{Signature, slots, binders}
use Rattle.binding_terms.specs.declared.grammar.Prod.{Prod}
use Rattle.scheme_terms.specs.SchemeTree.{meta, con, no_values, no_parts, StrictIn}
use Rattle.scheme_terms.specs.Forms.{Names}
use Rattle.scheme_terms.specs.SchemeScope.{AreValues, AreSchemeParts, KnownsFit, IsKnownEntry}
use Rattle.scheme_terms.specs.View.{names, known_variable}
use Rattle.scheme_terms.specs.declared.scheme.MetaDecl.{MetaDecl}
use Rattle.pattern_unify.specs.Equations.{SchemeEquation, equation, AreSides, AreToUnify}
use Rattle.pattern_unify.specs.FitInto.{AreSidesInto, AreToFitInto}
use Rattle.pattern_unify.specs.declared.equation.Equation.{Equation}

abbrev pub wanted : ℕ → SchemeEquation
wanted p = record { locals = []; left = meta 0 no_values; right = con p no_parts }

abbrev IsName : Signature → Names → List MetaDecl → Type 0
IsName sig ns ms = MatchOption (slice_get ms 0) ⊥ (λ decl. (decl.cat.0 ≡ 0) × AreValues sig ns [] (map (λ p. p.0) decl.params) no_values)

is_name : (sig : Signature) (ns : Names) (ms : List MetaDecl) → length ms ≡ 1 → AllByRecursion (λ m. (m.cat.0 ≡ 0) × (m.params ≡ [])) ms → IsName sig ns ms
is_name sig ns [] e h = absurd (omega arith)
is_name sig ns (m ∷ ms) e h = (h.0.0, subst (λ ps. AreValues sig ns [] (map (λ p. p.0) ps) no_values) (sym h.0.1) tt)

abbrev IsConstant : Signature → Names → List Prod → ℕ → Type 0
IsConstant sig ns ps p =
    MatchOption (slice_get ps p) ⊥ (λ prod. (prod.cat.0 ≡ 0) × AreSchemeParts sig ns [] (binders prod.items) (slots prod.items) no_parts)

is_constant : (sig : Signature) (ns : Names) (ps : List Prod) (p : ℕ) → p < length ps →
    AllByRecursion (λ p. (p.cat.0 ≡ 0) × (slots p.items ≡ [])) ps → IsConstant sig ns ps p
is_constant sig ns [] p l h = absurd (omega arith)
is_constant sig ns (x ∷ ps) zero l h = (h.0.0, subst (λ ss. AreSchemeParts sig ns [] (binders x.items) ss no_parts) (sym h.0.1) tt)
is_constant sig ns (x ∷ ps) (suc p) l h = is_constant sig ns ps p (omega arith) h.1

module _ (sig : Signature) (ns : Names) (two : length sig.prods ≡ 2) (constants : AllByRecursion (λ p. (p.cat.0 ≡ 0) × (slots p.items ≡ [])) sig.prods)
    (one : length ns.metas ≡ 1) (plain : AllByRecursion (λ m. (m.cat.0 ≡ 0) × (m.params ≡ [])) ns.metas) where
  sides : (p : ℕ) → p < 2 → AreSidesInto sig ns ns (wanted p)
  sides p l = (0, is_name sig ns ns.metas one plain, is_constant sig ns sig.prods p (omega arith) constants)

  numbered_one : (ms : List MetaDecl) (P : ℕ → MetaDecl → Type 0) → length ms ≡ 1 → ((m : MetaDecl) → P 0 m) → AllNumbered P 0 ms
  numbered_one [] P e h = absurd (omega (arith, e))
  numbered_one (m ∷ []) P e h = (h m, tt)
  numbered_one (m ∷ n ∷ ms) P e h = absurd (omega (arith, e))

  pub asked : (eqs first : List Equation) (a b : Equation) (p q : ℕ) → p < 2 → q < 2 → ns.knowns ≡ [] →
      first ≡ a ∷ [] → eqs ≡ first ++ b ∷ [] → equation a ≡ wanted p → equation b ≡ wanted q → AreToFitInto sig ns ns (map equation eqs)
  asked eqs first a b p q l k none g h ea eb =
      let all : map equation eqs ≡ wanted p ∷ wanted q ∷ [] =
      ap (map equation) (h ∙ ap (λ es. es ++ b ∷ []) g) ∙ (λ i. ea i ∷ eb i ∷ []) in
      subst (AreToFitInto sig ns ns) (sym all) (record {
        sides = (sides p l, (sides q k, tt));
        strict = numbered_one ns.metas (λ m decl. AnyByRecursion (λ e. StrictIn m e.left) (wanted p ∷ wanted q ∷ [])) one (λ m. inl (refl, tt));
      })

  -- equations that say what one name is to be go together
  pub asked_to_unify : (eqs first : List Equation) (a b : Equation) (p q : ℕ) → p < 2 → q < 2 → ns.knowns ≡ [] →
      first ≡ a ∷ [] → eqs ≡ first ++ b ∷ [] → equation a ≡ wanted p → equation b ≡ wanted q → AreToUnify sig ns (map equation eqs)
  asked_to_unify eqs first a b p q l k none g h ea eb =
      let all : map equation eqs ≡ wanted p ∷ wanted q ∷ [] =
      ap (map equation) (h ∙ ap (λ es. es ++ b ∷ []) g) ∙ (λ i. ea i ∷ eb i ∷ []) in
      subst (AreToUnify sig ns) (sym all) (record {
        knowns = subst (AllByRecursion (λ decl. IsKnownEntry sig ns ns.root decl.entry)) (sym none) tt;
        sides = (sides p l, (sides q k, tt));
      })
