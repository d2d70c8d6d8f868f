-- Schemes of a scope, slot by slot.
use Rattle.std.proofs.Common.{rules, ◌≡◌, ◌↔◌, ℕ, ◌-◌, ◌≤◌, nat_eq, IsTrue, List, [], ◌∷◌, length, map, drop, Some, slice_get, refl, sym, subst, arith}
use Rattle.std.proofs.lemmas.List.{length-drop}
use Rattle.std.proofs.lemmas.Bool.Decides.{nat_tests}
use Rattle.binding_terms.specs.Signature.{Signature}
use Rattle.scheme_terms.specs.SchemeTree.{SchemeTree, meta, values}
use Rattle.scheme_terms.specs.Forms.{Names}
use Rattle.scheme_terms.specs.SchemeScope.{IsScheme, AreValues, AreSchemeParts, AreSchemes}
use Rattle.scheme_terms.specs.View.{scheme, scheme_parts}
use Rattle.scheme_terms.specs.declared.scheme.MetaDecl.{MetaDecl}
use Rattle.scheme_terms.specs.declared.scheme.SArg.{SArg}
use Rattle.scheme_terms.specs.declared.scheme.Scheme.{Scheme, the_lemmas}
use Rattle.scheme_terms.specs.declared.scheme.Scheme.TheVariants.{Meta}
use Rattle.scheme_terms.specs.declared.scheme.MetaId.{MetaId}
use Rattle.pattern_unify.specs.Plain.{HaveNoParameters}
use Rattle.binding_terms.proofs.Lists.{all_at, match_at, match_from}

-- no slot is left exactly where no argument is
pub parts_end : (sig : Signature) (names : Names) (bs : List ℕ) (parts : List SArg) (next : ℕ) → next ≤ length parts →
    IsTrue (nat_eq next (length parts)) ↔ AreSchemeParts sig names [] bs [] (scheme_parts (drop next parts))
parts_end sig names bs parts next h = left (drop next parts) (length-drop next parts)
  where
    left : (rest : List SArg) → length rest ≡ length parts - next → IsTrue (nat_eq next (length parts)) ↔ AreSchemeParts sig names [] bs [] (scheme_parts rest)
    left [] e = let same : next ≡ length parts = omega arith in (λ _. tt, λ _. grind (arith, nat_tests))
    left (a ∷ rest) e =
        let other : next ≡ length parts → ⊥ = λ k. omega arith in
        (λ t. let same : next ≡ length parts = grind (arith, nat_tests) in absurd (other same), λ k. absurd k)

pub arguments_end : (sig : Signature) (names : Names) (args : List Scheme) (next : ℕ) → next ≤ length args →
    IsTrue (nat_eq next (length args)) ↔ AreSchemes sig names [] [] (map scheme (drop next args))
arguments_end sig names args next h = left (drop next args) (length-drop next args)
  where
    left : (rest : List Scheme) → length rest ≡ length args - next → IsTrue (nat_eq next (length args)) ↔ AreSchemes sig names [] [] (map scheme rest)
    left [] e = let same : next ≡ length args = omega arith in (λ _. tt, λ _. grind (arith, nat_tests))
    left (a ∷ rest) e =
        let other : next ≡ length args → ⊥ = λ k. omega arith in
        (λ t. let same : next ≡ length args = grind (arith, nat_tests) in absurd (other same), λ k. absurd k)

module _ (sig : Signature) (names : Names) (none : HaveNoParameters names.metas) (c m : ℕ) (decl : MetaDecl) (here : slice_get names.metas m ≡ Some decl) where
  no_parameters : decl.params ≡ []
  no_parameters = all_at (λ (d : MetaDecl). d.params ≡ []) names.metas m decl none here

  -- a name without parameters has no arguments
  pub bare_meta : decl.cat.0 ≡ c → (args : List SchemeTree) → IsTrue (nat_eq (length args) 0) ↔ IsScheme sig names [] c (meta m (values args))
  bare_meta same args = (
    λ h. match_from (slice_get names.metas m) (λ d. (d.cat.0 ≡ c) × AreValues sig names [] (map (λ p. p.0) d.params) (values args)) decl here
        (same, subst (λ ps. AreValues sig names [] (map (λ p. p.0) ps) (values args)) (sym no_parameters) (empty args h)),
    λ is. counted args (subst (λ ps. AreValues sig names [] (map (λ p. p.0) ps) (values args)) no_parameters
        (match_at (slice_get names.metas m) (λ d. (d.cat.0 ≡ c) × AreValues sig names [] (map (λ p. p.0) d.params) (values args)) decl here is).1),
  )
    where
      empty : (ss : List SchemeTree) → IsTrue (nat_eq (length ss) 0) → AreValues sig names [] [] (values ss)
      empty [] h = tt
      empty (s ∷ ss) h = let same : length (s ∷ ss) ≡ 0 = grind (arith, nat_tests) in absurd (let no : ⊥ = omega (arith, same) in no)

      counted : (ss : List SchemeTree) → AreValues sig names [] [] (values ss) → IsTrue (nat_eq (length ss) 0)
      counted [] h = refl
      counted (s ∷ ss) h = absurd h

pub scheme_of_meta : (m : MetaId) (args : List Scheme) → scheme (Meta m args) ≡ meta m.0 (values (map scheme args))
scheme_of_meta m args = search (rules, the_lemmas)
