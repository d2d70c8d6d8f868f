-- What is left of arguments where no slot is, and what locals stand for.
use Rattle.std.proofs.Common.{rules, refl, ◌≡◌, ◌↔◌, ℕ, ◌-◌, ◌<◌, ◌≤◌, ap, sym, ◌∙◌, reverse, Bor, nat_eq, IsTrue, List, [], ◌∷◌, ◌++◌, length, map, drop, arith}
use Rattle.std.proofs.lemmas.List.{drop_all, length-drop, reverse-reverse}
use Rattle.std.proofs.lemmas.Bool.Decides.{nat_tests}
use Rattle.binding_terms.specs.Signature.{Signature, binders}
use Rattle.binding_terms.specs.Scope.{bound}
use Rattle.binding_terms.specs.declared.grammar.CatId.{CatId}
use Rattle.binding_terms.specs.declared.grammar.Item.{Item}
use Rattle.binding_terms.proofs.Lists.{drop_next}
use Rattle.scheme_terms.specs.SchemeTree.{values}
use Rattle.scheme_terms.specs.Forms.{Names}
use Rattle.scheme_terms.specs.SchemeScope.{AreValues, AreSchemeParts, AreSchemes}
use Rattle.scheme_terms.specs.View.{scheme, scheme_parts}
use Rattle.scheme_terms.specs.declared.scheme.SArg.{SArg}
use Rattle.scheme_terms.specs.declared.scheme.Scheme.{Scheme}
use Rattle.form_scopes.specs.Kept.{kept_slots}
use Rattle.form_scopes.specs.Locals.{categories}
use Rattle.form_scopes.specs.declared.arguments.Skip.{Skip}
use Rattle.form_scopes.specs.declared.arguments.Skip.TheVariants.{Nothing, First, Of}
use Rattle.form_scopes.specs.declared.locals.Locals.{Locals, Under, the_lemmas}

pub categories-Under : (items : Bor (List Item)) (binds : Bor (List ℕ)) (outer : Bor Locals) →
    categories (Under items binds outer) ≡ bound (binders items.now) binds.now ++ categories outer.now
categories-Under items binds outer = search (rules, the_lemmas)

-- no slot is left exactly where no part is
pub parts_end : (sig : Signature) (names : Names) (ls bs : List ℕ) (parts : List SArg) (next : ℕ) → next ≤ length parts →
    IsTrue (nat_eq next (length parts)) ↔ AreSchemeParts sig names ls bs [] (scheme_parts (drop next parts))
parts_end sig names ls bs parts next h = left (drop next parts) (length-drop next parts)
  where
    left : (rest : List SArg) → length rest ≡ length parts - next → IsTrue (nat_eq next (length parts)) ↔ AreSchemeParts sig names ls bs [] (scheme_parts rest)
    left [] e = let same : next ≡ length parts = omega arith in (λ _. tt, λ _. grind (arith, nat_tests))
    left (a ∷ rest) e =
        let other : next ≡ length parts → ⊥ = λ k. omega arith in
        (λ t. let same : next ≡ length parts = grind (arith, nat_tests) in absurd (other same), λ k. absurd k)

-- no parameter is left exactly where no argument is
pub values_end : (sig : Signature) (names : Names) (ls : List ℕ) (args : List Scheme) (next : ℕ) → next ≤ length args →
    IsTrue (nat_eq next (length args)) ↔ AreValues sig names ls [] (values (map scheme (drop next args)))
values_end sig names ls args next h = left (drop next args) (length-drop next args)
  where
    left : (rest : List Scheme) → length rest ≡ length args - next → IsTrue (nat_eq next (length args)) ↔ AreValues sig names ls [] (values (map scheme rest))
    left [] e = let same : next ≡ length args = omega arith in (λ _. tt, λ _. grind (arith, nat_tests))
    left (a ∷ rest) e =
        let other : next ≡ length args → ⊥ = λ k. omega arith in
        (λ t. let same : next ≡ length args = grind (arith, nat_tests) in absurd (other same), λ k. absurd k)

-- no slot is left exactly where no argument is
pub arguments_end : (sig : Signature) (names : Names) (ls : List ℕ) (args : List Scheme) (next : ℕ) → next ≤ length args →
    IsTrue (nat_eq next (length args)) ↔ AreSchemes sig names ls [] (map scheme (drop next args))
arguments_end sig names ls args next h = left (drop next args) (length-drop next args)
  where
    left : (rest : List Scheme) → length rest ≡ length args - next → IsTrue (nat_eq next (length args)) ↔ AreSchemes sig names ls [] (map scheme rest)
    left [] e = let same : next ≡ length args = omega arith in (λ _. tt, λ _. grind (arith, nat_tests))
    left (a ∷ rest) e =
        let other : next ≡ length args → ⊥ = λ k. omega arith in
        (λ t. let same : next ≡ length args = grind (arith, nat_tests) in absurd (other same), λ k. absurd k)

-- a parameter is left, and no argument
pub values_short : (sig : Signature) (names : Names) (ls : List ℕ) (params : List CatId) (i : ℕ) (args : List Scheme) (next : ℕ) → i < length params → length args ≤ next →
    AreValues sig names ls (map (λ p. p.0) (drop i params)) (values (map scheme (drop next args))) → ⊥
values_short sig names ls params i args next more none h =
    let got = drop_next params i more in
    rw (got.1, drop_all next args none) at h

-- a list of one element is its own reverse
pub one_turned : (xs : List ℕ) (c : ℕ) → (xs ≡ c ∷ []) ↔ (reverse xs ≡ c ∷ [])
one_turned xs c = (λ e. ap reverse e, λ e. sym (reverse-reverse xs) ∙ ap reverse e)

-- of no slots none is left
pub no_slots : (skip : Skip) → kept_slots skip [] ≡ []
no_slots Nothing = refl
no_slots First = refl
no_slots (Of c) = refl
