-- Equations of schemes over one category whose one production binds a variable in its one slot, and over five names of it.
use Rattle.std.specs.Prelude.{◌≡◌, ℕ, zero, suc, Bool, true, false, ◌==◌, ◌&&◌, IsTrue, List, [], ◌∷◌, map, Option, Some, None, slice_get, MatchOption}
use Rattle.std.specs.List.{list_all}
use Rattle.binding_terms.specs.Signature.{Signature, slots, binders}
use Rattle.binding_terms.specs.declared.grammar.Prod.{Prod}
use Rattle.scheme_terms.specs.SchemeTree.{SchemeTree, meta, known, local, con, Values, no_values, value, Parts, no_parts, part}
use Rattle.scheme_terms.specs.Forms.{Names}
use Rattle.scheme_terms.specs.declared.scheme.MetaDecl.{MetaDecl}
use Rattle.pattern_unify.specs.Equations.{SchemeEquation}

-- a production of the first category with one slot of it, under the one binder
pub record IsBinding (p : Prod) : Type 0 where
  pub cat : p.cat.0 ≡ 0
  pub slot : slots p.items ≡ record { cat = 0; binds = 0 ∷ [] } ∷ []
  pub binder : binders p.items ≡ 0 ∷ []

-- the first production is so
abbrev pub Binds : Signature → Type 0
Binds sig = MatchOption (slice_get sig.prods 0) ⊥ IsBinding

abbrev pub zeros : ℕ → List ℕ
zeros zero = []
zeros (suc n) = 0 ∷ zeros n

-- names of the first category with so many parameters, all of it
abbrev pub Declares : List ℕ → List MetaDecl → Type 0
Declares [] [] = Unit {0}
Declares (n ∷ ns) (decl ∷ decls) = (decl.cat.0 ≡ 0) × (map (λ p. p.0) decl.params ≡ zeros n) × Declares ns decls
Declares _ _ = ⊥

-- how many parameters the five names have
abbrev pub five : List ℕ
five = 2 ∷ 1 ∷ 2 ∷ 0 ∷ 1 ∷ []

-- a scope of the five names alone
pub record AreFive (names : Names) : Type 0 where
  pub metas : Declares five names.metas
  pub knowns : names.knowns ≡ []

abbrev pub is_number : Option ℕ → ℕ → Bool
is_number None n = false
is_number (Some k) n = k == n

abbrev pub count : Values → ℕ
count no_values = 0
count (value s vs) = suc (count vs)

abbrev pub is_last : Parts → Bool
is_last no_parts = true
is_last (part n s xs) = false

-- whether the scheme is over the five names, under locals of these categories
abbrev mutual
  pub is_over : List ℕ → SchemeTree → Bool
  is_over ls (meta m vs) = is_number (slice_get five m) (count vs) && are_over ls vs
  is_over ls (known k) = false
  is_over ls (local i) = is_number (slice_get ls i) 0
  is_over ls (con p xs) = (p == 0) && is_part_over ls xs

  pub are_over : List ℕ → Values → Bool
  are_over ls no_values = true
  are_over ls (value s vs) = is_over ls s && are_over ls vs

  pub is_part_over : List ℕ → Parts → Bool
  is_part_over ls no_parts = false
  is_part_over ls (part n s xs) = (n == 1) && (is_over (0 ∷ ls) s && is_last xs)

-- the sides of the equation are so
abbrev pub sides_over : SchemeEquation → Bool
sides_over e = is_over e.locals e.left && is_over e.locals e.right

abbrev pub IsOver : SchemeEquation → Type 0
IsOver e = IsTrue (sides_over e)
