-- Where a variable stands in a term.
use Rattle.std.specs.Prelude.{◌≡◌, ◌⊎◌, ℕ, ◌+◌, List, [], ◌∷◌, ◌++◌, Some, slice_get, MatchOption}
use Rattle.binding_terms.specs.Tree.{Tree, var, con, Args, no_args, arg}
use Rattle.binding_terms.specs.Signature.{Signature, Place, slots, binders}
use Rattle.binding_terms.specs.Scope.{bound}

-- the variable with this index, counted outside the term's own binders, stands in the term
abbrev mutual
  pub IsFreeIn : (index : ℕ) → Tree → Type 0
  IsFreeIn i (var j) = i ≡ j
  IsFreeIn i (con p xs) = IsFreeInArgs i xs

  pub IsFreeInArgs : (index : ℕ) → Args → Type 0
  IsFreeInArgs i no_args = ⊥
  IsFreeInArgs i (arg n t xs) = IsFreeIn (i + n) t ⊎ IsFreeInArgs i xs

-- a variable of the category stands in the term, one of the scope or one that the term binds
abbrev mutual
  pub HoldsVariable : (sig : Signature) (scope : List ℕ) (of : ℕ) → Tree → Type 0
  HoldsVariable sig scope v (var i) = slice_get scope i ≡ Some v
  HoldsVariable sig scope v (con p xs) =
      MatchOption (slice_get sig.prods p) ⊥ (λ prod. PartsHoldVariable sig scope v (binders prod.items) (slots prod.items) xs)

  pub PartsHoldVariable : (sig : Signature) (scope : List ℕ) (of : ℕ) (binders : List ℕ) → List Place → Args → Type 0
  PartsHoldVariable sig scope v bs [] xs = ⊥
  PartsHoldVariable sig scope v bs (s ∷ ss) no_args = ⊥
  PartsHoldVariable sig scope v bs (s ∷ ss) (arg n t xs) =
      HoldsVariable sig (bound bs s.binds ++ scope) v t ⊎ PartsHoldVariable sig scope v bs ss xs
