-- When lists of lengths, and places, come before others.
use Rattle.std.proofs.Common.{◌≡◌, ◌⊎◌, ◌↔◌, Bool, IsTrue, true, false, true≢false, ℕ, ◌+◌, ◌<◌, List, [], ◌∷◌, length, inl, inr, refl, ap, ◌∙◌, sym, subst, arith}
use Rattle.rule_schemes.specs.Said.{Way, way, Ways, no_ways, then_way, ComesBefore, IsBefore, AreBefore}

pub comes_irreflexive : (ns : List ℕ) → ComesBefore ns ns → ⊥
comes_irreflexive [] h = h
comes_irreflexive (n ∷ ns) (inl lt) = omega arith
comes_irreflexive (n ∷ ns) (inr h) = comes_irreflexive ns h.1

mutual
  -- no place stands before itself
  pub before_irreflexive : (w : Way) → IsBefore w w → ⊥
  before_irreflexive (way a ls ws) (inl lt) = omega arith
  before_irreflexive (way a ls ws) (inr h) = elim h.1 [ inl b ↦ comes_irreflexive ls b | inr d ↦ are_irreflexive ws d.1 ]

  pub are_irreflexive : (ws : Ways) → AreBefore ws ws → ⊥
  are_irreflexive no_ways h = h
  are_irreflexive (then_way w ws) (inl b) = before_irreflexive w b
  are_irreflexive (then_way w ws) (inr h) = are_irreflexive ws h.1

pub same_way : (v w : Way) (vs ws : Ways) → v ≡ w → AreBefore (then_way v vs) (then_way w ws) ↔ AreBefore vs ws
same_way v w vs ws e =
    (λ h. elim h [ inl b ↦ absurd (before_irreflexive w (subst (λ x. IsBefore x w) e b)) | inr b ↦ b.1 ], λ b. inr (e, b))

-- where alternative and lengths are the same, the slots tell
pub inside_tells : (a b : ℕ) (ls ks : List ℕ) (vs ws : Ways) → a ≡ b → ls ≡ ks → IsBefore (way a ls vs) (way b ks ws) ↔ AreBefore vs ws
inside_tells a b ls ks vs ws same lengths = (inside, λ d. inr (same, inr (lengths, d)))
  where
    rest : ComesBefore ls ks ⊎ ((ls ≡ ks) × AreBefore vs ws) → AreBefore vs ws
    rest (inl c) = absurd (comes_irreflexive ks (subst (λ ns. ComesBefore ns ks) lengths c))
    rest (inr d) = d.1

    inside : IsBefore (way a ls vs) (way b ks ws) → AreBefore vs ws
    inside (inl lt) = absurd (omega arith)
    inside (inr d) = rest d.1
