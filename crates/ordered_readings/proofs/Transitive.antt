-- Of three places in a row the first is before the last.
use Rattle.std.proofs.Common.{◌≡◌, ◌⊎◌, ℕ, List, [], ◌∷◌, inl, inr, ◌∙◌, sym, subst, arith}
use Rattle.rule_schemes.specs.Said.{Way, way, Ways, no_ways, then_way, ComesBefore, IsBefore, AreBefore}

pub comes_transitive : (ls ms ns : List ℕ) → ComesBefore ls ms → ComesBefore ms ns → ComesBefore ls ns
comes_transitive [] ms ns h k = absurd h
comes_transitive (l ∷ ls) [] ns h k = absurd h
comes_transitive (l ∷ ls) (m ∷ ms) [] h k = absurd k
comes_transitive (l ∷ ls) (m ∷ ms) (n ∷ ns) (inl h) (inl k) = inl (omega arith)
comes_transitive (l ∷ ls) (m ∷ ms) (n ∷ ns) (inl h) (inr k) = inl (omega (arith, k.0))
comes_transitive (l ∷ ls) (m ∷ ms) (n ∷ ns) (inr h) (inl k) = inl (omega (arith, h.0))
comes_transitive (l ∷ ls) (m ∷ ms) (n ∷ ns) (inr h) (inr k) = inr (h.0 ∙ k.0, comes_transitive ls ms ns h.1 k.1)

-- of lengths and of places, the lengths first, where the places are so
inside_transitive : (ls ms ns : List ℕ) (us vs ws : Ways) → (AreBefore us vs → AreBefore vs ws → AreBefore us ws) → ComesBefore ls ms ⊎ ((ls ≡ ms) × AreBefore us vs)
    → ComesBefore ms ns ⊎ ((ms ≡ ns) × AreBefore vs ws) → ComesBefore ls ns ⊎ ((ls ≡ ns) × AreBefore us ws)
inside_transitive ls ms ns us vs ws t (inl h) (inl k) = inl (comes_transitive ls ms ns h k)
inside_transitive ls ms ns us vs ws t (inl h) (inr k) = inl (subst (ComesBefore ls) k.0 h)
inside_transitive ls ms ns us vs ws t (inr h) (inl k) = inl (subst (λ xs. ComesBefore xs ns) (sym h.0) k)
inside_transitive ls ms ns us vs ws t (inr h) (inr k) = inr (h.0 ∙ k.0, t h.1 k.1)

mutual
  pub before_transitive : (u v w : Way) → IsBefore u v → IsBefore v w → IsBefore u w
  before_transitive (way a ls us) (way b ms vs) (way c ns ws) (inl h) (inl k) = inl (omega arith)
  before_transitive (way a ls us) (way b ms vs) (way c ns ws) (inl h) (inr k) = inl (omega (arith, k.0))
  before_transitive (way a ls us) (way b ms vs) (way c ns ws) (inr h) (inl k) = inl (omega (arith, h.0))
  before_transitive (way a ls us) (way b ms vs) (way c ns ws) (inr h) (inr k) =
      inr (h.0 ∙ k.0, inside_transitive ls ms ns us vs ws (are_transitive us vs ws) h.1 k.1)

  pub are_transitive : (us vs ws : Ways) → AreBefore us vs → AreBefore vs ws → AreBefore us ws
  are_transitive no_ways vs ws h k = absurd h
  are_transitive (then_way u us) no_ways ws h k = absurd h
  are_transitive (then_way u us) (then_way v vs) no_ways h k = absurd k
  are_transitive (then_way u us) (then_way v vs) (then_way w ws) (inl h) (inl k) = inl (before_transitive u v w h k)
  are_transitive (then_way u us) (then_way v vs) (then_way w ws) (inl h) (inr k) = inl (subst (IsBefore u) k.0 h)
  are_transitive (then_way u us) (then_way v vs) (then_way w ws) (inr h) (inl k) = inl (subst (λ x. IsBefore x w) (sym h.0) k)
  are_transitive (then_way u us) (then_way v vs) (then_way w ws) (inr h) (inr k) = inr (h.0 ∙ k.0, are_transitive us vs ws h.1 k.1)
