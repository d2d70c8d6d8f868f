-- The reading order goes on from one place to the next, and the places of slots count from the left.
use Rattle.std.proofs.Common.{◌≡◌, ◌⊎◌, ℕ, List, [], ◌∷◌, inl, inr, refl, ◌∙◌, sym, subst, arith}
use Rattle.rule_schemes.specs.Said.{Way, way, Ways, no_ways, then_way, ComesBefore, IsBefore, AreBefore}
use Rattle.notation_parser.specs.Forms.{then_ways}

comes_trans : (ls ms ns : List ℕ) → ComesBefore ls ms → ComesBefore ms ns → ComesBefore ls ns
comes_trans [] ms ns h k = absurd h
comes_trans (l ∷ ls) [] ns h k = absurd h
comes_trans (l ∷ ls) (m ∷ ms) [] h k = absurd k
comes_trans (l ∷ ls) (m ∷ ms) (n ∷ ns) (inl h) (inl k) = inl (omega (arith, h, k))
comes_trans (l ∷ ls) (m ∷ ms) (n ∷ ns) (inl h) (inr k) = inl (omega (arith, h, k.0))
comes_trans (l ∷ ls) (m ∷ ms) (n ∷ ns) (inr h) (inl k) = inl (omega (arith, h.0, k))
comes_trans (l ∷ ls) (m ∷ ms) (n ∷ ns) (inr h) (inr k) = inr (h.0 ∙ k.0, comes_trans ls ms ns h.1 k.1)

slots_trans : (ls ms ns : List ℕ) (us vs ws : Ways) → (AreBefore us vs → AreBefore vs ws → AreBefore us ws) → ComesBefore ls ms ⊎ ((ls ≡ ms) × AreBefore us vs)
    → ComesBefore ms ns ⊎ ((ms ≡ ns) × AreBefore vs ws) → ComesBefore ls ns ⊎ ((ls ≡ ns) × AreBefore us ws)
slots_trans ls ms ns us vs ws on (inl h) (inl k) = inl (comes_trans ls ms ns h k)
slots_trans ls ms ns us vs ws on (inl h) (inr k) = inl (subst (ComesBefore ls) k.0 h)
slots_trans ls ms ns us vs ws on (inr h) (inl k) = inl (subst (λ xs. ComesBefore xs ns) (sym h.0) k)
slots_trans ls ms ns us vs ws on (inr h) (inr k) = inr (h.0 ∙ k.0, on h.1 k.1)

mutual
  pub before_trans : (u v w : Way) → IsBefore u v → IsBefore v w → IsBefore u w
  before_trans (way a ls us) (way b ms vs) (way c ns ws) (inl h) (inl k) = inl (omega (arith, h, k))
  before_trans (way a ls us) (way b ms vs) (way c ns ws) (inl h) (inr k) = inl (omega (arith, h, k.0))
  before_trans (way a ls us) (way b ms vs) (way c ns ws) (inr h) (inl k) = inl (omega (arith, h.0, k))
  before_trans (way a ls us) (way b ms vs) (way c ns ws) (inr h) (inr k) =
      inr (h.0 ∙ k.0, slots_trans ls ms ns us vs ws (λ p q. are_trans us vs ws p q) h.1 k.1)

  pub are_trans : (us vs ws : Ways) → AreBefore us vs → AreBefore vs ws → AreBefore us ws
  are_trans no_ways vs ws h k = absurd h
  are_trans (then_way u us) no_ways ws h k = absurd h
  are_trans (then_way u us) (then_way v vs) no_ways h k = absurd k
  are_trans (then_way u us) (then_way v vs) (then_way w ws) (inl h) (inl k) = inl (before_trans u v w h k)
  are_trans (then_way u us) (then_way v vs) (then_way w ws) (inl h) (inr k) = inl (subst (IsBefore u) k.0 h)
  are_trans (then_way u us) (then_way v vs) (then_way w ws) (inr h) (inl k) = inl (subst (λ x. IsBefore x w) (sym h.0) k)
  are_trans (then_way u us) (then_way v vs) (then_way w ws) (inr h) (inr k) = inr (h.0 ∙ k.0, are_trans us vs ws h.1 k.1)

-- what stands in front counts first
pub front_before : (us vs rest other : Ways) → AreBefore us vs → AreBefore (then_ways us rest) (then_ways vs other)
front_before no_ways vs rest other h = absurd h
front_before (then_way u us) no_ways rest other h = absurd h
front_before (then_way u us) (then_way v vs) rest other (inl h) = inl h
front_before (then_way u us) (then_way v vs) rest other (inr h) = inr (h.0, front_before us vs rest other h.1)

-- and behind the same places those that follow
pub rest_before : (us rest other : Ways) → AreBefore rest other → AreBefore (then_ways us rest) (then_ways us other)
rest_before no_ways rest other h = h
rest_before (then_way u us) rest other h = inr (refl, rest_before us rest other h)
