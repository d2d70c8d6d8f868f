-- The first rule of a system that fails what is asked of judgments without a context, with all rules in place. To be held against
-- docs/definitions.md, 'Systems'.
use Rattle.std.specs.Prelude.{◌≡◌, ◌⊎◌, ℕ, suc, List, [], ◌∷◌}
use Rattle.rule_schemes.specs.Rules.{Rule, Theory, NeedsNoContext}

-- the first rule in which a premise without a context may not stand has this number, where the first of the list has the number n
abbrev pub IsFirstOpen : Theory → (n : ℕ) → List Rule → (number : ℕ) → Type 0
IsFirstOpen th n [] k = ⊥
IsFirstOpen th n (r ∷ rs) k = ((n ≡ k) × (NeedsNoContext th r → ⊥)) ⊎ (NeedsNoContext th r × IsFirstOpen th (suc n) rs k)
