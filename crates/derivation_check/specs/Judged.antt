-- Terms for categories, place by place. No public clause cites it.
use Rattle.std.specs.Prelude.{ℕ, List, [], ◌∷◌}
use Rattle.binding_terms.specs.Tree.{Tree}
use Rattle.binding_terms.specs.Signature.{Signature}
use Rattle.binding_terms.specs.Scope.{IsTerm}

abbrev pub AreTerms : Signature → (scope cats : List ℕ) → List Tree → Type 0
AreTerms sig scope [] [] = Unit {0}
AreTerms sig scope (c ∷ cs) (t ∷ ts) = IsTerm sig scope c t × AreTerms sig scope cs ts
AreTerms sig scope _ _ = ⊥
