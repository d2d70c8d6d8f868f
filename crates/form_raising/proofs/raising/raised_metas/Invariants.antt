use Rattle.std.proofs.Common.{◌≡◌, ℕ, Bool, map, take}
use Rattle.rule_schemes.specs.Raising.{TestsReach, raised_decl}
use Rattle.form_raising.proofs.raising.raised_metas.Given as goal

abbrev pub invariant-loop-decl : goal.invariant-loop-decl
invariant-loop-decl l =
    (reaches : ℕ → ℕ → Bool) → TestsReach l.sig reaches → l.all ≡ map (raised_decl reaches (map (λ c. c.0) l.cats)) (take l.decl-index l.metas)
