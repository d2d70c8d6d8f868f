use Rattle.std.proofs.Common.{◌≡◌, ◌++◌, ℕ, Bool, map, filter, drop}
use Rattle.rule_schemes.specs.Raising.{TestsReach}
use Rattle.form_raising.proofs.raising.reached.Given as goal

abbrev pub invariant-loop-other : goal.invariant-loop-other
invariant-loop-other l =
    (reaches : ℕ → ℕ → Bool) → TestsReach l.sig reaches →
    l.all ++ map (λ v. record { 0 = v }) (filter (reaches l.cat.0) (map (λ c. c.0) (drop l.other-index l.cats)))
    ≡ map (λ v. record { 0 = v }) (filter (reaches l.cat.0) (map (λ c. c.0) l.cats))
