use Rattle.std.proofs.Common.{◌≡◌, ℕ, Bool, map, take}
use Rattle.rule_schemes.specs.Raising.{TestsReach, raised_judgment}
use Rattle.rule_schemes.specs.View.{judgment_scheme}
use Rattle.form_raising.proofs.forms.raised_premises.Given as goal

abbrev pub invariant-loop-premise : goal.invariant-loop-premise
invariant-loop-premise l =
    (reaches : ℕ → ℕ → Bool) → TestsReach l.sig reaches →
    map judgment_scheme l.all ≡ map (raised_judgment reaches l.metas (map (λ c. c.0) l.cats)) (map judgment_scheme (take l.premise-index l.premises))
