use Rattle.std.proofs.Common.{◌≡◌, ℕ, Bool, map, take}
use Rattle.scheme_terms.specs.View.{scheme}
use Rattle.rule_schemes.specs.Raising.{TestsReach, raised}
use Rattle.form_raising.proofs.forms.raised_list.Given as goal

abbrev pub invariant-loop-arg : goal.invariant-loop-arg
invariant-loop-arg l =
    (reaches : ℕ → ℕ → Bool) → TestsReach l.sig reaches →
    map scheme l.all ≡ map (raised reaches l.metas (map (λ c. c.0) l.cats) l.locals) (map scheme (take l.arg-index l.args))
