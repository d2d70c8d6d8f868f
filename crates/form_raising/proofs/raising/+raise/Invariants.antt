use Rattle.std.proofs.Common.{◌≡◌, ℕ, Bool, map, take}
use Rattle.scheme_terms.specs.View.{scheme, scheme_part}
use Rattle.rule_schemes.specs.Raising.{TestsReach, raised}
use Rattle.form_raising.proofs.Arguments.{raised_part}
use Rattle.form_raising.proofs.raising.+raise.Given as goal

abbrev pub invariant-raised_args-loop-arg : goal.invariant-raised_args-loop-arg
invariant-raised_args-loop-arg l =
    (reaches : ℕ → ℕ → Bool) → TestsReach l.sig reaches →
    map scheme l.all ≡ map (raised reaches l.metas (map (λ c. c.0) l.cats) l.locals) (map scheme (take l.arg-index l.args))

abbrev pub invariant-raised_bodies-loop-part : goal.invariant-raised_bodies-loop-part
invariant-raised_bodies-loop-part l =
    (reaches : ℕ → ℕ → Bool) → TestsReach l.sig reaches →
    map scheme_part l.all ≡ map (raised_part reaches l.metas (map (λ c. c.0) l.cats) l.locals) (map scheme_part (take l.part-index l.parts))
