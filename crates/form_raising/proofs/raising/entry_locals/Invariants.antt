use Rattle.std.proofs.Common.{◌≡◌, ℕ, Bool, map, drop}
use Rattle.scheme_terms.specs.SchemeTree.{Values}
use Rattle.scheme_terms.specs.View.{scheme}
use Rattle.rule_schemes.specs.Raising.{TestsReach, with_entries}
use Rattle.form_raising.specs.Before.{before}
use Rattle.form_raising.proofs.raising.entry_locals.Given as goal

abbrev pub invariant-loop-place : goal.invariant-loop-place
invariant-loop-place l =
    (reaches : ℕ → ℕ → Bool) → TestsReach l.sig reaches → (rest : Values) →
    before (map scheme l.all) (with_entries reaches l.cat.0 (map (λ c. c.0) (drop l.place l.cats)) l.locals rest)
    ≡ with_entries reaches l.cat.0 (map (λ c. c.0) l.cats) l.locals rest
