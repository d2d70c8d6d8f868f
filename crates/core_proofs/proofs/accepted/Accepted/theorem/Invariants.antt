use Rattle.std.proofs.Common.{◌≢◌, ℕ, ◌<◌, map, slice_get}
use Rattle.std.specs.Prelude.{MatchOption}
use Rattle.rule_schemes.specs.View.{statement}
use Rattle.core_proofs.proofs.accepted.Accepted.theorem.Given as goal

abbrev pub invariant-loop-i : goal.invariant-loop-i
invariant-loop-i l = (k : ℕ) → k < l.i → MatchOption (slice_get (map statement l.self-inside.statements.items) k) ⊥ (λ st. st.name ≢ l.name)
