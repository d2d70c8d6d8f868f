use Rattle.std.proofs.Common.{◌≡◌, ◌++◌, ℕ, Bool, map, drop}
use Rattle.scheme_terms.specs.View.{scheme_entry}
use Rattle.rule_schemes.specs.Raising.{TestsReach, raised_entries}
use Rattle.form_raising.proofs.forms.raised_entries_of.Given as goal

abbrev pub invariant-loop-place : goal.invariant-loop-place
invariant-loop-place l =
    (reaches : ℕ → ℕ → Bool) → TestsReach l.sig reaches →
    map scheme_entry l.all ++ raised_entries reaches l.metas (map (λ c. c.0) l.cats) l.place (map scheme_entry (drop l.place l.entries))
    ≡ raised_entries reaches l.metas (map (λ c. c.0) l.cats) 0 (map scheme_entry l.entries)
