use Rattle.std.proofs.Common.{drop, ℕ, Option}
use Rattle.coverage_check.specs.Missing.{IsTermMissing, IsFirstSo, IsFirstTermMissing}
use Rattle.coverage_check.proofs.open_choices.missing_term.Given as goal

abbrev pub invariant-loop-place : goal.invariant-loop-place
invariant-loop-place l =
    (o : Option ℕ) → IsFirstSo (IsTermMissing l.named.items) l.place (drop l.place l.choices.items) o → IsFirstTermMissing l.choices.items l.named.items o
