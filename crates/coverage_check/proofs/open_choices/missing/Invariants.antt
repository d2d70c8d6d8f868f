use Rattle.std.proofs.Common.{drop, ℕ, Option}
use Rattle.coverage_check.specs.Missing.{IsMissing, IsFirstSo, IsFirstMissing}
use Rattle.coverage_check.proofs.open_choices.missing.Given as goal

abbrev pub invariant-loop-place : goal.invariant-loop-place
invariant-loop-place l =
    (o : Option ℕ) → IsFirstSo (IsMissing l.named.items) l.place (drop l.place l.choices.items) o → IsFirstMissing l.choices.items l.named.items o
