use Rattle.std.proofs.Common.{◌≡◌, ◌↔◌, None, drop}
use Rattle.std.specs.List.{AllByRecursion}
use Rattle.notation_parser.proofs.plain.no_contexts.Given as goal

abbrev pub invariant-loop-judgment : goal.invariant-loop-judgment
invariant-loop-judgment l = AllByRecursion (λ j. j.ctx ≡ None) (drop l.judgment-index l.judgments) ↔ AllByRecursion (λ j. j.ctx ≡ None) l.judgments
