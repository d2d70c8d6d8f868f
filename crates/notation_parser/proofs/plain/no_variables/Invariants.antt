use Rattle.std.proofs.Common.{◌≡◌, ◌↔◌, None, drop}
use Rattle.std.specs.List.{AllByRecursion}
use Rattle.notation_parser.proofs.plain.no_variables.Given as goal

abbrev pub invariant-loop-cat : goal.invariant-loop-cat
invariant-loop-cat l = AllByRecursion (λ c. c.var ≡ None) (drop l.cat-index l.cats) ↔ AllByRecursion (λ c. c.var ≡ None) l.cats
