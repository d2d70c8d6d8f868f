use Rattle.std.proofs.Common.{◌≡◌, ◌↔◌, [], drop}
use Rattle.std.specs.List.{AllByRecursion}
use Rattle.notation_parser.proofs.plain.no_parameters.Given as goal

abbrev pub invariant-loop-meta : goal.invariant-loop-meta
invariant-loop-meta l = AllByRecursion (λ m. m.params ≡ []) (drop l.meta-index l.metas) ↔ AllByRecursion (λ m. m.params ≡ []) l.metas
