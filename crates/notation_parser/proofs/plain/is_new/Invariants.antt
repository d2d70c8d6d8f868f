use Rattle.std.proofs.Common.{◌≢◌, ◌↔◌, drop}
use Rattle.std.specs.List.{AllByRecursion}
use Rattle.notation_parser.proofs.plain.is_new.Given as goal

abbrev pub invariant-loop-meta : goal.invariant-loop-meta
invariant-loop-meta l = AllByRecursion (λ m. l.one.name ≢ m.name) (drop l.meta-index l.metas) ↔ AllByRecursion (λ m. l.one.name ≢ m.name) l.metas
