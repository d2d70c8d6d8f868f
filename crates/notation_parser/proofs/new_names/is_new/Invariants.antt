use Rattle.std.proofs.Common.{◌≢◌, ◌↔◌, drop}
use Rattle.std.specs.List.{AllByRecursion}
use Rattle.notation_parser.proofs.new_names.is_new.Given as goal

abbrev pub invariant-loop-decl : goal.invariant-loop-decl
invariant-loop-decl l = AllByRecursion (λ m. m.name ≢ l.name) (drop l.decl-index l.metas) ↔ AllByRecursion (λ m. m.name ≢ l.name) l.metas
