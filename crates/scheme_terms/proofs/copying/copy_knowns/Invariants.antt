use Rattle.std.proofs.Common.{◌≡◌, map, take}
use Rattle.scheme_terms.specs.View.{known_variable}
use Rattle.scheme_terms.proofs.copying.copy_knowns.Given as goal

abbrev pub invariant-loop-decl : goal.invariant-loop-decl
invariant-loop-decl l = map known_variable l.all ≡ map known_variable (take l.decl-index l.decls)
