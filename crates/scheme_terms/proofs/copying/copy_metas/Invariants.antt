use Rattle.std.proofs.Common.{◌≡◌, take}
use Rattle.scheme_terms.proofs.copying.copy_metas.Given as goal

abbrev pub invariant-loop-decl : goal.invariant-loop-decl
invariant-loop-decl l = l.all ≡ take l.decl-index l.decls
