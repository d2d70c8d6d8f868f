use Rattle.std.proofs.Common.{◌≡◌, ◌++◌, map, drop}
use Rattle.scheme_terms.specs.Substituting.{metas_from}
use Rattle.scheme_terms.specs.View.{scheme}
use Rattle.scheme_terms.proofs.identity.make_metas.Given as goal

abbrev pub invariant-loop-number : goal.invariant-loop-number
invariant-loop-number l = map scheme l.all ++ metas_from l.number (drop l.number l.decls) ≡ metas_from 0 l.decls
