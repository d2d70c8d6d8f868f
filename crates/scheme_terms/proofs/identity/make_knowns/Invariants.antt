use Rattle.std.proofs.Common.{◌≡◌, ◌++◌, map, drop}
use Rattle.scheme_terms.specs.Substituting.{knowns_from}
use Rattle.scheme_terms.specs.View.{known_variable}
use Rattle.scheme_terms.proofs.identity.make_knowns.Given as goal

abbrev pub invariant-loop-number : goal.invariant-loop-number
invariant-loop-number l = l.all ++ knowns_from l.number (map known_variable (drop l.number l.decls)) ≡ knowns_from 0 (map known_variable l.decls)
