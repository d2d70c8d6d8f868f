use Rattle.std.proofs.Common.{◌↔◌, map, drop}
use Rattle.binding_terms.specs.Numbered.{AnyByRecursion}
use Rattle.scheme_terms.specs.SchemeTree.{OccursIn}
use Rattle.scheme_terms.specs.View.{scheme}
use Rattle.rule_schemes.proofs.occurrences.occurs_in_any.Given as goal

abbrev pub invariant-loop-s : goal.invariant-loop-s
invariant-loop-s l = AnyByRecursion (OccursIn l.m.0) (map scheme (drop l.s-index l.schemes)) ↔ AnyByRecursion (OccursIn l.m.0) (map scheme l.schemes)
