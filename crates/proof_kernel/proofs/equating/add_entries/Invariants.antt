use Rattle.std.proofs.Common.{◌≡◌, ◌↔◌, ◌++◌, map, drop, reverse}
use Rattle.std.specs.List.{AllZip}
use Rattle.scheme_terms.specs.SchemeScope.{entry_variables}
use Rattle.scheme_terms.specs.View.{scheme_entry}
use Rattle.pattern_unify.specs.Equations.{equation}
use Rattle.proof_kernel.specs.Equating.{AreLike, entry_equations}
use Rattle.proof_kernel.proofs.equating.add_entries.Given as goal

abbrev pub invariant-loop-i : goal.invariant-loop-i
invariant-loop-i l = record {
  like : AllZip AreLike (map scheme_entry l.patterns) (map scheme_entry l.targets)
      ↔ AllZip AreLike (map scheme_entry (drop l.i l.patterns)) (map scheme_entry (drop l.i l.targets));
  put : map equation l.equations.items
      ++ entry_equations l.sig (reverse (map (λ c. c.0) l.locals.items)) (map scheme_entry (drop l.i l.patterns)) (map scheme_entry (drop l.i l.targets))
      ≡ map equation l.fn.equations.items
      ++ entry_equations l.sig (reverse (map (λ c. c.0) l.fn.locals.items)) (map scheme_entry l.patterns) (map scheme_entry l.targets);
  locals : entry_variables l.sig (reverse (map (λ c. c.0) l.locals.items)) (map scheme_entry (drop l.i l.patterns))
      ≡ entry_variables l.sig (reverse (map (λ c. c.0) l.fn.locals.items)) (map scheme_entry l.patterns);
}
