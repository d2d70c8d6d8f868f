use Rattle.std.proofs.Common.{◌≡◌, [], map, reverse, drop}
use Rattle.scheme_terms.specs.Context.{scope_after}
use Rattle.scheme_terms.specs.View.{ground_entry}
use Rattle.derivation_check.proofs.judged.scope_of.Given as goal

abbrev pub invariant-loop-entry : goal.invariant-loop-entry
invariant-loop-entry l =
    scope_after l.sig (reverse (map (λ c. c.0) l.scope.items)) (map ground_entry (drop l.entry-index l.ctx.entries)) ≡ scope_after l.sig [] (map ground_entry l.ctx.entries)
