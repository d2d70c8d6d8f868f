use Rattle.std.proofs.Common.{◌≤◌, ℕ, map}
use Rattle.scheme_terms.specs.View.{context_value}
use Rattle.rule_schemes.specs.View.{theory}
use Rattle.rule_schemes.specs.View.{statement as theorem}
use Rattle.derivation_check.specs.Fitting.{FitSoFar}
use Rattle.derivation_check.specs.Pieces.{given_form}
use Rattle.derivation_check.proofs.giving.fits.Given as goal

abbrev pub invariant-loop-i : goal.invariant-loop-i
invariant-loop-i l = (k : ℕ) → k ≤ l.i → FitSoFar (theory l.sys) (theorem l.statement) (context_value l.ctx) (map given_form l.forms.items) k
