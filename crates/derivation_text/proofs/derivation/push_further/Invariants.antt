use Rattle.std.proofs.Common.{◌≡◌, ◌++◌, drop}
use Rattle.derivation_text.specs.Text.{further_names}
use Rattle.derivation_text.proofs.derivation.push_further.Given as goal

abbrev pub invariant-loop-line : goal.invariant-loop-line
invariant-loop-line l = l.text ++ further_names (drop l.line-index l.lines) ≡ l.initial.text ++ further_names l.lines
