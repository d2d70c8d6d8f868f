use Rattle.std.proofs.Common.{◌≡◌, map, length}
use Rattle.derivation_text.specs.Forms as forms
use Rattle.derivation_text.proofs.signs.is_among.Given as goal

abbrev pub invariant-loop-table : goal.invariant-loop-table
invariant-loop-table l = forms.is_among (map (λ w. w.now) l.table) l.text ≡ forms.is_among (map (λ w. w.now) l.initial.table) l.text

abbrev pub decreases-loop-table : goal.decreases-loop-table
decreases-loop-table l = length l.table
