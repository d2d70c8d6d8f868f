use Rattle.std.proofs.Common.{◌≡◌, length, map, option_map}
use Rattle.binding_terms.specs.View.{tree}
use Rattle.binding_terms.specs.Numbered.{AllNumbered}
use Rattle.rule_schemes.specs.View.{statement_input}
use Rattle.derivation_check.specs.Pieces.{piece}
use Rattle.derivation_check.specs.Settling.{IsValueFor}
use Rattle.derivation_check.proofs.giving.settled_values.Given as goal

abbrev pub invariant-loop-i : goal.invariant-loop-i
invariant-loop-i l =
    (length (map (option_map tree) l.all) ≡ l.i) × AllNumbered (IsValueFor (map statement_input l.inputs) (map piece l.pieces)) 0 (map (option_map tree) l.all)
