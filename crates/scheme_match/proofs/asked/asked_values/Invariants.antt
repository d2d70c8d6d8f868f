use Rattle.std.proofs.Common.{◌≡◌, length, map, option_map}
use Rattle.binding_terms.specs.Numbered.{AllNumbered}
use Rattle.binding_terms.specs.View.{tree}
use Rattle.scheme_terms.specs.View.{context_value}
use Rattle.scheme_match.specs.Pairs.{matched}
use Rattle.scheme_match.specs.Demands.{IsAsked}
use Rattle.scheme_match.proofs.asked.asked_values.Given as goal

abbrev pub invariant-loop-i : goal.invariant-loop-i
invariant-loop-i l =
    (length l.all ≡ l.i) × AllNumbered (IsAsked (context_value l.root) (map matched l.pairs)) 0 (map (option_map tree) l.all)
