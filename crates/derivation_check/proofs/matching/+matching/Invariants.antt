use Rattle.std.proofs.Common.{◌↔◌, map, drop}
use Rattle.binding_terms.specs.View.{args_tree}
use Rattle.scheme_terms.specs.View.{scheme_parts}
use Rattle.scheme_terms.specs.View.{instance as view}
use Rattle.rule_schemes.specs.View.{statement_input}
use Rattle.derivation_check.specs.Fitting.{PartsMatch}
use Rattle.derivation_check.proofs.matching.+matching.Given as goal

abbrev pub invariant-parts_match-loop-i : goal.invariant-parts_match-loop-i
invariant-parts_match-loop-i l =
    PartsMatch (map statement_input l.inputs) (view l.inst) l.locals (scheme_parts l.patterns) (args_tree l.targets)
    ↔ PartsMatch (map statement_input l.inputs) (view l.inst) l.locals (scheme_parts (drop l.i l.patterns)) (args_tree (drop l.i l.targets))
