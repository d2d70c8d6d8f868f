use Rattle.std.proofs.Common.{◌↔◌, map, drop}
use Rattle.rule_schemes.specs.Rules.{HasVariableOnce}
use Rattle.scheme_terms.specs.View.{scheme}
use Rattle.rule_schemes.proofs.free.has_variable_once.Given as goal

abbrev pub invariant-loop-i : goal.invariant-loop-i
invariant-loop-i l = HasVariableOnce (map scheme (drop l.i l.args)) ↔ HasVariableOnce (map scheme l.args)
