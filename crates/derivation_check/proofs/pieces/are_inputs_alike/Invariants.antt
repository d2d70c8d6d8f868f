use Rattle.std.proofs.Common.{◌↔◌, map, drop}
use Rattle.std.specs.List.{AllZip}
use Rattle.scheme_terms.specs.View.{context_value}
use Rattle.rule_schemes.specs.View.{theory, statement_input}
use Rattle.derivation_check.specs.Fitting.{InputAlike}
use Rattle.derivation_check.specs.Pieces.{given_form}
use Rattle.derivation_check.proofs.pieces.are_inputs_alike.Given as goal

abbrev pub invariant-loop-i : goal.invariant-loop-i
invariant-loop-i l =
    AllZip (InputAlike (theory l.sys) l.metas (context_value l.ctx)) (map statement_input l.inputs) (map given_form l.forms)
    ↔ AllZip (InputAlike (theory l.sys) l.metas (context_value l.ctx)) (map statement_input (drop l.i l.inputs)) (map given_form (drop l.i l.forms))
