use Rattle.std.proofs.Common.{◌≡◌, ◌++◌, map, drop}
use Rattle.scheme_terms.specs.View.{context_value}
use Rattle.rule_schemes.specs.View.{statement_input}
use Rattle.derivation_check.specs.Fitting.{all_pieces}
use Rattle.derivation_check.specs.Pieces.{piece, given_form}
use Rattle.derivation_check.proofs.pieces.all_pieces.Given as goal

abbrev pub invariant-loop-i : goal.invariant-loop-i
invariant-loop-i l =
    map piece l.pieces.items ++ all_pieces (context_value l.ctx) (map statement_input (drop l.i l.inputs)) (map given_form (drop l.i l.forms))
    ≡ all_pieces (context_value l.ctx) (map statement_input l.inputs) (map given_form l.forms)
