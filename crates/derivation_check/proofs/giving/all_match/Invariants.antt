use Rattle.std.proofs.Common.{◌↔◌, map, drop}
use Rattle.std.specs.List.{AllByRecursion}
use Rattle.scheme_terms.specs.View.{instance as view}
use Rattle.rule_schemes.specs.View.{statement_input}
use Rattle.derivation_check.specs.Fitting.{PieceMatches}
use Rattle.derivation_check.specs.Pieces.{piece}
use Rattle.derivation_check.proofs.giving.all_match.Given as goal

abbrev pub invariant-loop-one : goal.invariant-loop-one
invariant-loop-one l =
    AllByRecursion (PieceMatches (map statement_input l.inputs) (view l.inst)) (map piece (drop l.one-index l.pieces))
    ↔ AllByRecursion (PieceMatches (map statement_input l.inputs) (view l.inst)) (map piece l.pieces)
