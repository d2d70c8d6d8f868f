use Rattle.std.proofs.Common.{◌↔◌, map, drop}
use Rattle.scheme_terms.specs.SchemeTree.{SchemeTree}
use Rattle.derivation_check.specs.Pieces.{piece}
use Rattle.derivation_check.specs.Settling.{PiecesDemand}
use Rattle.derivation_check.proofs.giving.asked.Given as goal

abbrev pub invariant-loop-one : goal.invariant-loop-one
invariant-loop-one l = (v : SchemeTree) → PiecesDemand l.m.0 (map piece (drop l.one-index l.pieces)) v ↔ PiecesDemand l.m.0 (map piece l.pieces) v
